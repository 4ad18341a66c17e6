-- What is asked in turn, up to the first refusal: row refusals, the copy's room, the changes' room; else what was written is what the rows come to.
use mathlib.Core.Path.{◌≡◌, refl, sym, ap, ◌∙◌}
use mathlib.Core.Bool.{Bool, true, false}
use mathlib.Core.List.{List, [], ◌∷◌, ◌++◌}
use Prim.Native.Nat.{ℕ, ◌%◌, ◌≤◌}
use native.Mathlib.Omega.{arith}
use lib.ListN.{length, drop}
use lib.Dec.{ltb}
use borrow.Author.Tests.{eqb-true}
use Rattle.refusals.specs.declared.Refusal.{Refusal}
use Rattle.refusals.specs.declared.Refusal.TheVariants.{NoRoomForRows}
use Rattle.std.specs.Prelude.{Ok, Err}
use Rattle.refusals.specs.Answers.{Verdict, Judged}
use Rattle.refusals.specs.declared.Told.{Told}
use Rattle.refusals.specs.Numbers.{told_of, answer_in, answered}
use Rattle.refusals.specs.Order.{when, said_of_row, foremost}
use Rattle.refusals.proofs.Order.{foremost-here, foremost-on}
use Rattle.refusals.proofs.Numbered.{over}
use Rattle.coded.specs.Coded.{read_verdict}
use Rattle.prefixes.proofs.Tests.{and_both}
use Rattle.places.specs.Items.{kernel_of, row_at, row_count, total}
use Rattle.places.specs.Left.{gather}
use Rattle.counts.specs.declared.Counting.TheVariants.{Instructions}
use Rattle.counts.specs.Counts.{amount, list_judged, Passes, Counts}
use Rattle.counts.proofs.Numbers.{passes-good, count_zero}
use Rattle.stores.specs.Stores.{Begins}
use Rattle.widening.specs.declared.ToldWidened.{ToldWidened}
use Rattle.widening.specs.Widening.{pairs, copied, listed, changed, copy_room, list_room, widen_judged, widened_of, told_widened, laid, Widens}
use Rattle.widening.specs.Walks.{Writes}

-- a refusal of a list, told of widening
abbrev told_so : Told → ToldWidened
told_so t = record { number = t.number; changes = 0; first = t.first; second = t.second; third = t.third; paired = 0; spare = 0 }

module _ (rows names copy list : List ℕ) where
  abbrev row-judged : Judged
  row-judged = list_judged read_verdict rows names

  abbrev copy-judged : Judged
  copy-judged = said_of_row 0 (when (ltb (copy_room copy) (row_count rows)) (NoRoomForRows (copy_room copy)))

  abbrev list-judged : Judged
  list-judged = said_of_row 0 (when (ltb (list_room list) (changed rows names)) (NoRoomForRows (list_room list)))

  settled : (j : Judged) → widen_judged rows names copy list ≡ j → {told : ToldWidened} {copy' list' : List ℕ} → told ≡ told_widened (widened_of rows names j) →
      copy' ≡ laid j.verdict (gather (copied rows names) (row_count rows)) copy → list' ≡ laid j.verdict (gather (listed rows names) (row_count rows)) list →
      Widens rows names copy list told copy' list'
  settled j e t c l =
      record {
        answer = t ∙ ap (λ (j : Judged). told_widened (widened_of rows names j)) (sym e);
        copy_left = c ∙ ap (λ (j : Judged). laid j.verdict (gather (copied rows names) (row_count rows)) copy) (sym e);
        list_left = l ∙ ap (λ (j : Judged). laid j.verdict (gather (listed rows names) (row_count rows)) list) (sym e);
      }

  -- ---- 1 and the row refusals
  pub rows-refused : (r : Refusal) (row : ℕ) → Counts Instructions rows names (answered (Err (record { why = r; row = row }))) → Widens rows names copy list (told_widened (Err (record { why = r; row = row }))) copy list
  rows-refused r row c = go row-judged.verdict refl
    where
      go : (v : Verdict) → row-judged.verdict ≡ v → Widens rows names copy list (told_widened (Err (record { why = r; row = row }))) copy list
      go (Ok _) e =
          absurd (let h = over r in let z : (told_of r).number ≡ 0 = (count_zero Instructions rows names c).1 ((passes-good read_verdict rows names).0 e) in omega arith)
      go (Err why) e =
          settled (said_of_row row-judged.row (Err why)) (foremost-here row-judged (copy-judged ∷ list-judged ∷ []) e ∙ ap (said_of_row row-judged.row) e)
          (ap told_so (c ∙ ap (λ (v : Verdict). answered (answer_in row-judged.row v (total (amount Instructions) (row_at rows names) (row_count rows)))) e)) refl refl

  -- ---- every row is read
  pub rows-read : {m : ℕ} → Counts Instructions rows names (answered (Ok m)) → Passes read_verdict rows names
  rows-read c = (count_zero Instructions rows names c).0 refl

  module _ (read : Passes read_verdict rows names) where
    -- whole rows that fit the copy's room fit the copy
    pub rows_fit : row_count rows ≤ copy_room copy → length rows ≤ length copy
    rows_fit h = let z : length rows % 17 ≡ 0 = eqb-true _ _ (and_both _ _ read.formed).0 in omega arith

    past-rows : widen_judged rows names copy list ≡ foremost (copy-judged ∷ list-judged ∷ [])
    past-rows = foremost-on row-judged (copy-judged ∷ list-judged ∷ []) ((passes-good read_verdict rows names).1 read)

    pub copy-full : ltb (copy_room copy) (row_count rows) ≡ true → Widens rows names copy list (told_widened (Err (record { why = NoRoomForRows (copy_room copy); row = 0 }))) copy list
    copy-full h =
        let e = ap (λ (t : Bool). when t (NoRoomForRows (copy_room copy))) h in
        settled (said_of_row 0 (Err (NoRoomForRows (copy_room copy)))) (past-rows ∙ foremost-here copy-judged (list-judged ∷ []) e ∙ ap (said_of_row 0) e) refl refl refl

    module _ (room : ltb (copy_room copy) (row_count rows) ≡ false) where
      past-copy : widen_judged rows names copy list ≡ foremost (list-judged ∷ [])
      past-copy = past-rows ∙ foremost-on copy-judged (list-judged ∷ []) (ap (λ (t : Bool). when t (NoRoomForRows (copy_room copy))) room)

      pub list_full : ltb (list_room list) (changed rows names) ≡ true → Widens rows names copy list (told_widened (Err (record { why = NoRoomForRows (list_room list); row = 0 }))) copy list
      list_full h =
          let e = ap (λ (t : Bool). when t (NoRoomForRows (list_room list))) h in
          settled (said_of_row 0 (Err (NoRoomForRows (list_room list)))) (past-copy ∙ foremost-here list-judged [] e ∙ ap (said_of_row 0) e) refl refl refl

      -- the slices are as long as what was written says
      pub all-written : ltb (list_room list) (changed rows names) ≡ false → {count : ℕ} {paired : Bool} → count ≡ changed rows names → paired ≡ pairs (kernel_of rows names) →
          {copy' list' : List ℕ} → Writes rows names copy list copy' list' → Widens rows names copy list (told_widened (Ok (record { changes = count; paired = paired }))) copy' list'
      all-written h {count} {paired} c p {copy'} {list'} w =
          settled (said_of_row 0 (Ok tt)) (past-copy ∙ foremost-on list-judged [] (ap (λ (t : Bool). when t (NoRoomForRows (list_room list))) h))
          (rw (c, p) refl) (begun w.copy_left) (begun w.list_left)
        where
          begun : {old front new : List ℕ} {n : ℕ} → Begins old front n new → new ≡ front ++ drop (length front) old
          begun {old} {front} b = b.here ∙ ap (λ (n : ℕ). front ++ drop n old) (sym b.long)
