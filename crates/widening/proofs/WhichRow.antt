-- A refusal is the list's own, 1 or its first row's; or, where every row is read, 36 of the room that does not suffice.
use mathlib.Core.Path.{◌≡◌, refl, sym, ap, ◌∙◌}
use mathlib.Core.Logic.{inl, inr, ⊎_elim}
use mathlib.Core.Bool.{Bool, true, false}
use mathlib.Core.List.{List, [], ◌∷◌}
use Prim.Native.Nat.{ℕ, ◌≤◌}
use native.Mathlib.Omega.{arith}
use lib.Dec.{ltb}
use borrow.Author.Tests.{ltb-true, ltb-false}
use Rattle.refusals.specs.declared.Refusal.{Refusal}
use Rattle.refusals.specs.declared.Refusal.TheVariants.{RowSlice, NoRoomForRows}
use Rattle.std.specs.Prelude.{Ok, Err}
use Rattle.refusals.specs.Answers.{Verdict, Judged}
use Rattle.refusals.specs.Calls.{reading}
use Rattle.refusals.specs.Order.{when, said_of_row, foremost}
use Rattle.refusals.proofs.Numbered.{checked}
use Rattle.refusals.proofs.Within.{none, other}
use Rattle.refusals.proofs.Order.{foremost-here, foremost-on}
use Rattle.coded.specs.Coded.{read_verdict}
use Rattle.places.specs.Items.{row_at, row_count}
use Rattle.counts.specs.Counts.{list_judged, Passes}
use Rattle.counts.proofs.Numbers.{passes-good, read-tells}
use Rattle.counts.proofs.WhichRow.{listed-row, names-other}
use Rattle.widening.specs.declared.ToldWidened.{ToldWidened}
use Rattle.widening.specs.Widening.{changed, copy_room, list_room, widened_of, told_widened, Widens}
use Rattle.widening.specs.WhichRow.{NamesFirst, NoRoom, NamesRow}
use Rattle.widening.proofs.Numbers.{judged}

module _ (rows names copy list : List ℕ) where
  -- ---- the three that are asked in turn
  abbrev asked : Judged
  asked = list_judged read_verdict rows names

  abbrev short : Judged
  short = said_of_row 0 (when (ltb (copy_room copy) (row_count rows)) (NoRoomForRows (copy_room copy)))

  abbrev full : Judged
  full = said_of_row 0 (when (ltb (list_room list) (changed rows names)) (NoRoomForRows (list_room list)))

  abbrev tells : Judged → ToldWidened
  tells j = told_widened (widened_of rows names j)

  data Says (t : ToldWidened) : Type 0 where
    accepted : t.number ≡ 0 → Says t
    of-slice : t ≡ told_widened (Err (record { why = RowSlice; row = 0 })) → Says t
    of_row : NamesFirst rows names t → Says t
    of_room : Passes read_verdict rows names → NoRoom rows names copy list t → Says t

  module _ (t : ToldWidened) (is : t ≡ tells (judged rows names copy list)) where
    list-says : (why : Refusal) → asked.verdict ≡ Err why → Says t
    list-says why e =
        let s : t ≡ tells asked = is ∙ ap tells (foremost-here asked (short ∷ full ∷ []) e) in
        ⊎_elim (λ j. of-slice (s ∙ ap tells j)) (λ w. of_row (record { row = asked.row; why = why; first = w; said = s ∙ rw e })) (listed-row read_verdict rows names e)

    module _ (g : asked.verdict ≡ Ok tt) where
      passes : Passes read_verdict rows names
      passes = (passes-good read_verdict rows names).0 g

      on : judged rows names copy list ≡ foremost (short ∷ full ∷ [])
      on = foremost-on asked (short ∷ full ∷ []) g

      full-says : row_count rows ≤ copy_room copy → short.verdict ≡ Ok tt → (b : Bool) → ltb (list_room list) (changed rows names) ≡ b → Says t
      full-says h s true e = of_room passes (inr (h, ltb-true _ _ e, is ∙ ap tells (on ∙ foremost-on short (full ∷ []) s) ∙ rw e))
      full-says h s false e = accepted (ap (λ (t : ToldWidened). t.number) (is ∙ ap tells (on ∙ foremost-on short (full ∷ []) s)) ∙ rw e)

      room_says : (b : Bool) → ltb (copy_room copy) (row_count rows) ≡ b → Says t
      room_says true e = of_room passes (inl (ltb-true _ _ e, is ∙ ap tells on ∙ rw e))
      room_says false e = full-says (ltb-false _ _ e) (rw e) (ltb (list_room list) (changed rows names)) refl

    says : Says t
    says = go asked.verdict refl
      where
        go : (v : Verdict) → asked.verdict ≡ v → Says t
        go (Ok _) e = room_says e (ltb (copy_room copy) (row_count rows)) refl
        go (Err why) e = list-says why e

  -- ---- a row refusal is neither 1 nor 36
  row_other : (m : ℕ) → none (0 ∷ reading) (m ∷ []) ≡ true → {t : ToldWidened} → NamesFirst rows names t → t.number ≡ m → ⊥
  row_other m h w e =
      names-other m (λ i. other (0 ∷ reading) (m ∷ []) (checked (read_verdict (row_at rows names i))).number h (read-tells rows names i reading refl))
      (record { row = w.row; why = w.why; first = w.first; said = refl })
      (sym (ap (λ (t : ToldWidened). t.number) w.said) ∙ e)

  room-number : {t : ToldWidened} → NoRoom rows names copy list t → t.number ≡ 36
  room-number = ⊎_elim (λ x. ap (λ (t : ToldWidened). t.number) x.1) (λ x. ap (λ (t : ToldWidened). t.number) x.2)

  -- THE THEOREM
  pub widen_names_row : {t : ToldWidened} {c l : List ℕ} → Widens rows names copy list t c l → NamesRow rows names copy list t
  widen_names_row {t} w = go (says t w.answer)
    where
      number : {s : ToldWidened} → t ≡ s → t.number ≡ s.number
      number e = ap (λ (t : ToldWidened). t.number) e

      go : Says t → NamesRow rows names copy list t
      go (accepted z) = record { slice = λ e. absurd (omega arith); room = λ e. absurd (omega arith); named = λ n o r. absurd (n z) }
      go (of-slice s) = record { slice = λ e. s; room = λ e. absurd (let h = number s in omega arith); named = λ n o r. absurd (o (number s)) }
      go (of_row x) = record { slice = λ e. absurd (row_other 1 refl x e); room = λ e. absurd (row_other 36 refl x e); named = λ n o r. x }
      go (of_room p x) = record { slice = λ e. absurd (let h = room-number x in omega arith); room = λ e. (p, x); named = λ n o r. absurd (r (room-number x)) }
