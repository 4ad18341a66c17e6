-- The row that a refused build names: by the order of its judgement.
use mathlib.Core.Path.{◌≡◌, refl, sym, ap, ◌∙◌, subst}
use mathlib.Core.Logic.{inl, inr}
use mathlib.Core.Bool.{Bool, true, false, cond}
use mathlib.Core.List.{List, [], ◌∷◌}
use Prim.Native.Nat.{ℕ, ◌<◌}
use native.Mathlib.Omega.{arith}
use lib.ListN.{length}
use lib.Dec.{ltb}
use borrow.Author.Tests.{ltb-true, ltb-false}
use Rattle.refusals.specs.declared.Told.{Told}
use Rattle.std.specs.Prelude.{Ok, Err}
use Rattle.refusals.specs.Answers.{Verdict, Judged}
use Rattle.refusals.specs.declared.Refusal.{Refusal}
use Rattle.refusals.specs.declared.Refusal.TheVariants.{RowSlice, UnclosedLoop}
use Rattle.refusals.specs.Numbers.{alone, in_row, answer_in, answered}
use Rattle.refusals.specs.Order.{when, said_of_row, first_in, foremost}
use Rattle.refusals.proofs.Order.{refused-good, first-all, first-at, foremost-here, foremost-on}
use Rattle.refusals.proofs.Numbered.{without_row}
use Rattle.rows.specs.Rows.{well_formed}
use Rattle.places.specs.declared.Rooms.{Rooms}
use Rattle.places.specs.Items.{Kernel, kernel_of, row_at, row_count, place, nest}
use Rattle.places.specs.Looking.{opener}
use Rattle.places.specs.Verdict.{verdict_at, reach_at, judgement}
use Rattle.places.specs.Left.{Lent, rooms_of_lent, outcome, built, Builds}
use Rattle.prefixes.proofs.Nesting.{innermost}
use Rattle.rules.specs.WhichRow.{Names, verdict_before, told_before, NamesRow}
use Rattle.rules.proofs.Answers.{told_is}

module _ (k : Kernel) (rooms : Rooms) where
  open k use {it, n}

  -- the three that are asked in turn
  abbrev rows : Judged
  rows = first_in (verdict_at k rooms) n

  abbrev late : Judged
  late = said_of_row (opener it n) (when (ltb 0 (nest it n)) UnclosedLoop)

  abbrev jumps : Judged
  jumps = first_in (reach_at k) n

  -- a refusal, and the row that it names
  pub record Found (why : Refusal) (row : ℕ) : Type 0 where
    pub one_of : row < n
    pub is : Names k rooms why row

  abbrev Says : Judged → Type 0
  Says j = (why : Refusal) → j.verdict ≡ Err why → Found why j.row

  same : {v w : Refusal} → (let o : Verdict = Err v in o ≡ Err w) → v ≡ w
  same e = cc

  module _ (pass : rows.verdict ≡ Ok tt) where
    jumps_say : nest it n ≡ 0 → Says (foremost (jumps ∷ []))
    jumps_say closed why e = go jumps.verdict refl
      where
        go : (v : Verdict) → jumps.verdict ≡ v → Found why (foremost (jumps ∷ [])).row
        go (Ok _) g = absurd (refused-good why (sym e ∙ ap (λ (j : Judged). j.verdict) (foremost-on jumps [] g)))
        go (Err w) g =
            let f = foremost-here jumps [] g in
            let a = first-at (reach_at k) n (sym (ap (λ (j : Judged). j.verdict) f) ∙ e) in
            subst (Found why) (sym (ap (λ (j : Judged). j.row) f)) (record { one_of = a.within; is = inr (inr (first-all (verdict_at k rooms) n pass, closed, a)) })

    late-says : Says (foremost (late ∷ jumps ∷ []))
    late-says why e = go (ltb 0 (nest it n)) refl
      where
        go : (b : Bool) → ltb 0 (nest it n) ≡ b → Found why (foremost (late ∷ jumps ∷ [])).row
        go true t =
            let l : late.verdict ≡ Err UnclosedLoop = ap (λ (b : Bool). when b UnclosedLoop) t in
            let f = foremost-here late (jumps ∷ []) l in
            let o = innermost it n (ltb-true 0 (nest it n) t) in
            let w : why ≡ UnclosedLoop = same (sym e ∙ ap (λ (j : Judged). j.verdict) f ∙ l) in
            subst (Found why) (sym (ap (λ (j : Judged). j.row) f))
            (record {
              one_of = o.open_at.before;
              is = inr (inl (first-all (verdict_at k rooms) n pass, w, record { starts = o.open_at.opens; stays = o.open_at.deep; innermost = o.level }));
            })
        go false t =
            let l : late.verdict ≡ Ok tt = ap (λ (b : Bool). when b UnclosedLoop) t in
            let f = foremost-on late (jumps ∷ []) l in
            let c = ltb-false 0 (nest it n) t in
            subst (Found why) (sym (ap (λ (j : Judged). j.row) f)) (jumps_say (omega arith) why (sym (ap (λ (j : Judged). j.verdict) f) ∙ e))

  pub judgement-says : Says (judgement k rooms)
  judgement-says why e = go rows.verdict refl
    where
      go : (v : Verdict) → rows.verdict ≡ v → Found why (judgement k rooms).row
      go (Ok _) g =
          let f = foremost-on rows (late ∷ jumps ∷ []) g in
          subst (Found why) (sym (ap (λ (j : Judged). j.row) f)) (late-says g why (sym (ap (λ (j : Judged). j.verdict) f) ∙ e))
      go (Err w) g =
          let f = foremost-here rows (late ∷ jumps ∷ []) g in
          let a = first-at (verdict_at k rooms) n (sym (ap (λ (j : Judged). j.verdict) f) ∙ e) in
          subst (Found why) (sym (ap (λ (j : Judged). j.row) f)) (record { one_of = a.within; is = inl a })

-- ---- what a build tells
module _ (rows names : List ℕ) (lent : Lent) (t : Told) (x : Lent) (contract : Builds rows names lent t x) where
  abbrev k : Kernel
  k = kernel_of rows names

  abbrev j : Judged
  j = judgement k (rooms_of_lent lent)

  -- refusal 1 names no row
  pub build_names_none : well_formed (length rows) ≡ false → t ≡ alone 1
  build_names_none w = contract.answer ∙ ap (λ (b : Bool). answered (cond b (built k lent) (outcome (Err (record { why = RowSlice; row = 0 })) lent)).answer) w

  module _ (formed : well_formed (length rows) ≡ true) where
    said : (v : Verdict) → j.verdict ≡ v → t ≡ answered (answer_in j.row v (place (row_at rows names) (row_count rows)))
    said v e = told_is rows names lent t x contract formed ∙ ap (λ (v : Verdict). answered (answer_in j.row v (place (row_at rows names) (row_count rows)))) e

    -- THE THEOREM: any other refusal names one of the list's rows: the first at fault, or the innermost start still open, or the first jump that
    -- does not reach
    pub build_names_row : (t.number ≡ 0 → ⊥) → NamesRow rows names lent t
    build_names_row refused = go j.verdict refl
      where
        go : (v : Verdict) → j.verdict ≡ v → NamesRow rows names lent t
        go (Ok _) e = absurd (refused (ap (λ (o : Told). o.number) (said (Ok tt) e)))
        go (Err why) e =
            let f = judgement-says k (rooms_of_lent lent) why e in
            record { why = why; row = j.row; told = said (Err why) e; one_of = f.one_of; is = f.is }

    -- and the answer without its row is the answer of before
    pub build_told_before : in_row 0 t ≡ told_before (verdict_before k (rooms_of_lent lent)) (place (row_at rows names) (row_count rows))
    build_told_before = go j.verdict refl
      where
        go : (v : Verdict) → j.verdict ≡ v → in_row 0 t ≡ told_before (verdict_before k (rooms_of_lent lent)) (place (row_at rows names) (row_count rows))
        go (Ok _) e = ap (in_row 0) (said (Ok tt) e) ∙ sym (ap (λ (v : Verdict). told_before v (place (row_at rows names) (row_count rows))) e)
        go (Err why) e =
            ap (in_row 0) (said (Err why) e)
            ∙ without_row j.row why
            ∙ sym (ap (λ (v : Verdict). told_before v (place (row_at rows names) (row_count rows))) e)
