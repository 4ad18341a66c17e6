-- What is asked in turn: the rows, then a loop left open, then the jumps.
use mathlib.Core.Path.{◌≡◌, refl, sym, ap, ◌∙◌, subst}
use mathlib.Core.Logic.{⊎_elim}
use mathlib.Core.List.{List, [], ◌∷◌}
use native.Mathlib.Omega.{arith}
use lib.Dec.{ltb}
use borrow.Author.Tests.{ltb-false}
use Rattle.refusals.specs.declared.Refusal.{Refusal}
use Rattle.refusals.specs.declared.Refusal.TheVariants.{UnclosedLoop}
use Rattle.std.specs.Prelude.{Ok, Err}
use Rattle.refusals.specs.Answers.{Verdict, Judged}
use Rattle.refusals.specs.Order.{when, first_of, first_in}
use Rattle.refusals.proofs.Order.{last_one, first_good, AllPass, either, when-good, first-all, all-passing, stop-passing, foremost-here, foremost-on}
use Rattle.places.specs.declared.Rooms.{Rooms}
use Rattle.places.specs.Items.{Kernel, nest}
use Rattle.places.specs.Verdict.{verdict_at, reach_at, judgement, taken}
use Rattle.prefixes.proofs.Passing.{Fits, fits}
use Rattle.plain.specs.Plain.{unclosed, rows_judged}

module _ (k : Kernel) (r : Rooms) where
  open k use {it, n}

  taken-passes : AllPass (verdict_at k r) (taken k r)
  taken-passes =
      ⊎_elim (λ all. subst (AllPass (verdict_at k r)) (sym (all-passing (verdict_at k r) n all)) all)
      (λ s. subst (AllPass (verdict_at k r)) (sym (stop-passing (verdict_at k r) n s)) s.earlier)
      (either (verdict_at k r) n)

  pub fit : Fits it r (taken k r)
  fit = fits k r (taken k r) taken-passes

  -- what is asked once every row has passed
  abbrev pub open_late : Judged
  open_late = unclosed k (nest it n)

  abbrev pub jumped : Judged
  jumped = first_in (reach_at k) n

  abbrev pub late : List Judged
  late = open_late ∷ jumped ∷ []

  -- a refusal of the rows, or of a loop left open, is the list's, with its row
  pub early : {why : Refusal} → (rows_judged k r).verdict ≡ Err why → judgement k r ≡ rows_judged k r
  early {why} e = go (first_of (verdict_at k r) n) refl
    where
      go : (v : Verdict) → first_of (verdict_at k r) n ≡ v → judgement k r ≡ rows_judged k r
      go (Err w) q = foremost-here (first_in (verdict_at k r) n) late q ∙ sym (foremost-here (first_in (verdict_at k r) n) (open_late ∷ []) q)
      go (Ok _) q =
          let f = foremost-on (first_in (verdict_at k r) n) (open_late ∷ []) q in
          let l : open_late.verdict ≡ Err why = sym (last_one open_late.verdict) ∙ sym (ap (λ (j : Judged). j.verdict) f) ∙ e in
          foremost-on (first_in (verdict_at k r) n) late q ∙ foremost-here open_late (jumped ∷ []) l ∙ sym (f ∙ foremost-here open_late [] l)

  -- no row is refused, and every loop is closed
  pub record AllGood : Type 0 where
    pub rows : first_of (verdict_at k r) n ≡ Ok tt
    pub late : when (ltb 0 (nest it n)) UnclosedLoop ≡ Ok tt
    pub passes : AllPass (verdict_at k r) n
    pub closed : nest it n ≡ 0
    pub whole : taken k r ≡ n

  pub all-good : (rows_judged k r).verdict ≡ Ok tt → AllGood
  all-good e =
      let g = first_good (first_of (verdict_at k r) n ∷ when (ltb 0 (nest it n)) UnclosedLoop ∷ []) e in
      let p = first-all (verdict_at k r) n g.0 in
      let c = ltb-false 0 (nest it n) (when-good _ _ g.1.0) in
      record { rows = g.0; late = g.1.0; passes = p; closed = omega arith; whole = all-passing (verdict_at k r) n p }
