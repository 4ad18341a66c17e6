-- What the build's public contract says of what it tells: number 0 exactly for the valid lists, with their parcels.
use Prim.Native.Nat.{ℕ}
use mathlib.Core.Path.{◌≡◌, refl, ap, sym, ◌∙◌, subst}
use mathlib.Core.Logic.{◌↔◌}
use mathlib.Core.Bool.{true, false, Bool, cond}
use mathlib.Core.List.{List}
use native.Mathlib.Omega.{arith}
use lib.ListN.{length}
use Rattle.refusals.specs.declared.Told.{Told}
use Rattle.std.specs.Prelude.{Ok, Err}
use Rattle.refusals.specs.Answers.{Verdict, Judged}
use Rattle.refusals.specs.declared.Refusal.TheVariants.{RowSlice}
use Rattle.refusals.specs.Numbers.{counted, answer_in, answer_of, answered}
use Rattle.refusals.proofs.Numbered.{answers_zero}
use Rattle.rows.specs.Rows.{well_formed}
use Rattle.places.specs.Items.{row_at, row_count, kernel_of, place}
use Rattle.places.specs.Verdict.{judgement}
use Rattle.places.specs.Left.{Lent, rooms_of_lent, Outcome, outcome, built, build_of, Builds}
use Rattle.prefixes.proofs.Names.{rows_named}
use Rattle.rules.specs.Accepted.{ValidRows, AcceptedParcels}
use Rattle.rules.proofs.Exactly.{accepted_exactly_when_valid}
use Rattle.rules.proofs.Parcels.{accepted-parcels}

-- a build of the rows in what is lent tells t and leaves x there
module _ (rows names : List ℕ) (lent : Lent) (t : Told) (x : Lent) (contract : Builds rows names lent t x) where
  abbrev judged : Judged
  judged = judgement (kernel_of rows names) (rooms_of_lent lent)

  abbrev count : ℕ
  count = place (row_at rows names) (row_count rows)

  -- a well-formed list is built
  built-is : well_formed (length rows) ≡ true → build_of rows names lent ≡ built (kernel_of rows names) lent
  built-is w = ap (λ (b : Bool). cond b (built (kernel_of rows names) lent) (outcome (Err (record { why = RowSlice; row = 0 })) lent)) w

  pub told_is : well_formed (length rows) ≡ true → t ≡ answered (answer_of judged count)
  told_is w = contract.answer ∙ ap (λ (o : Outcome). answered o.answer) (built-is w)

  -- no other list is accepted
  pub accepted_well_formed : t.number ≡ 0 → well_formed (length rows) ≡ true
  accepted_well_formed e = go (well_formed (length rows)) refl
    where
      go : (b : Bool) → well_formed (length rows) ≡ b → well_formed (length rows) ≡ true
      go true w = w
      go false w =
          let a : t.number ≡ 1 =
          ap (λ (o : Told). o.number) (contract.answer ∙ ap (λ (b : Bool). answered (cond b (built (kernel_of rows names) lent) (outcome (Err (record { why = RowSlice; row = 0 })) lent)).answer) w) in
          absurd (omega arith)

  zero_good : well_formed (length rows) ≡ true → (t.number ≡ 0) ↔ (judged.verdict ≡ Ok tt)
  zero_good w =
      let z = answers_zero judged.row judged.verdict count in
      let n = ap (λ (o : Told). o.number) (told_is w) in
      ((λ e. z.0 (sym n ∙ e)), (λ g. n ∙ z.1 g))

  -- DEMAND 3: a well-formed list is accepted exactly when the rules hold
  pub build_accepts_exactly_when_valid : well_formed (length rows) ≡ true → (t.number ≡ 0) ↔ ValidRows rows names lent
  build_accepts_exactly_when_valid w =
      let v = accepted_exactly_when_valid (kernel_of rows names) lent (rows_named rows names) in
      let z = zero_good w in
      ((λ e. v.0 (z.0 e)), (λ r. z.1 (v.1 r)))

  -- what is told of an accepted list, and what stands in its parcels
  module _ (e : t.number ≡ 0) where
    accepted-good : judged.verdict ≡ Ok tt
    accepted-good = (zero_good (accepted_well_formed e)).0 e

    pub accepted-count : t ≡ counted count
    accepted-count = told_is (accepted_well_formed e) ∙ ap (λ (v : Verdict). answered (answer_in judged.row v count)) accepted-good

    pub build_accepted_parcels : AcceptedParcels (kernel_of rows names) x.parcels lent.parcels
    build_accepted_parcels =
        subst (λ (ps : List ℕ). AcceptedParcels (kernel_of rows names) ps lent.parcels)
        (sym (contract.parcels ∙ ap (λ (o : Outcome). o.lent.parcels) (built-is (accepted_well_formed e))))
        (accepted-parcels (kernel_of rows names) lent (rows_named rows names) accepted-good)
