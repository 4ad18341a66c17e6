-- The count that is told of an accepted list is within the lent parcels: rule 6.
use mathlib.Core.Path.{◌≡◌, ap}
use mathlib.Core.List.{List}
use Prim.Native.Nat.{ℕ, ◌≤◌}
use native.Mathlib.Omega.{arith}
use lib.ListN.{length}
use Rattle.refusals.specs.declared.Told.{Told}
use Rattle.places.specs.Left.{Lent, Builds}
use Rattle.rules.proofs.Answers.{accepted_well_formed, build_accepts_exactly_when_valid, accepted-count}

pub accepted-fits : (rows names : List ℕ) (lent : Lent) (t : Told) (x : Lent) → Builds rows names lent t x → t.number ≡ 0 → t.count ≤ length lent.parcels
accepted-fits rows names lent t x b e =
    let w = accepted_well_formed rows names lent t x b e in
    let v = (build_accepts_exactly_when_valid rows names lent t x b w).0 e in
    let c = ap (λ (o : Told). o.count) (accepted-count rows names lent t x b e) in
    omega (arith, c, v.rule6.parcels)
