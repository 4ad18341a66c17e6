-- The count of an accepted list is within the 3,072 parcels lent, so that as many parcels are printed as it says.
use mathlib.Core.Path.{◌≡◌, refl}
use mathlib.Core.List.{List}
use Prim.Native.Nat.{ℕ, ◌≤◌}
use native.Mathlib.Omega.{arith}
use lib.ListN.{replicate, length-replicate}
use Rattle.refusals.specs.Numbers.{answered}
use Rattle.places.specs.Left.{lent_of, zero_loop}
use Rattle.rules.proofs.Fits.{accepted-fits}
use Rattle.printed.specs.Printed.{built_of}

pub count_fits : (rs names : List ℕ) → (answered (built_of rs names).answer).number ≡ 0 → (answered (built_of rs names).answer).count ≤ 3072
count_fits rs names e =
    let lent = lent_of (replicate 3072 0) (replicate 1536 0) (replicate 1024 0) (replicate 64 zero_loop) in
    let h = accepted-fits rs names lent (answered (built_of rs names).answer) (built_of rs names).lent (record { answer = refl; parcels = refl; labels = refl; jumps = refl; loops = refl }) e in
    omega (arith, h, length-replicate {A = ℕ} 3072 0)
