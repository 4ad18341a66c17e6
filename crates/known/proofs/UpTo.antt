-- A test of each number below a bound.
use Prim.Native.Nat.{ℕ, zero, suc, ◌<◌}
use native.Mathlib.Omega.{arith}
use mathlib.Core.Path.{◌≡◌, refl}
use mathlib.Core.Bool.{Bool, true, false, ◌&&◌}
use lib.Dec.{eqb}
use borrow.Author.Tests.{eqb-true, eqb-false}
use Rattle.fields.proofs.Matching.{both}

abbrev pub up_to : ℕ → (ℕ → Bool) → Bool
up_to zero f = true
up_to (suc n) f = f n && up_to n f

pub up_to_lem : (n : ℕ) (f : ℕ → Bool) (a : ℕ) → up_to n f ≡ true → a < n → f a ≡ true
up_to_lem zero f a u h = absurd (omega arith)
up_to_lem (suc n) f a u h = go (eqb a n) refl (λ l. up_to_lem n f a (both (f n) (up_to n f) u).1 l)
  where
    go : (t : Bool) → eqb a n ≡ t → (a < n → f a ≡ true) → f a ≡ true
    go true e g = rw (eqb-true a n e) (both (f n) (up_to n f) u).0
    go false e g = let d = eqb-false a n e in g (omega (arith, d))
