-- "These twelve are the single computes", by their kinds: a kind that is none of them is no compute.
use Prim.Native.Nat.{ℕ, zero, suc, ◌≤◌}
use native.Mathlib.Omega.{arith}
use mathlib.Core.List.{List, [], ◌∷◌}
use mathlib.Core.Path.{◌≡◌, refl}
use mathlib.Core.Bool.{Bool, true, false, ◌&&◌, ◌||◌}
use lib.Dec.{leb}
use borrow.Author.Tests.{leb-true}
use Rattle.bounds.specs.Bounds.{is_compute}
use Rattle.bounds.proofs.Lookups.{NotIn}

abbrev pub twelve : List (ℕ × Unit {0})
twelve = (0, tt) ∷ (1, tt) ∷ (2, tt) ∷ (3, tt) ∷ (4, tt) ∷ (5, tt) ∷ (6, tt) ∷ (7, tt) ∷ (8, tt) ∷ (25, tt) ∷ (26, tt) ∷ (27, tt) ∷ []

-- none of 0 to n, as a default arm is told it
abbrev NoneTo : ℕ → ℕ → Type 0
NoneTo k zero = Unit {0} × (k ≡ 0 → ⊥)
NoneTo k (suc n) = NoneTo k n × (k ≡ suc n → ⊥)

over : (k n : ℕ) → k ≤ n → NoneTo k n → ⊥
over k zero h r = r.1 (omega arith)
over k (suc n) h r = let d = r.1 in over k n (omega (arith, d)) r.0

outside-three : (k : ℕ) → 25 ≤ k → k ≤ 27 → (k ≡ 25 → ⊥) → (k ≡ 26 → ⊥) → (k ≡ 27 → ⊥) → ⊥
outside-three k g h x y z = omega (arith, x, y, z)

pub no-compute : (k : ℕ) → NotIn k twelve (Unit {0}) → is_compute k ≡ false
no-compute k r = go (leb k 8) (leb 25 k) (leb k 27) refl refl refl
  where
    go : (t u w : Bool) → leb k 8 ≡ t → leb 25 k ≡ u → leb k 27 ≡ w → (t || u && w) ≡ false
    go true u w a b c = absurd (over k 8 (leb-true k 8 a) r.0.0.0)
    go false true true a b c = absurd (outside-three k (leb-true 25 k b) (leb-true k 27 c) r.0.0.1 r.0.1 r.1)
    go false true false a b c = refl
    go false false w a b c = refl
