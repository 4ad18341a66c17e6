-- The places that the second walk writes are 0, 1, .., one after the other: each once.
use mathlib.Core.Path.{◌≡◌, refl, ap, ap₂, ◌∙◌}
use mathlib.Core.List.{◌++◌, ◌∷◌}
use Prim.Native.Nat.{ℕ, zero, suc, ◌+◌}
use native.Mathlib.Omega.{arith}
use Rattle.places.specs.Items.{Kernel, size, place}
use Rattle.places.proofs.Emitted.{emits}
use Rattle.plain.specs.Once.{from, writes}

-- m places from a on, and n after them
from_on : (a m n : ℕ) → from a m ++ from (a + m) n ≡ from a (m + n)
from_on a zero n = ap₂ from (let e : a + 0 ≡ a = omega arith in e) (let e : n ≡ 0 + n = omega arith in e)
from_on a (suc m) n =
    ap (λ (y : ℕ). a ∷ (from (suc a) m ++ from y n)) (let e : a + suc m ≡ suc a + m = omega arith in e)
    ∙ ap (λ z. a ∷ z) (from_on (suc a) m n)
    ∙ ap (from a) (let e : suc (m + n) ≡ suc m + n = omega arith in e)

pub each-once : (k : Kernel) (i : ℕ) → writes k i ≡ from 0 (place k.it i)
each-once k zero = refl
each-once k (suc i) =
    ap₂ (λ x (y : ℕ). x ++ from (place k.it i) y) (each-once k i) (emits k i (k.it i))
    ∙ ap (λ (y : ℕ). from 0 (place k.it i) ++ from y (size (k.it i))) (let e : place k.it i ≡ 0 + place k.it i = omega arith in e)
    ∙ from_on 0 (place k.it i) (size (k.it i))
