-- A look back from row `end`: the rows from i on do not pass the test.
use Prim.Native.Nat.{ℕ, suc, ◌-◌, ◌≤◌, ◌<◌}
use native.Mathlib.Omega.{arith}
use native.Mathlib.Nat.{eq-or-lt_of_le}
use mathlib.Core.Path.{◌≡◌, subst}
use mathlib.Core.Logic.{⊎_elim}
use mathlib.Core.Bool.{Bool, true, false}
use Rattle.prefixes.proofs.Tests.{order}
use Rattle.places.specs.Looking.{at, latest, newest}
use Rattle.prefixes.proofs.Looking.{None, LatestRow, latest-is, newest-is}

module _ (t : ℕ → Bool) (end : ℕ) where
  pub record Looked (i : ℕ) : Type 0 where
    pub within : i ≤ end
    pub none : (q : ℕ) → i ≤ q → q < end → t q ≡ false

  pub looked-start : Looked end
  looked-start = record { within = omega arith; none = λ q u v. absurd (omega arith) }

  module _ {i : ℕ} (some : 0 < i) (l : Looked i) where
    pub looked-on : t (i - 1) ≡ false → Looked (i - 1)
    looked-on e =
        record {
          within = omega (arith, l.within);
          none = λ q u v. ⊎_elim (λ z. subst (λ (y : ℕ). t y ≡ false) z e) (λ lt. l.none q (omega arith) v) (eq-or-lt_of_le u);
        }

    abbrev hit : t (i - 1) ≡ true → LatestRow t end
    hit e = record { row = i - 1; before = omega (arith, l.within); holds = e; after = λ q u v. l.none q (omega arith) v }

    pub looked-latest : (f : ℕ → ℕ) → t (i - 1) ≡ true → latest t f 0 end ≡ f (i - 1)
    looked-latest f e = latest-is t f end (hit e)

    pub looked-newest : t (i - 1) ≡ true → newest t end ≡ at (i - 1)
    looked-newest e = newest-is t end (hit e)

  -- and none before i does
  pub looked-none : {i : ℕ} → Looked i → ((q : ℕ) → q < i → t q ≡ false) → None t end
  looked-none {i} l h q u = ⊎_elim (λ lt. h q lt) (λ le. l.none q le u) (order q i)

  pub looked-all : {i : ℕ} → Looked i → i ≤ 0 → None t end
  looked-all l z = looked-none l (λ q u. absurd (omega arith))

-- the row before i
pub row_before : (P : ℕ → ℕ → Type 0) → ((k : ℕ) → P (suc k) k) → (i : ℕ) → 0 < i → P i (i - 1)
row_before P h i some = let e : suc (i - 1) ≡ i = omega arith in subst (λ (y : ℕ). P y (i - 1)) e (h (i - 1))
