-- What is written of a row is the row but for its trailing zeros: with these again it is the row.
use mathlib.Core.Path.{◌≡◌, refl, sym, ap, ap₂, ◌∙◌}
use mathlib.Core.Bool.{Bool, true, false, cond}
use mathlib.Core.List.{List, [], ◌∷◌, ◌++◌}
use Prim.Native.Nat.{ℕ, suc, ◌-◌}
use native.Mathlib.Omega.{arith}
use lib.ListN.{length, replicate}
use lib.Dec.{eqb}
use borrow.Author.Tests.{eqb-true}
use Rattle.row_lines.specs.RowText.{before, bare, written}

-- so many numbers, zeros past those written
abbrev pub filled_to : ℕ → List ℕ → List ℕ
filled_to k l = l ++ replicate (k - length l) 0

one_more : (k n : ℕ) (l : List ℕ) → filled_to (suc k) (n ∷ l) ≡ n ∷ filled_to k l
one_more k n l = let e : suc k - suc (length l) ≡ k - length l = omega arith in rw e

bare-filled : (ns : List ℕ) → filled_to (length ns) (bare ns) ≡ ns
bare-filled [] = refl
bare-filled (n ∷ ns) = by (bare ns) (bare-filled ns)
  where
    zero_or : (t : Bool) → eqb n 0 ≡ t → filled_to (length ns) [] ≡ ns → filled_to (suc (length ns)) (cond t [] (n ∷ [])) ≡ n ∷ ns
    zero_or true e f = let z : suc (length ns) - 0 ≡ suc (length ns - 0) = omega arith in rw z (ap₂ (λ (a : ℕ) (l : List ℕ). a ∷ l) (sym (eqb-true n 0 e)) f)
    zero_or false e f = one_more (length ns) n [] ∙ ap (λ (l : List ℕ). n ∷ l) f

    by : (l : List ℕ) → filled_to (length ns) l ≡ ns → filled_to (suc (length ns)) (before n l) ≡ n ∷ ns
    by [] f = zero_or (eqb n 0) refl f
    by (m ∷ l) f = one_more (length ns) n (m ∷ l) ∙ ap (λ (k : List ℕ). n ∷ k) f

pub written-filled : (row : List ℕ) → filled_to (length row) (written row) ≡ row
written-filled [] = refl
written-filled (k ∷ ns) = one_more (length ns) k (bare ns) ∙ ap (λ (l : List ℕ). k ∷ l) (bare-filled ns)
