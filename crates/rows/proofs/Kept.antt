-- A number that a register or a count is made of is kept whole: it lies below its place's bound, so the remainder that makes a byte of it, or 16 bits,
-- changes nothing.
use Prim.Native.Nat.{ℕ, ◌+◌, ◌*◌, ◌<◌}
use mathlib.Core.List.{List, [], ◌∷◌}
use mathlib.Core.Bool.{Bool, true, false, cond}
use mathlib.Core.Path.{◌≡◌, refl}
use native.Mathlib.Omega.{arith}
use lib.Arith.{digits_mod}
use borrow.Author.Tests.{ltb-true, lt-ltb}
use lib.Dec.{ltb, eqb}
use lib.ListN.{drop}
use Rattle.bounds.specs.Bounds.{code, bounds_of}
use Rattle.bounds.specs.Checks.{Places, late, said, places_of, decided, inside, check_of}
use Rattle.bounds.specs.Tables.{at}
use Rattle.bounds.specs.declared.Misfit.TheVariants.{Bad, Code}
use Rattle.std.specs.Prelude.{Ok, Err}
use Rattle.rows.specs.Kept.{Below, Kept}
use Rattle.rows.specs.Rows.{read_of, item_of}

late_not_fine : (v : ℕ) (rest : Places) → late v rest ≡ Ok tt → ⊥
late_not_fine v (Ok _) e = let z : ◌≡◌ {A = ℕ} 0 1 = cc in omega arith
late_not_fine v (Err Bad) e = let z : ◌≡◌ {A = ℕ} 0 1 = cc in omega arith
late_not_fine v (Err (Code w)) e = let z : ◌≡◌ {A = ℕ} 0 1 = cc in omega arith

over_not_fine : (t : Bool) (v : ℕ) (rest : Places) → cond t (late v rest) (Err Bad) ≡ Ok tt → ⊥
over_not_fine true v rest e = late_not_fine v rest e
over_not_fine false v rest e = let z : ◌≡◌ {A = ℕ} 0 1 = cc in omega arith

-- a place that is fine holds a number below its bound, and the places after it are fine
fine-place : (b v : ℕ) (rest : Places) (t : Bool) → ltb v b ≡ t → cond t rest (cond (eqb b code) (late v rest) (Err Bad)) ≡ Ok tt → (v < b) × (rest ≡ Ok tt)
fine-place b v rest true t e = (ltb-true v b t, e)
fine-place b v rest false t e = absurd (over_not_fine (eqb b code) v rest e)

fine-below : (bs vs : List ℕ) → said bs vs (Ok tt) ≡ Ok tt → Below bs vs
unfolding said
fine-below [] vs e = tt
fine-below (b ∷ bs) [] e = tt
fine-below (b ∷ bs) (v ∷ vs) e = let h = fine-place b v (said bs vs (Ok tt)) (ltb v b) refl e in (h.0, fine-below bs vs h.1)

good-fine : (t : Bool) (places : Places) → decided t places ≡ Ok tt → places ≡ Ok tt
good-fine false places e = let z : ◌≡◌ {A = ℕ} 0 1 = cc in absurd (omega arith)
good-fine true (Ok _) e = refl
good-fine true (Err m) e = let z : ◌≡◌ {A = ℕ} 0 1 = cc in absurd (omega arith)

-- the numbers of a row that is read lie below their bounds
pub within-bounds : (row : List ℕ) (names : ℕ) → check_of row names ≡ Ok tt → Below (bounds_of row) (drop 1 row)
unfolding check_of places_of
within-bounds row names e = fine-below (bounds_of row) (drop 1 row) (good-fine (inside (at row 0) (at row 1) (at row 2) (at row 3) names) (places_of row) e)

-- and a row whose numbers do is read as its item, where its name lies in the names
below-fine : (bs vs : List ℕ) → Below bs vs → said bs vs (Ok tt) ≡ Ok tt
unfolding said
below-fine [] vs h = refl
below-fine (b ∷ bs) [] h = refl
below-fine (b ∷ bs) (v ∷ vs) h = rw (lt-ltb v b h.0) (below-fine bs vs h.1)

pub read-item : (row : List ℕ) (names : ℕ) → Below (bounds_of row) (drop 1 row) → inside (at row 0) (at row 1) (at row 2) (at row 3) names ≡ true → read_of row names ≡ item_of row
unfolding read_of check_of places_of
read-item row names h i = rw (i, below-fine (bounds_of row) (drop 1 row) h)

below-kept : (m : ℕ) → 0 < m → (bs vs : List ℕ) → Below bs vs → Kept m bs vs
below-kept m p [] vs h = tt
below-kept m p (b ∷ bs) [] h = tt
below-kept m p (b ∷ bs) (v ∷ vs) h = ((λ l. let s : v < m = omega (arith, h.0, l) in let z : 0 * m + v ≡ v = omega arith in rw z at (digits_mod 0 s)), below-kept m p bs vs h.1)

-- registers and codes: `v % 256` is v; counts: `v % 65536` is v
pub bytes-kept : (row : List ℕ) (names : ℕ) → check_of row names ≡ Ok tt → Kept 256 (bounds_of row) (drop 1 row)
bytes-kept row names e = below-kept 256 (omega arith) (bounds_of row) (drop 1 row) (within-bounds row names e)

pub counts-kept : (row : List ℕ) (names : ℕ) → check_of row names ≡ Ok tt → Kept 65536 (bounds_of row) (drop 1 row)
counts-kept row names e = below-kept 65536 (omega arith) (bounds_of row) (drop 1 row) (within-bounds row names e)
