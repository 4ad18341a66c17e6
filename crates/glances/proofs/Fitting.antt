-- A row that fits three limits is within the bounds that are one more, and so it is read as the instruction of its kind: one law for every kind of three
-- fields.
use Prim.Native.Nat.{ℕ, zero, suc, ◌+◌, ◌<◌, ◌≤◌}
use mathlib.Core.List.{List, [], ◌∷◌}
use mathlib.Core.Bool.{true}
use mathlib.Core.Path.{◌≡◌, ◌∙◌}
use native.Mathlib.Omega.{arith}
use lib.Dec.{ltb}
use lib.ListN.{length, drop}
use lib.Seq.{drop-cons, drop-length}
use borrow.Author.Tests.{eqb-true, ltb-false}
use Rattle.words.specs.Forms.{bit_of}
use Rattle.bounds.specs.Bounds.{filled, bounds_of}
use Rattle.bounds.specs.Checks.{inside}
use Rattle.bounds.specs.Tables.{at}
use Rattle.items.specs.declared.Item.TheVariants as item
use Rattle.std.specs.Prelude.{Ok}
use Rattle.rows.specs.Fields.{instruction_of}
use Rattle.rows.specs.Kept.{Below}
use Rattle.rows.specs.Rows.{item_of, read_of}
use Rattle.rows.proofs.Kept.{read-item}
use Rattle.combined.proofs.Fits.{bit_false}
use Rattle.glances.specs.Glances.{four_from, fits_of}

-- ---- the numbers of a row, spelled out
abbrev from : List ℕ → ℕ → ℕ → List ℕ
from row k zero = []
from row k (suc n) = at row k ∷ from row (suc k) n

spelled : (row : List ℕ) (k n : ℕ) → length row ≡ k + n → drop k row ≡ from row k n
spelled row k zero e = let h : length row ≡ k = omega arith in rw (← h) (drop-length row)
spelled row k (suc n) e = let h : k < length row = omega arith in let g : length row ≡ suc k + n = omega arith in rw (drop-cons row k 0 h, spelled row (suc k) n g)

-- ---- what the sum says
within : (most v : ℕ) → bit_of (ltb most v) ≡ 0 → v < suc most
within most v e = let h = ltb-false most v (bit_false (ltb most v) e) in omega (arith, h)

-- the bounds of three fields, and of spare places after them
abbrev pub three : ℕ → ℕ → ℕ → List ℕ
three a b c = filled 16 (suc a ∷ suc b ∷ suc c ∷ [])

-- no field holds more than its limit, and no place after them anything
fits-places : (a b c : ℕ) (row : List ℕ) → fits_of a b c row ≡ true → Below (three a b c) (from row 1 16)
unfolding fits_of
fits-places a b c row f =
    let s : bit_of (ltb a (at row 1)) + bit_of (ltb b (at row 2)) + bit_of (ltb c (at row 3)) + four_from row 4 + four_from row 8 + four_from row 12 + at row 16 ≡ 0 = eqb-true (bit_of (ltb a (at row 1)) + bit_of (ltb b (at row 2)) + bit_of (ltb c (at row 3)) + four_from row 4 + four_from row 8 + four_from row 12 + at row 16) 0 f in
    (within a (at row 1) (omega (arith, s)), (within b (at row 2) (omega (arith, s)), (within c (at row 3) (omega (arith, s)), (omega (arith, s), (omega (arith, s), (omega (arith, s), (omega (arith, s), (omega (arith, s), (omega (arith, s), (omega (arith, s), (omega (arith, s), (omega (arith, s), (omega (arith, s), (omega (arith, s), (omega (arith, s), (omega (arith, s), tt))))))))))))))))

-- the three fields themselves
pub fits-fields : (a b c : ℕ) (row : List ℕ) → fits_of a b c row ≡ true → (at row 1 < suc a) × (at row 2 < suc b) × (at row 3 < suc c)
fits-fields a b c row f = let h = fits-places a b c row f in (h.0, h.1.0, h.1.1.0)

-- so limits that are no more than other limits stay within those
pub fits_below : (x y z a b c : ℕ) (row : List ℕ) → length row ≡ 17 → a ≤ x → b ≤ y → c ≤ z → fits_of a b c row ≡ true → Below (three x y z) (drop 1 row)
fits_below x y z a b c row n p q r f =
    let h = fits-places a b c row f in
    let u = fits-fields a b c row f in
    rw (spelled row 1 16 n) (omega (arith, u, p), (omega (arith, u, q), (omega (arith, u, r), h.1.1.1)))

-- ---- a row whose kind has three fields, with the bounds past x, y and z
pub record Three (kind x y z : ℕ) (row : List ℕ) : Type 0 where
  pub bounds : bounds_of row ≡ three x y z
  pub unnamed : (names : ℕ) → inside (at row 0) (at row 1) (at row 2) (at row 3) names ≡ true
  pub item-is : item_of row ≡ Ok (item.Instruction (instruction_of kind (at row 1) (at row 2) (at row 3)))

pub reads_three :
    {kind x y z : ℕ} (a b c : ℕ) (row : List ℕ) → length row ≡ 17 → Three kind x y z row → a ≤ x → b ≤ y → c ≤ z → fits_of a b c row ≡ true → (names : ℕ)
    → read_of row names ≡ Ok (item.Instruction (instruction_of kind (at row 1) (at row 2) (at row 3)))
reads_three {kind} {x} {y} {z} a b c row n t p q r f names =
    let h : Below (bounds_of row) (drop 1 row) = rw t.bounds (fits_below x y z a b c row n p q r f) in
    read-item row names h (t.unnamed names) ∙ t.item-is
