-- Rows one after the other, seventeen numbers each: which stands where, and that a list is its rows.
use Prim.Native.Nat.{ℕ, zero, suc, ◌+◌, ◌*◌, ◌%◌, ◌≤◌, ◌<◌}
use native.Mathlib.Omega.{arith}
use mathlib.Core.Path.{◌≡◌, refl, sym, ap, ap₂, ◌∙◌}
use mathlib.Core.Bool.{true}
use mathlib.Core.List.{List, [], ◌++◌}
use lib.Dec.{eqb, leb}
use lib.ListN.{length, take, length-append, drop_of_length-le}
use lib.Seq.{take_all, take-nil, take-add}
use borrow.Author.Tests.{eqb-true}
use Rattle.rows.specs.Rows.{row_width, most_rows, well_formed}
use Rattle.places.specs.Items.{row_count}
use Rattle.places.specs.Left.{gather}
use Rattle.prefixes.proofs.Tests.{and_both}
use Rattle.prefixes.proofs.Gathered.{gather-at}
use Rattle.widening.specs.Widening.{row_of}

-- ---- a list
pub rows_whole : (rows : List ℕ) → well_formed (length rows) ≡ true → length rows ≡ row_count rows * row_width
rows_whole rows w =
    let e = eqb-true (length rows % 17) 0 (and_both (eqb (length rows % 17) 0) (leb (length rows) (most_rows * row_width)) w).0 in
    omega arith

-- past its end stands no row
pub no_row : (rows : List ℕ) (i : ℕ) → length rows ≤ i * row_width → row_of rows i ≡ []
no_row rows i h = rw (drop_of_length-le rows h, take-nil)

-- ---- what is gathered
pub gather-same : (f g : ℕ → List ℕ) (n : ℕ) → ((i : ℕ) → i < n → f i ≡ g i) → gather f n ≡ gather g n
gather-same f g zero h = refl
gather-same f g (suc n) h = ap₂ ◌++◌ (gather-same f g n (λ i l. h i (omega arith))) (h n (omega arith))

pub gather-length : (f : ℕ → List ℕ) (w n : ℕ) → ((i : ℕ) → i < n → length (f i) ≡ w) → length (gather f n) ≡ n * w
gather-length f w zero h = omega arith
gather-length f w (suc n) h =
    let r = gather-length f w n (λ i l. h i (omega arith)) in
    let e = h n (omega arith) in
    simp length-append (omega arith)

pub gather-rows : (f : ℕ → List ℕ) (n : ℕ) (rest : List ℕ) → ((i : ℕ) → i < n → length (f i) ≡ row_width) → (i : ℕ) → i < n → row_of (gather f n ++ rest) i ≡ f i
gather-rows f n rest h i l =
    rw (h i l, gather-length f row_width i (λ q u. h q (omega arith))) at (gather-at f i n rest l)

-- a whole list is its rows
pub front-rows : (rows : List ℕ) (i : ℕ) → gather (row_of rows) i ≡ take (i * row_width) rows
front-rows rows zero = refl
front-rows rows (suc i) =
    let e : suc i * row_width ≡ i * row_width + row_width = omega arith in
    ap (λ (l : List ℕ). l ++ row_of rows i) (front-rows rows i) ∙ sym (take-add (i * row_width) row_width rows) ∙ ap (λ (m : ℕ). take m rows) (sym e)

pub rows_gathered : (rows : List ℕ) → well_formed (length rows) ≡ true → gather (row_of rows) (row_count rows) ≡ rows
rows_gathered rows w = let e = rows_whole rows w in front-rows rows (row_count rows) ∙ take_all (row_count rows * row_width) rows (omega arith)
