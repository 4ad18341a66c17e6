-- The items of n rows as a list: what stands from row i on, and two lists one after the other.
use mathlib.Core.Path.{◌≡◌, refl, ap, ap₂, ◌∙◌}
use mathlib.Core.Logic.{⊎_elim}
use mathlib.Core.List.{List, [], ◌∷◌, ◌++◌, append-nil, append_assoc}
use Prim.Native.Nat.{ℕ, zero, suc, ◌+◌, ◌*◌, ◌/◌, ◌≤◌, ◌<◌}
use native.Mathlib.Omega.{arith}
use native.Mathlib.Nat.{eq-or-lt_of_le, add-zero, add-suc}
use native.Mathlib.Numerals.{add-one}
use lib.ListN.{length, get_or, take, drop, length-append, length-drop, drop_of_length-le, get_or-append}
use lib.Seq.{drop-cons, get_or_at, take_all, take-append-le, drop-append-le, drop-append-add}
use Rattle.rows.specs.Rows.{row_width, read_of}
use Rattle.std.specs.Prelude.{Ok}
use Rattle.coded.specs.Coded.{Coded, coded_of}
use Rattle.items.specs.declared.Item.TheVariants.{LoopEnd}
use Rattle.places.specs.Items.{row_at, row_count}
use Rattle.slots.specs.Slots.{items}

module _ (it : ℕ → Coded) where
  pub items-length : (n : ℕ) → length (items it n) ≡ n
  items-length zero = refl
  items-length (suc n) = length-append (items it n) (it n ∷ []) ∙ (let w : length (items it n) + 1 ≡ suc n = omega (arith, items-length n) in w)

  pub items_at : (n i : ℕ) → i < n → get_or (items it n) i (Ok LoopEnd) ≡ it i
  items_at zero i h = absurd (omega arith)
  items_at (suc n) i h =
      ⊎_elim (λ e. get_or_at (items it n) (it n) [] (Ok LoopEnd) i (items-length n ∙ (let w : n ≡ i = omega arith in w)) ∙ ap it (let w : n ≡ i = omega arith in w))
      (λ l. get_or-append (items it n) (it n ∷ []) (Ok LoopEnd) i (rw items-length l) ∙ items_at n i l)
      (eq-or-lt_of_le (let w : i ≤ n = omega arith in w))

  pub items-from : (n i : ℕ) → i < n → drop i (items it n) ≡ it i ∷ drop (i + 1) (items it n)
  items-from n i l = drop-cons (items it n) i (Ok LoopEnd) (rw items-length l) ∙ rw (items_at n i l, add-one i)

  pub items-end : (n : ℕ) → drop n (items it n) ≡ []
  items-end n = drop_of_length-le (items it n) {i = n} (omega (arith, items-length n))

  items_add : (m k : ℕ) → items it (m + k) ≡ items it m ++ items (λ q. it (m + q)) k
  items_add m zero = rw (add-zero, append-nil)
  items_add m (suc k) = rw (add-suc, items_add m k) (append_assoc (items it m) (items (λ q. it (m + q)) k) (it (m + k) ∷ []))

items-same : (f g : ℕ → Coded) (n : ℕ) → ((k : ℕ) → k < n → f k ≡ g k) → items f n ≡ items g n
items-same f g zero h = refl
items-same f g (suc n) h = ap₂ (λ (xs : List Coded) (x : Coded). xs ++ (x ∷ [])) (items-same f g n (λ k l. h k (omega arith))) (h n (omega arith))

-- ---- the items of a slice
abbrev pub items_of : List ℕ → List ℕ → List Coded
items_of rows names = items (row_at rows names) (row_count rows)

module _ (names : List ℕ) where
  abbrev item : List ℕ → Coded
  item row = coded_of (read_of row (length names))

  pub one-item : (row : List ℕ) → length row ≡ row_width → items_of row names ≡ item row ∷ []
  one-item row e =
      ap (λ (q : ℕ). items (row_at row names) q) (let w : length row / row_width ≡ 1 = omega arith in w)
      ∙ ap (λ (y : List ℕ). item y ∷ []) (take_all row_width row (omega arith))

  module _ (a b : List ℕ) (m : ℕ) (e : length a ≡ m * row_width) where
    first_rows : (k : ℕ) → k < m → row_at (a ++ b) names k ≡ row_at a names k
    first_rows k l =
        ap item
        (ap (take row_width) (drop-append-le (k * row_width) a b (omega arith))
        ∙ take-append-le row_width (drop (k * row_width) a) b (rw length-drop (omega arith)))

    later_rows : (k : ℕ) → row_at (a ++ b) names (m + k) ≡ row_at b names k
    later_rows k =
        ap (λ (y : List ℕ). item (take row_width y))
        (ap (λ (q : ℕ). drop q (a ++ b)) (let w : (m + k) * row_width ≡ length a + k * row_width = omega arith in w) ∙ drop-append-add a b (k * row_width))

    pub items-joined : items_of (a ++ b) names ≡ items_of a names ++ items_of b names
    items-joined =
        let w : row_count a ≡ m = omega arith in
        ap (λ (q : ℕ). items (row_at (a ++ b) names) q) (let v : row_count (a ++ b) ≡ m + row_count b = omega (arith, length-append a b) in v)
        ∙ items_add (row_at (a ++ b) names) m (row_count b)
        ∙ ap₂ ◌++◌ (items-same _ (row_at a names) m first_rows) (items-same _ (row_at b names) (row_count b) (λ k l. later_rows k))
        ∙ rw w
