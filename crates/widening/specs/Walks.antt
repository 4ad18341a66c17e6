-- Instruments of the walks over the rows: what they lean on, and what each leaves.
use Rattle.std.specs.Prelude.{◌≡◌, Bool, true, List, [], ◌∷◌, ℕ, ◌*◌, ◌<◌, ◌≤◌, Ok}
use Rattle.bounds.specs.Tables.{lookup}
use Rattle.rows.specs.Rows.{row_width, most_rows}
use Rattle.coded.specs.Coded.{read_verdict}
use Rattle.places.specs.Items.{kernel_of, row_at, row_count}
use Rattle.places.specs.Left.{gather}
use Rattle.stores.specs.Stores.{Begins}
use Rattle.widening.specs.declared.tails.Counted.{Counted}
use Rattle.widening.specs.Widening.{has_twin, pairs, tailed, row_of, copied, listed, changed, change_width}

-- ---- what a row counts for that is read, by its kind
abbrev pub mark : ℕ → ℕ → ℕ → Counted
mark e o c = record { entry = e; opens = o; closes = c }

abbrev pub marks : List (ℕ × Counted)
marks = (48, mark 0 0 0) ∷ (50, mark 1 1 0) ∷ (51, mark 0 0 1) ∷ []

unfoldable pub mark_of : ℕ → Counted
mark_of kind = lookup kind marks (mark 1 0 0)

-- ---- every row is read
abbrev pub AllRead : List ℕ → List ℕ → Type 0
AllRead rows names = (i : ℕ) → i < row_count rows → read_verdict (row_at rows names i) ≡ Ok tt

-- this is whether loops pair, whatever the names
abbrev pub PairsBy : List ℕ → Bool → Type 0
PairsBy rows r = (names : List ℕ) → AllRead rows names → r ≡ pairs (kernel_of rows names)

-- and whether a row that has a twin stands in a loop's tail, where loops pair
abbrev pub TailedBy : List ℕ → ℕ → Bool → Type 0
TailedBy rows row r = (names : List ℕ) → AllRead rows names → pairs (kernel_of rows names) ≡ true → has_twin (row_of rows row) ≡ true → r ≡ tailed (kernel_of rows names) row

-- a list that is read, and whether its loops pair
pub record Listing (rows names : List ℕ) (paired : Bool) : Type 0 where
  pub few : row_count rows ≤ most_rows
  pub read : AllRead rows names
  pub paired_is : paired ≡ pairs (kernel_of rows names)

-- what stands in the copy and in the list of changes once every row is taken
pub record Writes (rows names copy list copy' list' : List ℕ) : Type 0 where
  pub copy_left : Begins copy (gather (copied rows names) (row_count rows)) (row_count rows * row_width) copy'
  pub list_left : Begins list (gather (listed rows names) (row_count rows)) (change_width * changed rows names) list'
