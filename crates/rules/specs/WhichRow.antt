-- Document 02, wish 3: which row a refused build names; and what it told before it named one.
use Rattle.std.specs.Prelude.{◌≡◌, ◌⊎◌, List, [], ◌∷◌, ℕ, ◌+◌, ◌≤◌, ◌<◌, ltb, Ok, Err}
use Rattle.refusals.specs.declared.Told.{Told}
use Rattle.refusals.specs.declared.Refusal.{Refusal}
use Rattle.refusals.specs.declared.Refusal.TheVariants.{UnclosedLoop}
use Rattle.refusals.specs.Answers.{Verdict}
use Rattle.refusals.specs.Numbers.{counted, told_of, in_row}
use Rattle.refusals.specs.Order.{when, first, first_of, FirstAt}
use Rattle.places.specs.declared.Rooms.{Rooms}
use Rattle.places.specs.Items.{Kernel, kernel_of, row_count, about, nest}
use Rattle.places.specs.Verdict.{verdict_at, reach_at}
use Rattle.places.specs.Left.{Lent, rooms_of_lent}

module _ (k : Kernel) where
  -- "the innermost loop start still open": no row closes it, and no loop that starts in it is open at the end
  pub record StillOpen (row : ℕ) : Type 0 where
    pub starts : (about (k.it row)).opens ≡ 1
    pub stays : (q : ℕ) → row < q → q ≤ k.n → nest k.it row < nest k.it q
    pub innermost : nest k.it k.n ≡ nest k.it row + 1

  module _ (rooms : Rooms) where
    abbrev pub RowsPass : Type 0
    RowsPass = (i : ℕ) → i < k.n → verdict_at k rooms i ≡ Ok tt

    -- the first row at fault; or 23, once all rows pass; or, once every loop is closed, the first jump that does not reach its label
    abbrev pub Names : Refusal → ℕ → Type 0
    Names why row =
        FirstAt (verdict_at k rooms) k.n why row
        ⊎ (RowsPass × (why ≡ UnclosedLoop) × StillOpen row)
        ⊎ (RowsPass × (nest k.it k.n ≡ 0) × FirstAt (reach_at k) k.n why row)

    -- document 01's verdict
    abbrev pub verdict_before : Verdict
    verdict_before =
        first
        (first_of (verdict_at k rooms) k.n
        ∷ when (ltb 0 (nest k.it k.n)) UnclosedLoop
        ∷ first_of (reach_at k) k.n
        ∷ [])

-- and its answer in numbers
abbrev pub told_before : Verdict → ℕ → Told
told_before (Ok _) n = counted n
told_before (Err r) n = told_of r

-- what is told is a refusal that names one of the list's rows, and which
pub record NamesRow (rows names : List ℕ) (lent : Lent) (t : Told) : Type 0 where
  pub why : Refusal
  pub row : ℕ
  pub told : t ≡ in_row row (told_of why)
  pub one_of : row < row_count rows
  pub is : Names (kernel_of rows names) (rooms_of_lent lent) why row
