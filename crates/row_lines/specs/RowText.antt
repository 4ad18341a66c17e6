-- What the read back program prints of rows and their places: a line a row, in the form that the bench program reads (document 01, "The bench
-- program": "a row without its trailing zeros, the kind always written").
use Rattle.std.specs.Prelude.{◌≡◌, cond, List, [], ◌∷◌, ◌++◌, ℕ, ◌≤◌, length, take, drop, eqb}
use Rattle.text.specs.Text.{decimal, each, ok}

-- a number before those that are written: a zero before none is left off
abbrev pub before : ℕ → List ℕ → List ℕ
before n [] = cond (eqb n 0) [] (n ∷ [])
before n (m ∷ ms) = n ∷ m ∷ ms

-- numbers without their trailing zeros
abbrev pub bare : List ℕ → List ℕ
bare [] = []
bare (n ∷ ns) = before n (bare ns)

-- the numbers of a row that are written: its kind always
abbrev pub written : List ℕ → List ℕ
written [] = []
written (kind ∷ ns) = kind ∷ bare ns

-- a tab and a number
abbrev pub field : ℕ → List ℕ
field n = 9 ∷ decimal n

-- a row's line: its place, a tab, and its numbers parted by tabs
unfoldable pub row_line : ℕ → List ℕ → List ℕ
row_line place row = decimal place ++ each field (written row) ++ 10 ∷ []

-- the lines of rows of seventeen numbers, one for each place
abbrev pub row_lines : List ℕ → List ℕ → List ℕ
row_lines [] rows = []
row_lines (p ∷ ps) rows = row_line p (take 17 rows) ++ row_lines ps (drop 17 rows)

-- `ok`, a tab, the number of rows, and their lines
abbrev pub rows_text : ℕ → List ℕ → List ℕ → List ℕ
rows_text n places rows = ok ++ decimal n ++ 10 ∷ [] ++ row_lines places rows

-- a text of r bytes stands at the front of a buffer
pub record Prints (text buffer : List ℕ) (r : ℕ) : Type 0 where
  pub front : take r buffer ≡ text
  pub within : r ≤ length buffer
