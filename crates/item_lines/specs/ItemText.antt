-- Rows with their names as the bench program reads them (document 01, "The bench program": "a row without its trailing zeros, the kind always
-- written"; "Kinds 48 and 49 have two and three fields, the last the name itself"). Every line ends with byte 10.
use Rattle.std.specs.Prelude.{cond, List, [], ◌∷◌, ◌++◌, ℕ, zero, suc, ◌+◌, take, drop, get_or, eqb}
use Rattle.text.specs.Text.{decimal, each}
use Rattle.row_lines.specs.RowText.{written, field}

-- "fields parted by tabs"
abbrev pub parted : List ℕ → List ℕ
parted [] = []
parted (n ∷ ns) = decimal n ++ each field ns

-- a row without its trailing zeros
abbrev pub plain_line : List ℕ → List ℕ
plain_line row = parted (written row) ++ 10 ∷ []

-- n numbers, and then the name itself, whose start and length are the next two of the row
abbrev pub named_line : ℕ → List ℕ → List ℕ → List ℕ
named_line n names row = parted (take n row) ++ 9 ∷ [] ++ take (get_or row (n + 1) 0) (drop (get_or row n 0) names) ++ 10 ∷ []

-- "48 label (name start, length); 49 jump (condition, start, length)"
unfoldable pub item_line : List ℕ → List ℕ → List ℕ
item_line names row = cond (eqb (get_or row 0 0) 48) (named_line 1 names row) (cond (eqb (get_or row 0 0) 49) (named_line 2 names row) (plain_line row))

-- the lines of the first n parts of a list, each of w numbers
abbrev pub lines_of : ℕ → (List ℕ → List ℕ) → ℕ → List ℕ → List ℕ
lines_of w line zero l = []
lines_of w line (suc n) l = line (take w l) ++ lines_of w line n (drop w l)

-- the lines of so many rows of seventeen numbers
abbrev pub item_lines : List ℕ → ℕ → List ℕ → List ℕ
item_lines names n rows = lines_of 17 (item_line names) n rows
