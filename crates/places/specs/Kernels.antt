-- How the starred kernels are read: rows without their trailing zeros, built without names in buffers of sevens.
use Rattle.std.specs.Prelude.{ℕ, ◌≡◌, List, [], ◌∷◌, ◌++◌, length, take, replicate}
use Rattle.refusals.specs.declared.Told.{Told}
use Rattle.refusals.specs.Numbers.{counted, in_row, answered}
use Rattle.rows.specs.Rows.{row_width}
use Rattle.places.specs.Left.{Lent, lent_of, Outcome, build_of}

abbrev pub row : List ℕ → List ℕ
row fields = take row_width (fields ++ replicate row_width 0)

abbrev pub rows : List (List ℕ) → List ℕ
rows [] = []
rows (fs ∷ kernel) = row fs ++ rows kernel

abbrev pub sevens : Lent
sevens = lent_of (replicate 12 7) [] [] (replicate 3 (record { place = 7; first = 7; count = 7; mode = 7 }))

abbrev pub build : List (List ℕ) → Outcome
build kernel = build_of (rows kernel) [] sevens

-- 0 and the count, with these parcels at the front and the rest as lent; or a refusal's number and details, and the row that it names
abbrev pub Gives : List (List ℕ) → List ℕ → Type 0
Gives kernel parcels = (answered (build kernel).answer ≡ counted (length parcels)) × ((build kernel).lent.parcels ≡ take 12 (parcels ++ replicate 12 7))

abbrev pub Refuses : List (List ℕ) → ℕ → Told → Type 0
Refuses kernel row told = answered (build kernel).answer ≡ in_row row told
