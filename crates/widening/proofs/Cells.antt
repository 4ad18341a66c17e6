-- The numbers of row i, where they stand in the rows.
use mathlib.Core.Path.{◌≡◌, ap, ap₂, ◌∙◌}
use mathlib.Core.List.{List, [], ◌∷◌}
use Prim.Native.Nat.{ℕ, ◌+◌, ◌*◌, ◌<◌}
use native.Mathlib.Omega.{arith}
use lib.ListN.{get_or, drop}
use lib.Seq.{get_or-take, get_or-drop}
use Rattle.bounds.specs.Tables.{at}
use Rattle.rows.specs.Rows.{row_width}
use Rattle.widening.specs.Widening.{twin, row_of}

module _ (rows : List ℕ) (i : ℕ) where
  pub cell : (k : ℕ) → k < row_width → at (row_of rows i) k ≡ get_or rows (i * row_width + k) 0
  cell k h = get_or-take row_width (drop (i * row_width) rows) k 0 h ∙ get_or-drop (i * row_width) rows k 0

  pub kind-cell : at (row_of rows i) 0 ≡ get_or rows (i * row_width) 0
  kind-cell = cell 0 (omega arith) ∙ ap (λ (a : ℕ). get_or rows a 0) (omega arith)

  -- the twin hangs on the kind and three fields
  pub twin-cells : twin (row_of rows i) ≡ twin (get_or rows (i * row_width) 0 ∷ get_or rows (i * row_width + 1) 0 ∷ get_or rows (i * row_width + 2) 0 ∷ get_or rows (i * row_width + 3) 0 ∷ [])
  twin-cells =
      ap₂ (λ (k a : ℕ). twin (k ∷ a ∷ at (row_of rows i) 2 ∷ at (row_of rows i) 3 ∷ [])) kind-cell (cell 1 (omega arith))
      ∙ ap₂ (λ (b c : ℕ). twin (get_or rows (i * row_width) 0 ∷ get_or rows (i * row_width + 1) 0 ∷ b ∷ c ∷ [])) (cell 2 (omega arith)) (cell 3 (omega arith))
