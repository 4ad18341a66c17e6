-- Rows at the edges, by computation.
use mathlib.Core.Path.{◌≡◌, refl}
use mathlib.Core.List.{[], ◌∷◌}
use lib.ListN.{replicate}
use Rattle.text.specs.Text.{decimal}
use Rattle.row_lines.specs.RowText.{row_line}

-- a Nop at parcel 6: `6⇥38`
nop : row_line 6 (38 ∷ replicate 16 0) ≡ 54 ∷ 9 ∷ 51 ∷ 56 ∷ 10 ∷ []
unfolding row_line decimal
nop = refl

-- a zero that something follows is written: `0⇥28⇥0⇥6⇥1`
jump : row_line 0 (28 ∷ 0 ∷ 6 ∷ 1 ∷ replicate 13 0) ≡ 48 ∷ 9 ∷ 50 ∷ 56 ∷ 9 ∷ 48 ∷ 9 ∷ 54 ∷ 9 ∷ 49 ∷ 10 ∷ []
unfolding row_line decimal
jump = refl

-- kind 0 is written even alone: `0⇥0`
kind : row_line 0 (replicate 17 0) ≡ 48 ∷ 9 ∷ 48 ∷ 10 ∷ []
unfolding row_line decimal
kind = refl
