-- Lines at the edges, by computation.
use mathlib.Core.Path.{◌≡◌, refl}
use mathlib.Core.List.{[], ◌∷◌}
use lib.ListN.{replicate}
use Rattle.text.specs.Text.{decimal}
use Rattle.item_lines.specs.ItemText.{item_line}

-- the label `b` of the names `ab`: `48⇥b`
label : item_line (97 ∷ 98 ∷ []) (48 ∷ 1 ∷ 1 ∷ replicate 14 0) ≡ 52 ∷ 56 ∷ 9 ∷ 98 ∷ 10 ∷ []
unfolding item_line decimal
label = refl

-- a name without bytes is a field without bytes: `49⇥0⇥`
jump : item_line (97 ∷ 98 ∷ []) (49 ∷ replicate 16 0) ≡ 52 ∷ 57 ∷ 9 ∷ 48 ∷ 9 ∷ 10 ∷ []
unfolding item_line decimal
jump = refl

-- kind 0 is written even alone: `0`
kind : item_line [] (replicate 17 0) ≡ 48 ∷ 10 ∷ []
unfolding item_line decimal
kind = refl
