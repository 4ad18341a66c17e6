-- How the lists around tails are read: rows without their trailing zeros, widened without names.
use Rattle.std.specs.Prelude.{◌≡◌, List, [], ◌∷◌, ◌++◌, ℕ, length}
use Rattle.places.specs.Kernels.{rows}
use Rattle.places.specs.Left.{gather}
use Rattle.widening.specs.Widening.{listed, copied}

-- the changes listed, and the copy
abbrev pub Gives : List (List ℕ) → List ℕ → List (List ℕ) → Type 0
Gives kernel list wide = (gather (listed (rows kernel) []) (length kernel) ≡ list) × (gather (copied (rows kernel) []) (length kernel) ≡ rows wide)

abbrev pub Stays : List (List ℕ) → Type 0
Stays kernel = Gives kernel [] kernel

-- a loop of one round
abbrev pub loop : List (List ℕ) → List (List ℕ)
loop body = (50 ∷ 0 ∷ 1 ∷ []) ∷ body ++ (51 ∷ []) ∷ []
