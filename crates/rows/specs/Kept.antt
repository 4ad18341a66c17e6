-- What is promised of the numbers of a row that is read: each lies below its place's bound, so the remainders of Fields.antt change none.
use Rattle.std.specs.Prelude.{ℕ, ◌%◌, ◌≤◌, ◌<◌, ◌≡◌, List, [], ◌∷◌}

-- each place holds a number below its bound
abbrev pub Below : List ℕ → List ℕ → Type 0
Below [] vs = Unit
Below (b ∷ bs) [] = Unit
Below (b ∷ bs) (v ∷ vs) = (v < b) × Below bs vs

-- a place whose bound is at most m holds its own remainder by m
abbrev pub Kept : ℕ → List ℕ → List ℕ → Type 0
Kept m [] vs = Unit
Kept m (b ∷ bs) [] = Unit
Kept m (b ∷ bs) (v ∷ vs) = (b ≤ m → v % m ≡ v) × Kept m bs vs
