-- Tables: one line a key.
use Rattle.std.specs.Prelude.{ℕ, List, [], ◌∷◌, cond, eqb, get_or}

-- the entry of a key, and `other` where the table has no line for it
abbrev pub lookup : {A : Type 0} → ℕ → List (ℕ × A) → A → A
lookup key [] other = other
lookup key (line ∷ lines) other = cond (eqb key line.0) line.1 (lookup key lines other)

-- place k of a row, where its kind is place 0
abbrev pub at : List ℕ → ℕ → ℕ
at row k = get_or row k 0
