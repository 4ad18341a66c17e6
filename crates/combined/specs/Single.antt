-- Instruments of the short way: a single compute's third field, and its word.
use Rattle.std.specs.Prelude.{ℕ, cond, List, [], ◌∷◌, Option, Some, None}
use Rattle.fields.specs.Pack.{pack}
use Rattle.encode.specs.Layouts.{layout_of}
use Rattle.bounds.specs.Tables.{lookup}
use Rattle.bounds.specs.Bounds.{is_compute}
use Rattle.rows.specs.Fields.{instruction_of}

-- the most that the third field holds, by kind
abbrev pub thirds : List (ℕ × Option ℕ)
thirds =
    (0, Some 15) ∷ (1, Some 15) ∷ (2, Some 15) ∷ (3, Some 15) ∷ (4, Some 15) ∷ (5, Some 0) ∷ (6, Some 0) ∷ (7, Some 15) ∷ (8, Some 0) ∷ (25, Some 0) ∷ (26, Some 0) ∷ (27, Some 0) ∷ []

-- nothing where the kind is no compute
unfoldable pub third_of : ℕ → Option ℕ
third_of kind = lookup kind thirds None

-- the word of the instruction of that kind, nothing where the kind is no compute
unfoldable pub single_word : ℕ → ℕ → ℕ → ℕ → Option ℕ
single_word kind a b c = cond (is_compute kind) (Some (pack (layout_of (instruction_of kind a b c)).fields)) None
