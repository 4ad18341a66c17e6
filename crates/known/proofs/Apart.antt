-- Which forms are apart: computed tests of the table alone.
use mathlib.Core.Path.{◌≡◌, refl}
use mathlib.Core.Bool.{Bool, true, ◌&&◌}
use mathlib.Core.List.{List, [], ◌∷◌, ◌++◌}
use Rattle.fields.specs.Pack.{Field, fixed}
use Rattle.fields.specs.Matching.{apart}
use Rattle.encode.specs.Layouts.{layout_of}
use Rattle.rows.specs.Fields.{instruction_of, scalars}
use Rattle.rows.specs.Fields as rows
use Rattle.known.specs.Table.{Line, line3b, transfers, others, few_parcels, computing, compute_lines}

abbrev pub apart_from : {A : Type 0} → List Field → List (Line A) → Bool
apart_from fs [] = true
apart_from fs (l ∷ ls) = apart fs l.form && apart_from fs ls

abbrev pub all_apart : {A : Type 0} → List (Line A) → Bool
all_apart [] = true
all_apart (l ∷ ls) = apart_from l.form ls && all_apart ls

-- all forms but 3b are apart, and 3b is apart from all but 3a
pub table-apart : all_apart (transfers ++ (others ++ (few_parcels ++ computing))) ≡ true
table-apart = refl

pub apart_3b : apart_from line3b.form (transfers ++ (others ++ few_parcels)) ≡ true
apart_3b = refl

-- computes are apart from each other, and from what 3b has in its lowest bits
pub computes-apart : all_apart compute_lines ≡ true
unfolding compute_lines layout_of instruction_of scalars rows.others
computes-apart = refl

pub apart_marker : apart_from (fixed 22 16 0b0111111 ∷ []) compute_lines ≡ true
unfolding compute_lines layout_of instruction_of scalars rows.others
apart_marker = refl
