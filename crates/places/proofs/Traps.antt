-- Document 01, "Traps on the way", where a list shows the trap: by computing what a build comes to.
use mathlib.Core.Path.{◌≡◌, refl}
use mathlib.Core.List.{[], ◌∷◌}
use lib.IntN.{pos}
use lib.ListN.{replicate}
use Rattle.refusals.specs.Numbers.{alone, one}
use Rattle.bounds.specs.Bounds.{fields, compute, bounds_of}
use Rattle.bounds.specs.Checks.{said, places_of, check_of}
use Rattle.computes.specs.Compute.{made_multi, made_single}
use Rattle.encode.specs.Registers.{in_dag}
use Rattle.encode.specs.Layouts.{layout_of}
use Rattle.encode.specs.Encoding.{jump_form, loop_form, form_of, parcels_of, verdict_of}
use Rattle.rows.specs.Fields.{condition_of, mode_of, alu_op_of, count_of, scalars, transfers, others, instruction_of}
use Rattle.rows.specs.Rows.{compute_of, item_of, read_of}
use Rattle.places.specs.Kernels.{build, Refuses}

-- "Testing a zero count at the loop start": a loop of count 0 is refused with 20 at its end, over a WideNop; without a body with 22, which stands
-- before 20 in the order of a loop end; without an end with 23, and not at its start
pub zero_count_told_at_the_end :
    Refuses ((50 ∷ 0 ∷ 0 ∷ 0 ∷ []) ∷ (39 ∷ []) ∷ (51 ∷ []) ∷ []) 2 (alone 20)
    × Refuses ((50 ∷ 0 ∷ 0 ∷ 0 ∷ []) ∷ (51 ∷ []) ∷ []) 1 (alone 22)
    × Refuses ((50 ∷ 0 ∷ 0 ∷ 0 ∷ []) ∷ (39 ∷ []) ∷ []) 0 (alone 23)
unfolding fields compute bounds_of said places_of check_of made_multi made_single in_dag layout_of jump_form loop_form form_of parcels_of verdict_of condition_of mode_of alu_op_of count_of scalars transfers others instruction_of compute_of item_of read_of
zero_count_told_at_the_end = (refl, refl, refl)

-- "A tail rule that .. reports the earliest short one": of two Nops in a body the later is told, by its parcel
pub latest_short_told : Refuses ((50 ∷ 0 ∷ 1 ∷ 0 ∷ []) ∷ (38 ∷ []) ∷ (38 ∷ []) ∷ (51 ∷ []) ∷ []) 3 (one 26 (pos 4))
unfolding fields compute bounds_of said places_of check_of made_multi made_single in_dag layout_of jump_form loop_form form_of parcels_of verdict_of condition_of mode_of alu_op_of count_of scalars transfers others instruction_of compute_of item_of read_of
latest_short_told = refl

-- Document 02, wish 3: 23 gives "the innermost loop start still open", not the outermost and not the latest start, which may be closed; a room's
-- refusal gives its row
pub rows_named :
    Refuses ((50 ∷ 0 ∷ 1 ∷ 0 ∷ []) ∷ (50 ∷ 0 ∷ 1 ∷ 0 ∷ []) ∷ (39 ∷ []) ∷ []) 1 (alone 23)
    × Refuses ((38 ∷ []) ∷ (50 ∷ 0 ∷ 1 ∷ 0 ∷ []) ∷ (50 ∷ 0 ∷ 1 ∷ 0 ∷ []) ∷ (39 ∷ []) ∷ (51 ∷ []) ∷ []) 1 (alone 23)
    × Refuses ((38 ∷ []) ∷ (49 ∷ []) ∷ (38 ∷ []) ∷ []) 1 (one 31 (pos 0))
unfolding fields compute bounds_of said places_of check_of made_multi made_single in_dag layout_of jump_form loop_form form_of parcels_of verdict_of condition_of mode_of alu_op_of count_of scalars transfers others instruction_of compute_of item_of read_of
rows_named = (refl, refl, refl)

-- "Refused: zeros stand in the parcels .. that the rows before the refused one took .. All else is unchanged": a Nop, then an unknown kind
pub refused_leaves_zeros : (build ((38 ∷ []) ∷ (13 ∷ []) ∷ [])).lent.parcels ≡ 0 ∷ replicate 11 7
unfolding fields compute bounds_of said places_of check_of made_multi made_single in_dag layout_of jump_form loop_form form_of parcels_of verdict_of condition_of mode_of alu_op_of count_of scalars transfers others instruction_of compute_of item_of read_of
refused_leaves_zeros = refl
