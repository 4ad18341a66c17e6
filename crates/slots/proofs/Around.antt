-- Document 02, wish 1, on lists: by computing what the slot check tells. 28 is a delayed `JumpRelative`, 29 a `CJump`, 38 a Nop, 48 a label.
use mathlib.Core.Path.{refl}
use mathlib.Core.List.{[], ◌∷◌}
use lib.IntN.{pos}
use Rattle.refusals.specs.Numbers.{alone, one}
use Rattle.bounds.specs.Bounds.{fields, compute, bounds_of}
use Rattle.bounds.specs.Checks.{said, places_of, check_of}
use Rattle.computes.specs.Compute.{made_multi, made_single}
use Rattle.encode.specs.Registers.{in_dag}
use Rattle.encode.specs.Layouts.{layout_of}
use Rattle.encode.specs.Encoding.{form_of}
use Rattle.rows.specs.Fields.{condition_of, mode_of, alu_op_of, count_of, scalars, transfers, others, instruction_of}
use Rattle.rows.specs.Rows.{compute_of, item_of, read_of}
use Rattle.slots.specs.Kernels.{Passes, Refuses}

-- labels before, between and behind the two, one and many
pub labels_around :
    Passes ((28 ∷ 5 ∷ 0 ∷ 1 ∷ []) ∷ (48 ∷ []) ∷ (38 ∷ []) ∷ (38 ∷ []) ∷ [])
    × Passes ((28 ∷ 5 ∷ 0 ∷ 1 ∷ []) ∷ (38 ∷ []) ∷ (48 ∷ []) ∷ (38 ∷ []) ∷ [])
    × Passes ((29 ∷ 7 ∷ []) ∷ (38 ∷ []) ∷ (38 ∷ []) ∷ (48 ∷ []) ∷ [])
    × Passes ((29 ∷ 7 ∷ []) ∷ (48 ∷ []) ∷ (48 ∷ []) ∷ (38 ∷ []) ∷ (48 ∷ []) ∷ (48 ∷ []) ∷ (48 ∷ []) ∷ (38 ∷ []) ∷ (48 ∷ []) ∷ [])
unfolding fields compute bounds_of said places_of check_of made_multi made_single in_dag layout_of form_of condition_of mode_of alu_op_of count_of scalars transfers others instruction_of compute_of item_of read_of
labels_around = (refl, refl, refl, refl)

-- "Loop starts, loop ends and labelled jumps still break a slot", behind a label too, "and a list that ends early does too"
pub others_break :
    Refuses ((28 ∷ 5 ∷ 0 ∷ 1 ∷ []) ∷ (38 ∷ []) ∷ (48 ∷ []) ∷ (50 ∷ 0 ∷ 1 ∷ []) ∷ (38 ∷ []) ∷ []) 0 (one 33 (pos 0))
    × Refuses ((28 ∷ 5 ∷ 0 ∷ 1 ∷ []) ∷ (38 ∷ []) ∷ (48 ∷ []) ∷ (51 ∷ []) ∷ (38 ∷ []) ∷ []) 0 (one 33 (pos 0))
    × Refuses ((29 ∷ 7 ∷ []) ∷ (48 ∷ []) ∷ (49 ∷ 5 ∷ []) ∷ (38 ∷ []) ∷ (38 ∷ []) ∷ []) 0 (one 33 (pos 0))
    × Refuses ((29 ∷ 7 ∷ []) ∷ (48 ∷ []) ∷ []) 0 (one 33 (pos 0))
    × Refuses ((48 ∷ []) ∷ (29 ∷ 7 ∷ []) ∷ (48 ∷ []) ∷ (38 ∷ []) ∷ (48 ∷ []) ∷ []) 1 (one 33 (pos 1))
unfolding fields compute bounds_of said places_of check_of made_multi made_single in_dag layout_of form_of condition_of mode_of alu_op_of count_of scalars transfers others instruction_of compute_of item_of read_of
others_break = (refl, refl, refl, refl, refl)

-- a row refusal behind comes first
pub refusal_behind :
    Refuses ((29 ∷ 7 ∷ []) ∷ (48 ∷ []) ∷ (51 ∷ []) ∷ (13 ∷ []) ∷ []) 3 (alone 2)
unfolding fields compute bounds_of said places_of check_of made_multi made_single in_dag layout_of form_of condition_of mode_of alu_op_of count_of scalars transfers others instruction_of compute_of item_of read_of
refusal_behind = refl
