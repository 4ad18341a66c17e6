-- Document 01, "Kernels on the edge": the starred kernels, rows to parcels or refusal, by computing what a build comes to.
use mathlib.Core.Path.{refl}
use mathlib.Core.List.{[], ◌∷◌}
use lib.IntN.{pos}
use Rattle.refusals.specs.Numbers.{alone, one}
use Rattle.bounds.specs.Bounds.{fields, compute, bounds_of}
use Rattle.bounds.specs.Checks.{said, places_of, check_of}
use Rattle.computes.specs.Compute.{made_multi, made_single}
use Rattle.encode.specs.Registers.{in_dag}
use Rattle.encode.specs.Layouts.{layout_of}
use Rattle.encode.specs.Encoding.{jump_form, loop_form, form_of, parcels_of, verdict_of}
use Rattle.rows.specs.Fields.{condition_of, mode_of, alu_op_of, count_of, scalars, transfers, others, instruction_of}
use Rattle.rows.specs.Rows.{compute_of, item_of, read_of}
use Rattle.places.specs.Kernels.{Gives, Refuses}

pub starred :
    Gives ((38 ∷ []) ∷ []) (0x0001 ∷ [])
    × Gives ((39 ∷ []) ∷ []) (0x0000 ∷ 0x0000 ∷ 0x0000 ∷ [])
    × Gives ((23 ∷ 0 ∷ 6 ∷ 0xffff_ffc0 ∷ []) ∷ []) (0x9c08 ∷ 0x0040 ∷ [])
    × Gives ((23 ∷ 0 ∷ 6 ∷ 64 ∷ []) ∷ []) (0xac00 ∷ 0x0000 ∷ 0x0040 ∷ [])
    × Gives ((23 ∷ 0 ∷ 6 ∷ 0xffff_ffbf ∷ []) ∷ []) (0xac00 ∷ 0xffff ∷ 0xffbf ∷ [])
    × Gives ((20 ∷ 2 ∷ 4 ∷ 6 ∷ []) ∷ []) (0x99b2 ∷ [])
    × Gives ((16 ∷ 1 ∷ 0x16 ∷ []) ∷ []) (0x717f ∷ 0x00bf ∷ [])
    × Gives ((30 ∷ 0x1234 ∷ []) ∷ []) (0x9fc0 ∷ 0x0000 ∷ 0x1234 ∷ [])
    × Gives ((35 ∷ 7 ∷ 7 ∷ 0x1234 ∷ []) ∷ []) (0x9fc0 ∷ 0x0000 ∷ 0x1234 ∷ [])
    × Gives ((28 ∷ 5 ∷ 0xff80_0000 ∷ 0 ∷ []) ∷ []) (0x073e ∷ 0x0080 ∷ 0x0000 ∷ [])
    × Refuses ((28 ∷ 5 ∷ 0x80_0000 ∷ 0 ∷ []) ∷ []) 0 (one 9 (pos 0x80_0000))
    × Gives ((32 ∷ 2 ∷ 0 ∷ 1 ∷ 5 ∷ 0 ∷ 2 ∷ 9 ∷ 13 ∷ []) ∷ []) (0x013e ∷ 0x0058 ∷ 0x0255 ∷ [])
    × Gives ((50 ∷ 0 ∷ 16 ∷ 1 ∷ []) ∷ (39 ∷ []) ∷ (51 ∷ []) ∷ []) (0x0c00 ∷ 0x1080 ∷ 0x0003 ∷ 0x0000 ∷ 0x0000 ∷ 0x0000 ∷ [])
    × Refuses ((50 ∷ 0 ∷ 16 ∷ 1 ∷ []) ∷ (50 ∷ 0 ∷ 16 ∷ 1 ∷ []) ∷ (39 ∷ []) ∷ (51 ∷ []) ∷ (51 ∷ []) ∷ []) 4 (alone 25)
unfolding fields compute bounds_of said places_of check_of made_multi made_single in_dag layout_of jump_form loop_form form_of parcels_of verdict_of condition_of mode_of alu_op_of count_of scalars transfers others instruction_of compute_of item_of read_of
starred = (
  (refl, refl),
  (refl, refl),
  (refl, refl),
  (refl, refl),
  (refl, refl),
  (refl, refl),
  (refl, refl),
  (refl, refl),
  (refl, refl),
  (refl, refl),
  refl,
  (refl, refl),
  (refl, refl),
  refl,
)
