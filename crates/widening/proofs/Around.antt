-- Lists around tails, by computing what is listed and copied.
use mathlib.Core.Path.{◌≡◌, refl}
use mathlib.Core.List.{[], ◌∷◌, ◌++◌}
use lib.ListN.{replicate}
use Rattle.bounds.specs.Bounds.{fields, compute, bounds_of}
use Rattle.bounds.specs.Checks.{said, places_of, check_of}
use Rattle.encode.specs.Registers.{in_dag}
use Rattle.encode.specs.Layouts.{layout_of}
use Rattle.encode.specs.Encoding.{form_of}
use Rattle.rows.specs.Fields.{mode_of, count_of, transfers, others, instruction_of}
use Rattle.rows.specs.Rows.{item_of, read_of}
use Rattle.places.specs.Kernels.{rows}
use Rattle.widening.specs.Widening.{left_copy, left_list}
use Rattle.widening.specs.Kernels.{Gives, Stays, loop}

-- each kind that gives way, with its twin
pub each_kind_gives_way :
    Gives
    (loop ((19 ∷ 1 ∷ 2 ∷ 3 ∷ []) ∷ (20 ∷ 4 ∷ 5 ∷ 6 ∷ []) ∷ (21 ∷ 0x1f ∷ 2 ∷ 3 ∷ []) ∷ (22 ∷ 0x5e ∷ 5 ∷ 6 ∷ []) ∷ (38 ∷ []) ∷ []))
    (1 ∷ 19 ∷ 2 ∷ 20 ∷ 3 ∷ 21 ∷ 4 ∷ 22 ∷ 5 ∷ 38 ∷ [])
    (loop
    ((34 ∷ replicate 8 0 ++ 0 ∷ 1 ∷ 2 ∷ 3 ∷ 0 ∷ [])
    ∷ (34 ∷ replicate 8 0 ++ 1 ∷ 4 ∷ 5 ∷ 6 ∷ 0 ∷ [])
    ∷ (34 ∷ replicate 8 0 ++ 0 ∷ 0x1f ∷ 2 ∷ 3 ∷ 1 ∷ [])
    ∷ (34 ∷ replicate 8 0 ++ 1 ∷ 0x5e ∷ 5 ∷ 6 ∷ 1 ∷ [])
    ∷ (39 ∷ [])
    ∷ []))
unfolding fields compute bounds_of said places_of check_of in_dag layout_of form_of mode_of count_of transfers others instruction_of item_of read_of
each_kind_gives_way = (refl, refl)

-- of twelve in a body the first stays, and so does what stands outside; a nested loop start is one of the twelve
pub twelfth_stays :
    Gives ((38 ∷ []) ∷ loop (replicate 12 (38 ∷ [])))
    (3 ∷ 38 ∷ 4 ∷ 38 ∷ 5 ∷ 38 ∷ 6 ∷ 38 ∷ 7 ∷ 38 ∷ 8 ∷ 38 ∷ 9 ∷ 38 ∷ 10 ∷ 38 ∷ 11 ∷ 38 ∷ 12 ∷ 38 ∷ 13 ∷ 38 ∷ [])
    ((38 ∷ []) ∷ loop ((38 ∷ []) ∷ replicate 11 (39 ∷ [])))
    × Stays (loop ((38 ∷ []) ∷ loop (replicate 9 (39 ∷ [])) ++ (39 ∷ []) ∷ []))
unfolding fields compute bounds_of said places_of check_of layout_of form_of mode_of count_of others instruction_of item_of read_of
twelfth_stays = ((refl, refl), (refl, refl))

-- a loop with a loop in it is treated too, before the inner one and behind it
pub outer_gives_way :
    Gives (loop ((38 ∷ []) ∷ loop ((39 ∷ []) ∷ []) ++ (38 ∷ []) ∷ [])) (1 ∷ 38 ∷ 5 ∷ 38 ∷ []) (loop ((39 ∷ []) ∷ loop ((39 ∷ []) ∷ []) ++ (39 ∷ []) ∷ []))
unfolding fields compute bounds_of said places_of check_of layout_of form_of mode_of count_of others instruction_of item_of read_of
outer_gives_way = (refl, refl)

-- short kinds that stay; rows that do not encode: a post-modify load of I0, a pre-modify store of I0 by I1, an access by I8, by M8
pub others_stay :
    Stays (loop ((16 ∷ 1 ∷ 2 ∷ []) ∷ (23 ∷ 1 ∷ 2 ∷ 3 ∷ []) ∷ (24 ∷ 1 ∷ 2 ∷ 3 ∷ []) ∷ []))
    × Stays (loop ((19 ∷ 0x10 ∷ 1 ∷ 1 ∷ []) ∷ (22 ∷ 0x10 ∷ 1 ∷ 1 ∷ []) ∷ (21 ∷ 1 ∷ 8 ∷ 1 ∷ []) ∷ (21 ∷ 1 ∷ 1 ∷ 8 ∷ []) ∷ []))
unfolding fields compute bounds_of said places_of check_of in_dag layout_of form_of mode_of count_of transfers others instruction_of item_of read_of
others_stay = ((refl, refl), (refl, refl))

-- loops that do not pair: a start without an end, and an end without a start, behind a loop
pub unpaired_stay :
    Stays ((50 ∷ 0 ∷ 1 ∷ []) ∷ loop ((38 ∷ []) ∷ []))
    × Stays (loop ((38 ∷ []) ∷ []) ++ (51 ∷ []) ∷ [])
unfolding fields compute bounds_of said places_of check_of layout_of form_of mode_of count_of others instruction_of item_of read_of
unpaired_stay = ((refl, refl), (refl, refl))

-- one change, and no room for it: the copy and the list stay as lent, whatever room the copy has
pub no_room_for_a_change :
    (left_copy (rows (loop ((38 ∷ []) ∷ []))) [] (replicate 60 7) (7 ∷ []) ≡ replicate 60 7)
    × (left_list (rows (loop ((38 ∷ []) ∷ []))) [] (replicate 60 7) (7 ∷ []) ≡ 7 ∷ [])
unfolding fields compute bounds_of said places_of check_of layout_of form_of mode_of count_of others instruction_of item_of read_of
no_room_for_a_change = (refl, refl)
