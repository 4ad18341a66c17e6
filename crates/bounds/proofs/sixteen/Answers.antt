-- The first eight places stand before the last eight; places below their bounds say nothing.
use Rattle.std.proofs.Common.{◌≤◌, refl, sym, ◌∙◌, length, drop, Ok, arith}
use Rattle.bounds.specs.Bounds.{bounds_of}
use Rattle.bounds.specs.Checks.{said, places_of}
use Rattle.bounds.proofs.Filled.{length-bounds}
use Rattle.bounds.proofs.Tails.{first-last}
use Rattle.bounds.proofs.sixteen.Goals as goal

pub returns-then-are_below-2 : goal.returns-then-are_below-2
unfolding places_of
returns-then-are_below-2 c =
    let row = c.args.row.now in
    let h : 8 ≤ length (bounds_of row) = omega (arith, length-bounds row) in
    c.if-are_below-2.ensures refl (Ok tt)
    ∙ c.if-are_below.ensures refl (said c.back-last.result (drop 9 row) (Ok tt))
    ∙ rw (c.front-first.ensures, c.back-last.ensures) (sym (first-last (bounds_of row) row (Ok tt) h c.requires))

pub returns : goal.returns
unfolding places_of
returns c =
    let row = c.args.row.now in
    let h : 8 ≤ length (bounds_of row) = omega (arith, length-bounds row) in
    c.eight.ensures ∙ rw (c.front-first.ensures, c.eight-after.ensures, c.back-last.ensures) (sym (first-last (bounds_of row) row (Ok tt) h c.requires))
