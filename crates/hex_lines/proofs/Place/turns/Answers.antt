use mathlib.Core.Path.{refl}
use Rattle.std.proofs.Common.{arith}
use Rattle.std.proofs.lemmas.Result.{err_from_is_err_and}
use Rattle.hex_lines.specs.Steps.{turn_of}
use Rattle.hex_lines.proofs.Feeding.{feeding_start, feeding_next, feeding_unread, feeding_end}
use Rattle.hex_lines.proofs.Place.turns.Goals as goal

pub loop-b-init : goal.loop-b-init
loop-b-init c = feeding_start _ _ c.requires

pub loop-b-preserved : goal.loop-b-preserved
unfolding turn_of
loop-b-preserved c = feeding_next _ _ _ _ c.loop-b.invariant (omega arith) c.in_ok-place.ensures

pub returns-in_err-place : goal.returns-in_err-place
unfolding turn_of
returns-in_err-place c =
    let p = err_from_is_err_and c.from_residual.result c.from_residual.ensures.1 in
    rw (p.1, p.2) (feeding_unread _ _ _ _ _ (feeding_next _ _ _ _ c.loop-b.invariant (omega arith) c.in_err-place.ensures) refl)

pub returns : goal.returns
returns c = feeding_end _ _ _ _ c.loop-b.invariant (omega arith)
