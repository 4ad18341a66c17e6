-- A turn while there is more. The lent slices stand at lists as long as those that were passed.
use mathlib.Core.Path.{sym, ◌∙◌}
use Rattle.taking.proofs.Turning.{along_start, along_next, left_less, along_end}
use Rattle.taking.proofs.take_rows.Goals as goal

pub loop-rooms-init : goal.loop-rooms-init
loop-rooms-init c = rw c.begun-t.ensures (along_start c.requires)

pub loop-rooms-smaller : goal.loop-rooms-smaller
loop-rooms-smaller c = left_less c.loop-rooms.invariant (sym c.more.ensures ∙ c.loop-rooms-test.true) c.turn-t.ensures

pub loop-rooms-preserved : goal.loop-rooms-preserved
loop-rooms-preserved c = along_next c.loop-rooms.invariant (sym c.more.ensures ∙ c.loop-rooms-test.true) c.turn-t.ensures

pub returns : goal.returns
returns c = along_end c.loop-rooms.invariant (sym c.more.ensures ∙ c.loop-rooms-test.false)
