-- The copies and the changes so far stand at the front of the lent slices.
use Rattle.widening.proofs.Writing.{along_room, along_next}
use Rattle.widening.proofs.write.Goals as goal

pub list_change-done-requires : goal.list_change-done-requires
list_change-done-requires c = (c.loop-i-test.true, c.requires.0.few, along_room _ _ c.loop-i.invariant c.loop-i-test.true c.is_changed-change.ensures)

pub loop-i-preserved : goal.loop-i-preserved
loop-i-preserved c = along_next _ _ c.loop-i.invariant c.loop-i-test.true c.is_changed-change.ensures c.put_copied.ensures c.list_change-done.ensures
