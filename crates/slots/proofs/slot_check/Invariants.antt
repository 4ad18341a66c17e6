-- What is kept in mind after i rows is `Watching`'s.
use Rattle.places.specs.Items.{row_at}
use Rattle.slots.proofs.Watching.{Watching}
use Rattle.slots.proofs.slot_check.Given as goal

abbrev pub invariant-loop-i : goal.invariant-loop-i
invariant-loop-i l = Watching (row_at l.rows l.names) l.i-end l.i l.watch
