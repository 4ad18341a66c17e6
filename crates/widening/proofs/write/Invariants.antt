-- The copies and the changes so far stand at the front of the lent slices.
use Rattle.widening.proofs.Writing.{Along}
use Rattle.widening.proofs.write.Given as goal

abbrev pub invariant-loop-i : goal.invariant-loop-i
invariant-loop-i l = Along l.rows l.names l.initial.copy l.initial.changes l.i l.done l.copy l.changes
