-- As many loops have ended on the way back as the nesting is deeper there.
use Rattle.ends.proofs.Starting.{Back}
use Rattle.places.specs.Items.{row_at}
use Rattle.ends.proofs.start_of.Given as goal

abbrev pub invariant-loop-i : goal.invariant-loop-i
invariant-loop-i l = Back (row_at l.rows l.names) l.end l.i l.ended
