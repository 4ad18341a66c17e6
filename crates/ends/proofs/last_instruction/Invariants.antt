-- The rows that were passed are no instructions.
use Rattle.ends.proofs.Starting.{After}
use Rattle.places.specs.Items.{row_at}
use Rattle.ends.proofs.last_instruction.Given as goal

abbrev pub invariant-loop-i : goal.invariant-loop-i
invariant-loop-i l = After (row_at l.rows l.names) l.end l.i
