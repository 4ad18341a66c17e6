-- No instruction was passed, so an end that is met ends on the same one.
use Rattle.ends.proofs.Tails.{Bare}
use Rattle.places.specs.Items.{row_at}
use Rattle.ends.proofs.shares_end.Given as goal

abbrev pub invariant-loop-i : goal.invariant-loop-i
invariant-loop-i l = Bare (row_at l.rows l.names) l.end l.i
