-- The rows that were passed are wide; past the body or the last 11 none counts.
use Rattle.ends.proofs.Tails.{Behind}
use Rattle.places.specs.Items.{row_at}
use Rattle.ends.proofs.tail_check.Given as goal

abbrev pub invariant-loop-i : goal.invariant-loop-i
invariant-loop-i l = Behind (row_at l.rows l.names) l.end l.i l.place l.seen
