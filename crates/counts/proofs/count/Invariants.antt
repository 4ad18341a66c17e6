-- The count after i rows is `Tallying`'s.
use Rattle.places.specs.Items.{row_at}
use Rattle.counts.proofs.Tally.{Tallying}
use Rattle.counts.proofs.count.Given as goal

abbrev pub invariant-loop-i : goal.invariant-loop-i
invariant-loop-i l = Tallying l.what (row_at l.rows l.names) l.i-end l.i l.count
