-- After i rows the count is that of the changed ones among them.
use Rattle.widening.specs.Widening.{changes}
use Rattle.widening.proofs.Changing.{Tally}
use Rattle.widening.proofs.count_changes.Given as goal

abbrev pub invariant-loop-i : goal.invariant-loop-i
invariant-loop-i l = Tally (changes l.rows l.names) l.i-end l.i l.count
