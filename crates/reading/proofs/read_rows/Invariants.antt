-- After each turn what was read stands at the front of the lent slices.
use Prim.Native.Nat.{◌-◌}
use lib.ListN.{length}
use Rattle.reading.proofs.Walked.{Walked}
use Rattle.reading.proofs.read_rows.Given as goal

abbrev pub invariant-loop-at : goal.invariant-loop-at
invariant-loop-at l = Walked l.parcels l.initial.rows l.initial.places l.at l.done l.rows l.places

abbrev pub decreases-loop-at : goal.decreases-loop-at
decreases-loop-at l = length l.parcels - l.at
