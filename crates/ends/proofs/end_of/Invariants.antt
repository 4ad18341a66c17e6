-- The loop stays open until its own end is met.
use Rattle.ends.proofs.Ending.{Inside}
use Rattle.places.specs.Items.{row_at}
use Prim.Native.Nat.{◌≤◌}
use Rattle.ends.proofs.end_of.Given as goal

abbrev pub invariant-loop-i : goal.invariant-loop-i
invariant-loop-i l = Inside (row_at l.rows l.names) l.start l.i l.depth × (l.i ≤ l.n)
