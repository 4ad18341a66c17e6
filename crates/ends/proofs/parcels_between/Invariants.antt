-- The sum of the rows so far.
use Rattle.places.specs.Items.{row_at, place}
use mathlib.Core.Path.{◌≡◌}
use Prim.Native.Nat.{◌+◌, ◌≤◌}
use Rattle.ends.proofs.parcels_between.Given as goal

abbrev pub invariant-loop-i : goal.invariant-loop-i
invariant-loop-i l = (l.from ≤ l.i) × (l.i ≤ l.to) × (l.parcels + place (row_at l.rows l.names) l.from ≡ place (row_at l.rows l.names) l.i)
