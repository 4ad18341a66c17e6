-- The rows so far.
use Rattle.runs.proofs.Turning.{Along}
use lib.ListN.{length}
use mathlib.Core.Path.{◌≡◌}
use Prim.Native.Nat.{◌+◌}
use Rattle.runs.proofs.skim.Given as goal

abbrev pub invariant-loop-row : goal.invariant-loop-row
invariant-loop-row l = Along l.rows l.room l.free l.initial.run l.initial.parcels l.run l.parcels × (l.run.row ≡ l.initial.run.row + l.row-index) × (length l.parcels ≡ length l.initial.parcels)
