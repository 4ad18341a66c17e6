-- After k turns the first k numbers stand there.
use mathlib.Core.Path.{◌≡◌}
use Prim.Native.Nat.{◌≤◌}
use lib.ListN.{length}
use lib.Seq.{paste}
use Rattle.rows.specs.Rows.{row_width}
use Rattle.stores.proofs.put_row.Given as goal

abbrev pub invariant-loop-k : goal.invariant-loop-k
invariant-loop-k l = (l.k ≤ row_width) × (l.rows ≡ paste l.initial.rows l.at l.row l.k) × (length l.rows ≡ length l.initial.rows)
