-- The depth is the nesting, and each end so far closes a loop.
use Prim.Native.Nat.{◌≤◌}
use mathlib.Core.List.{List}
use Prim.Native.Nat.{ℕ}
use Rattle.places.specs.Items.{row_at}
use Rattle.widening.specs.Walks.{AllRead}
use Rattle.widening.proofs.Pairing.{Pairing}
use Rattle.widening.proofs.tails.loops_pair.Given as goal

abbrev pub invariant-loop-i : goal.invariant-loop-i
invariant-loop-i l = (l.depth ≤ l.i) × (l.i ≤ l.i-end) × ((names : List ℕ) → AllRead l.rows names → Pairing (row_at l.rows names) l.i l.depth)
