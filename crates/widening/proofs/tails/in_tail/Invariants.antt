-- Loops in between are passed over until the end is met of the loop that the row stands in, or the rows or the last 11 are past.
use mathlib.Core.Path.{◌≡◌}
use mathlib.Core.Bool.{true}
use mathlib.Core.List.{List}
use Prim.Native.Nat.{ℕ, ◌≤◌}
use Rattle.places.specs.Items.{kernel_of}
use Rattle.widening.specs.Widening.{has_twin, pairs, row_of}
use Rattle.widening.specs.Walks.{AllRead}
use Rattle.widening.proofs.Tailing.{Ahead}
use Rattle.widening.proofs.tails.in_tail.Given as goal

abbrev pub invariant-loop-i : goal.invariant-loop-i
invariant-loop-i l = (l.inner ≤ l.i) × (l.i ≤ l.i-end) × ((names : List ℕ) → AllRead l.rows names → pairs (kernel_of l.rows names) ≡ true → has_twin (row_of l.rows l.row) ≡ true → Ahead (kernel_of l.rows names) l.row l.i l.inner l.seen)
