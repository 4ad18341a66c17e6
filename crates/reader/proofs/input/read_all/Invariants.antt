-- A reader that has read something at each turn.
use mathlib.Core.List.{List}
use Prim.Native.Nat.{ℕ}
use Rattle.reader.proofs.input.read_all.Given as goal

abbrev pub invariant-loop : goal.invariant-loop
invariant-loop g l = (past : List ℕ) × g.R.Feed.has past l.reader
