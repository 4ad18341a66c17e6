-- The loop holds what the places from k on say.
use Rattle.std.proofs.Common.{◌≡◌, ◌≤◌, drop}
use Rattle.bounds.proofs.Tails.{tail_places}
use Rattle.bounds.proofs.eight.Given as goal

abbrev pub invariant-loop-k : goal.invariant-loop-k
invariant-loop-k l = record { in_range : l.k ≤ 8; is : l.found ≡ tail_places l.bounds (drop l.from l.row) l.fn.rest l.k }
