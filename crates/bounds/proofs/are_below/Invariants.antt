-- The places from k on say nothing.
use Rattle.std.proofs.Common.{◌≡◌, ◌≤◌, drop}
use Rattle.bounds.specs.Checks.{Places}
use Rattle.bounds.proofs.Tails.{tail_places}
use Rattle.bounds.proofs.are_below.Given as goal

abbrev pub invariant-loop-k : goal.invariant-loop-k
invariant-loop-k l = record { in_range : l.k ≤ 8; is : (rest : Places) → rest ≡ tail_places l.bounds (drop l.from l.row) rest l.k }
