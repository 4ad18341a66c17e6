-- The first k bytes decide, once those after them are the same.
use mathlib.Core.Path.{◌≡◌}
use Rattle.places.specs.Looking.{same_from}
use Rattle.tables.proofs.names.same.Given as goal

abbrev pub invariant-loop-k : goal.invariant-loop-k
invariant-loop-k l = same_from l.names l.k l.a l.b ≡ same_from l.names l.len l.a l.b
