-- The first k entries decide, once the newer ones have another name.
use mathlib.Core.Path.{◌≡◌}
use Rattle.tables.specs.Tables.{lookup}
use Rattle.tables.proofs.names.find.Given as goal

abbrev pub invariant-loop-k : goal.invariant-loop-k
invariant-loop-k l = lookup l.names l.labels l.start l.len l.k ≡ lookup l.names l.labels l.start l.len l.count
