-- The first k bytes decide, once those after them are the same.
use mathlib.Core.Path.{sym, ◌∙◌}
use Rattle.tables.proofs.Searches.{same_more, same-less}
use Rattle.tables.proofs.names.same.Goals as goal

pub returns-then-names-a : goal.returns-then-names-a
returns-then-names-a c = sym (same-less _ _ _ _ c.loop-k-test.true c.if-names-a.true) ∙ c.loop-k.invariant

pub loop-k-preserved : goal.loop-k-preserved
loop-k-preserved c = sym (same_more _ _ _ _ c.loop-k-test.true c.if-names-a.false) ∙ c.loop-k.invariant
