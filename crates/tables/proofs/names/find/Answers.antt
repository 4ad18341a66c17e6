-- The first k entries decide, once the newer ones have another name.
use mathlib.Core.Path.{sym, ◌∙◌}
use native.Mathlib.Omega.{arith}
use Rattle.tables.proofs.Searches.{find_hit, find_more}
use Rattle.tables.proofs.names.find.Goals as goal

pub returns-then-entry_is : goal.returns-then-entry_is
returns-then-entry_is c =
    let a = c.args in
    sym (find_hit a.names.now a.labels.now a.start a.len c.loop-k.k (omega arith) (sym c.entry_is.ensures ∙ c.if-entry_is.true)) ∙ c.loop-k.invariant

pub loop-k-preserved : goal.loop-k-preserved
loop-k-preserved c =
    let a = c.args in
    sym (find_more a.names.now a.labels.now a.start a.len c.loop-k.k (omega arith) (sym c.entry_is.ensures ∙ c.if-entry_is.false)) ∙ c.loop-k.invariant
