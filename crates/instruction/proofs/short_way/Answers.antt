-- Of one row the run takes one at most.
use Rattle.std.proofs.Common.{sym, ◌∙◌}
use Rattle.instruction.proofs.Short.{shown}
use Rattle.instruction.proofs.short_way.Goals as goal

pub returns : goal.returns
returns c = shown _ c.if-row-ne-ROW_WIDTH.false (sym c.is_mark.ensures ∙ c.if-is_mark.false) _ c.skim-count.ensures c.if-count-eq0.false
