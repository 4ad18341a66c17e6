-- The lines so far stand at the front.
use Rattle.std.proofs.Common.{take, ◌*◌}
use Rattle.item_lines.specs.ItemText.{item_line}
use Rattle.item_lines.proofs.Lining.{Lining}
use Rattle.item_lines.proofs.items.Given as goal

abbrev pub invariant-loop-row : goal.invariant-loop-row
invariant-loop-row l = Lining 17 (item_line l.names) l.initial.text (take (17 * l.n) l.rows) l.row-iterator l.text
