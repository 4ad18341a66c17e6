-- The lines so far stand at the front.
use Rattle.std.proofs.Common.{take, ◌*◌}
use Rattle.item_lines.proofs.Lining.{Lining}
use Rattle.widen.specs.Printed.{change_line}
use Rattle.widen.proofs.texts.changes.Given as goal

abbrev pub invariant-loop-pair : goal.invariant-loop-pair
invariant-loop-pair l = Lining 2 change_line l.initial.text (take (2 * l.n) l.list) l.pair-iterator l.text
