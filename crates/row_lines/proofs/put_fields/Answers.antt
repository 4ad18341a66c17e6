use Rattle.std.proofs.Common.{arith}
use Rattle.text.proofs.Putting.{putting_start, putting_next, putting_end}
use Rattle.row_lines.proofs.Writing.{fields-place}
use Rattle.row_lines.proofs.put_fields.Goals as goal

pub loop-n-init : goal.loop-n-init
loop-n-init c = putting_start _ _ _

pub put_head-requires : goal.put_head-requires
put_head-requires c = omega (arith, fields-place c.loop-n.invariant)

pub loop-n-preserved : goal.loop-n-preserved
loop-n-preserved c = putting_next _ _ _ _ c.loop-n.invariant c.loop-n-test.true (rw c.from.ensures at c.put_head.ensures)

pub returns : goal.returns
returns c = putting_end _ _ _ _ c.loop-n.invariant c.loop-n-test.false
