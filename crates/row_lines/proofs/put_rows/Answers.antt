use Rattle.std.proofs.Common.{arith}
use Rattle.row_lines.proofs.Writing.{width, row-long, lining_start, lining_next, lining_end, lining_place}
use Rattle.row_lines.proofs.put_rows.Goals as goal

pub loop-i-init : goal.loop-i-init
loop-i-init c = lining_start _ _ _

pub put_row-requires : goal.put_row-requires
put_row-requires c = (row-long c.args.rows.now c.loop-i.i (omega arith), omega (arith, lining_place _ _ _ _ c.loop-i.invariant))

pub loop-i-preserved : goal.loop-i-preserved
loop-i-preserved c = lining_next _ _ _ _ c.loop-i.invariant c.loop-i-test.true (rw (width c.loop-i.i) at c.put_row.ensures)

pub returns : goal.returns
returns c = lining_end _ _ _ _ c.loop-i.invariant c.loop-i-test.false
