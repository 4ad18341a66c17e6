-- The depth is the nesting, and each end so far closes a loop.
use native.Mathlib.Omega.{arith}
use Prim.Native.Nat.{◌*◌}
use lib.ListN.{get_or}
use Rattle.places.specs.Items.{kernel_of}
use Rattle.widening.proofs.Marks.{row-marked, mark-small}
use Rattle.widening.proofs.Pairing.{pairing_stop, pairing_on, pairing_end}
use Rattle.widening.proofs.tails.loops_pair.Goals as goal

pub returns-then-depth-item : goal.returns-then-depth-item
returns-then-depth-item c = λ names read. let rows = c.args.rows.now in let i = c.loop-i.i in pairing_stop (kernel_of rows names) (c.loop-i.invariant.2 names read) (row-marked rows names i (read i c.loop-i-test.true)) c.loop-i-test.true (rw c.mark_at-item.ensures at c.if-depth-item.true)

pub overflow_add-depth : goal.overflow_add-depth
overflow_add-depth c = rw c.mark_at-item.ensures (omega (arith, (mark-small (get_or c.args.rows.now (c.loop-i.i * 17) 0)).opens, c.loop-i.invariant.0))

pub loop-i-preserved : goal.loop-i-preserved
loop-i-preserved c =
    let rows = c.args.rows.now in
    let i = c.loop-i.i in
    rw c.mark_at-item.ensures (
      omega (arith, (mark-small (get_or rows (i * 17) 0)).opens, c.loop-i.invariant.0),
      omega arith,
      λ names read. pairing_on (kernel_of rows names) (c.loop-i.invariant.2 names read) (row-marked rows names i (read i c.loop-i-test.true)) (rw c.mark_at-item.ensures at c.if-depth-item.false),
    )

pub returns : goal.returns
returns c = λ names read. pairing_end (kernel_of c.args.rows.now names) (c.loop-i.invariant.2 names read) c.loop-i-test.false c.loop-i.invariant.1
