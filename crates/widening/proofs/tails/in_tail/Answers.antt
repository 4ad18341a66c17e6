-- Loops in between are passed over until the end is met of the loop that the row stands in, or the rows or the last 11 are past.
use native.Mathlib.Omega.{arith}
use Prim.Native.Nat.{◌*◌}
use lib.ListN.{get_or}
use Rattle.places.specs.Items.{kernel_of}
use Rattle.widening.proofs.Marks.{row-marked, mark-small, twin-marked}
use Rattle.widening.proofs.Tailing.{ahead-start, ahead-found, ahead-on, ahead-end, ahead-far}
use Rattle.widening.proofs.tails.in_tail.Goals as goal

pub loop-i-init : goal.loop-i-init
loop-i-init c =
    let rows = c.args.rows.now in
    let row = c.args.row in
    (omega arith, omega (arith, c.requires), λ names read paired twin. ahead-start (kernel_of rows names) row (twin-marked rows names row (read row c.requires) twin))

pub returns-then-inner-item : goal.returns-then-inner-item
returns-then-inner-item c =
    let rows = c.args.rows.now in
    let row = c.args.row in
    let i = c.loop-i.i in
    let more = c.loop-i-test.true in
    λ names read paired twin.
    ahead-found (kernel_of rows names) row (twin-marked rows names row (read row c.requires) twin) paired (c.loop-i.invariant.2 names read paired twin) (row-marked rows names i (read i more)) more c.if-seen-gt-LOOP_TAIL.false (rw c.mark_at-item.ensures at c.if-inner-item.true)

pub overflow_add-inner : goal.overflow_add-inner
overflow_add-inner c = rw c.mark_at-item.ensures (omega (arith, (mark-small (get_or c.args.rows.now (c.loop-i.i * 17) 0)).opens, c.loop-i.invariant.0))

pub overflow_add-seen : goal.overflow_add-seen
overflow_add-seen c = rw c.mark_at-item.ensures (omega (arith, (mark-small (get_or c.args.rows.now (c.loop-i.i * 17) 0)).entry))

pub loop-i-preserved : goal.loop-i-preserved
loop-i-preserved c =
    let rows = c.args.rows.now in
    let row = c.args.row in
    let i = c.loop-i.i in
    let more = c.loop-i-test.true in
    rw c.mark_at-item.ensures (
      omega (arith, (mark-small (get_or rows (i * 17) 0)).opens, c.loop-i.invariant.0),
      omega arith,
      λ names read paired twin.
          ahead-on (kernel_of rows names) row (twin-marked rows names row (read row c.requires) twin) paired (c.loop-i.invariant.2 names read paired twin) (row-marked rows names i (read i more)) more (rw c.mark_at-item.ensures at c.if-inner-item.false),
    )

pub returns-then-seen-gt-LOOP_TAIL : goal.returns-then-seen-gt-LOOP_TAIL
returns-then-seen-gt-LOOP_TAIL c =
    let rows = c.args.rows.now in
    let row = c.args.row in
    λ names read paired twin.
    ahead-far (kernel_of rows names) row (twin-marked rows names row (read row c.requires) twin) paired (c.loop-i.invariant.2 names read paired twin) c.if-seen-gt-LOOP_TAIL.true

pub returns-after-loop-i : goal.returns-after-loop-i
returns-after-loop-i c =
    let rows = c.args.rows.now in
    let row = c.args.row in
    λ names read paired twin.
    ahead-end (kernel_of rows names) row (twin-marked rows names row (read row c.requires) twin) paired (c.loop-i.invariant.2 names read paired twin) c.loop-i-test.false c.loop-i.invariant.1
