-- After each turn what was read stands at the front of the lent slices.
use native.Mathlib.Omega.{arith}
use Rattle.reading.proofs.Walked.{walked_start, walked_end, walked-strange, walked-on, walked-within, walked-full, walked_next}
use Rattle.reading.proofs.read_rows.Goals as goal

pub loop-at-init : goal.loop-at-init
loop-at-init c = walked_start (λ i. (c.type_inv.parcels i).fits)

pub returns-in_default : goal.returns-in_default
returns-in_default c = walked-strange c.loop-at.invariant c.loop-at-test.true (rw c.in_default.is at c.known_at.ensures)

pub returns-then-done-room : goal.returns-then-done-room
returns-then-done-room c = walked-full c.loop-at.invariant c.loop-at-test.true (rw c.in-Some.is at c.known_at.ensures) c.room_of-room.ensures c.if-done-room.true

pub overflow_add-at : goal.overflow_add-at
overflow_add-at c = omega (arith, walked-within c.loop-at.invariant c.loop-at-test.true (rw c.in-Some.is at c.known_at.ensures))

pub loop-at-smaller : goal.loop-at-smaller
loop-at-smaller c =
    let found = rw c.in-Some.is at c.known_at.ensures in
    omega (arith, walked-on c.loop-at.invariant c.loop-at-test.true found, walked-within c.loop-at.invariant c.loop-at-test.true found)

pub loop-at-preserved : goal.loop-at-preserved
loop-at-preserved c =
    walked_next c.loop-at.invariant c.loop-at-test.true (rw c.in-Some.is at c.known_at.ensures) c.room_of-room.ensures c.if-done-room.false c.put_row.ensures

pub returns : goal.returns
returns c = walked_end c.loop-at.invariant c.loop-at-test.false
