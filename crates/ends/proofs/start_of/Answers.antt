-- As many loops have ended on the way back as the nesting is deeper there.
use Prim.Native.Nat.{◌-◌}
use Rattle.prefixes.proofs.Traits.{one_way}
use Rattle.ends.proofs.Starting.{back_start, back_found, back_on, back_none}
use Rattle.places.specs.Items.{row_at}
use native.Mathlib.Omega.{arith}
use Rattle.ends.proofs.start_of.Goals as goal

pub loop-i-init : goal.loop-i-init
loop-i-init c = back_start _ _

pub mark-item-requires : goal.mark-item-requires
mark-item-requires c = omega (arith, c.loop-i.invariant.looked.within)

pub overflow_add-ended : goal.overflow_add-ended
overflow_add-ended c = rw c.mark-item.ensures (let w = one_way ((row_at c.args.rows.now c.args.names.now) (c.loop-i.i - 1)) in omega (arith, c.loop-i.invariant.few))

pub returns-then-ended-item : goal.returns-then-ended-item
returns-then-ended-item c = back_found _ _ c.requires.1 c.loop-i-test.true c.loop-i.invariant (rw c.mark-item.ensures at c.if-ended-item.true)

pub loop-i-preserved : goal.loop-i-preserved
loop-i-preserved c = rw c.mark-item.ensures (back_on _ _ c.requires.1 c.loop-i-test.true c.loop-i.invariant (rw c.mark-item.ensures at c.if-ended-item.false))

pub returns : goal.returns
returns c = back_none _ _ c.loop-i.invariant c.loop-i-test.false
