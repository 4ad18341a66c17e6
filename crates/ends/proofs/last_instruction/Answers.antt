-- The rows that were passed are no instructions.
use Rattle.ends.proofs.Starting.{after-start, after-found, after_on, after_none}
use native.Mathlib.Omega.{arith}
use Rattle.ends.proofs.last_instruction.Goals as goal

pub loop-i-init : goal.loop-i-init
loop-i-init c = after-start _ _

pub mark-item-requires : goal.mark-item-requires
mark-item-requires c = omega (arith, c.loop-i.invariant.looked.within)

pub returns-then-item-eq1 : goal.returns-then-item-eq1
returns-then-item-eq1 c = after-found _ _ c.loop-i-test.true c.loop-i.invariant (rw c.mark-item.ensures at c.if-item-eq1.true)

pub loop-i-preserved : goal.loop-i-preserved
loop-i-preserved c = after_on _ _ c.loop-i-test.true c.loop-i.invariant (rw c.mark-item.ensures at c.if-item-eq1.false)

pub returns : goal.returns
returns c = after_none _ _ c.loop-i.invariant c.loop-i-test.false
