-- No instruction was passed, so an end that is met ends on the same one.
use Rattle.ends.proofs.Tails.{bare-start, bare-found, bare-stop, bare-on, bare-none}
use native.Mathlib.Omega.{arith}
use Rattle.ends.proofs.shares_end.Goals as goal

pub loop-i-init : goal.loop-i-init
loop-i-init c = bare-start _ _

pub mark-item-requires : goal.mark-item-requires
mark-item-requires c = omega (arith, c.loop-i.invariant.looked.within)

pub returns-then-item-eq1 : goal.returns-then-item-eq1
returns-then-item-eq1 c = bare-found _ _ c.loop-i-test.true c.loop-i.invariant (rw c.mark-item.ensures at c.if-item-eq1.true)

pub returns-then-item-eq1-2 : goal.returns-then-item-eq1-2
returns-then-item-eq1-2 c = bare-stop _ _ c.loop-i-test.true c.loop-i.invariant (rw c.mark-item.ensures at c.if-item-eq1-2.true) (rw c.mark-item.ensures at c.if-item-eq1.false)

pub loop-i-preserved : goal.loop-i-preserved
loop-i-preserved c = bare-on _ _ c.loop-i-test.true c.loop-i.invariant (rw c.mark-item.ensures at c.if-item-eq1-2.false) (rw c.mark-item.ensures at c.if-item-eq1.false)

pub returns : goal.returns
returns c = bare-none _ _ c.loop-i.invariant c.loop-i-test.false
