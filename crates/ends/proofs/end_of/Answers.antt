-- The loop stays open until its own end is met.
use Rattle.prefixes.proofs.Traits.{one_way}
use Rattle.ends.proofs.Ending.{inside_not, inside-start, inside-fits, inside_found, inside_on}
use Rattle.places.specs.Items.{row_at}
use native.Mathlib.Omega.{arith}
use Rattle.ends.proofs.end_of.Goals as goal

pub loop-i-init : goal.loop-i-init
loop-i-init c = (inside-start _ _ c.requires.opens, omega (arith, c.requires.before))

pub mark-item-requires : goal.mark-item-requires
mark-item-requires c = omega (arith, c.requires.few)

pub overflow_add-depth : goal.overflow_add-depth
overflow_add-depth c = rw c.mark-item.ensures (let w = one_way ((row_at c.args.rows.now c.args.names.now) c.loop-i.i) in omega (arith, c.loop-i.invariant.0.few, c.requires.few))

pub overflow_sub-depth : goal.overflow_sub-depth
overflow_sub-depth c = rw c.mark-item.ensures (inside-fits _ _ c.loop-i.invariant.0)

pub returns-then-depth-eq0 : goal.returns-then-depth-eq0
returns-then-depth-eq0 c = (inside_found _ _ c.loop-i.invariant.0 _ c.requires.closed c.loop-i-test.true (rw c.mark-item.ensures at c.if-depth-eq0.true), c.loop-i-test.true, c.loop-i.invariant.0.open_at.before)

pub loop-i-preserved : goal.loop-i-preserved
loop-i-preserved c = rw c.mark-item.ensures (inside_on _ _ c.loop-i.invariant.0 (rw c.mark-item.ensures at c.if-depth-eq0.false), omega arith)

pub returns : goal.returns
returns c = absurd (inside_not _ _ c.loop-i.invariant.0 _ c.loop-i.invariant.1 c.loop-i-test.false c.requires.none_open)
