-- The rows that were passed are wide; past the body or the last 11 none counts.
use Prim.Native.Nat.{◌≤◌, ◌<◌, ◌-◌, ℕ}
use Rattle.places.specs.Items.{size, row_at}
use Rattle.prefixes.proofs.Totals.{total-up}
use Rattle.prefixes.proofs.Traits.{entry-bit}
use Rattle.refusals.specs.declared.Refusal.TheVariants.{LoopTailNotFullWidth}
use Rattle.std.specs.Prelude.{Err}
use mathlib.Core.Path.{ap, ◌∙◌}
use Rattle.ends.proofs.Tails.{behind_place, behind_start, behind_size, behind_found, behind_on, behind_body, behind_tail}
use native.Mathlib.Omega.{arith}
use Rattle.ends.proofs.tail_check.Goals as goal

pub loop-i-init : goal.loop-i-init
loop-i-init c = behind_start _ _ c.requires.3

pub mark-item-requires : goal.mark-item-requires
mark-item-requires c = omega (arith, c.loop-i.invariant.looked.within)

pub overflow_sub-place : goal.overflow_sub-place
overflow_sub-place c = rw c.mark-item.ensures (behind_size _ _ c.args.start c.requires.1 c.loop-i.invariant (omega arith))

pub overflow_cast-result : goal.overflow_cast-result
overflow_cast-result c = rw c.mark-item.ensures (let u = total-up size (row_at c.args.rows.now c.args.names.now) c.loop-i.i c.args.end c.loop-i.invariant.looked.within in omega (arith, c.loop-i.invariant.here))

pub returns-then-item-eq1 : goal.returns-then-item-eq1
returns-then-item-eq1 c = rw c.mark-item.ensures (ap (λ (y : ℕ). Err (LoopTailNotFullWidth y)) (behind_place _ _ c.args.start c.requires.1 c.loop-i.invariant (omega arith)) ∙ behind_found _ _ c.args.start c.requires.1 c.loop-i.invariant c.loop-i-test.true (c.if-seen-ge-LOOP_TAIL.false) (rw c.mark-item.ensures at c.if-item-eq1.true) _)

pub overflow_add-seen : goal.overflow_add-seen
overflow_add-seen c = let w : c.mark-item.result.entry ≤ 1 = rw c.mark-item.ensures (entry-bit ((row_at c.args.rows.now c.args.names.now) (c.loop-i.i - 1))) in let h : c.loop-i.seen < 11 = c.if-seen-ge-LOOP_TAIL.false in omega arith

pub loop-i-preserved : goal.loop-i-preserved
loop-i-preserved c = rw c.mark-item.ensures (behind_on _ _ c.args.start c.requires.1 c.loop-i.invariant (omega arith) (rw c.mark-item.ensures at c.if-item-eq1.false))

pub returns-then-seen-ge-LOOP_TAIL : goal.returns-then-seen-ge-LOOP_TAIL
returns-then-seen-ge-LOOP_TAIL c = behind_tail _ _ c.args.start c.requires.1 c.loop-i.invariant (c.if-seen-ge-LOOP_TAIL.true) _

pub returns-after-loop-i : goal.returns-after-loop-i
returns-after-loop-i c = behind_body _ _ c.args.start c.requires.1 c.loop-i.invariant c.loop-i-test.false _
