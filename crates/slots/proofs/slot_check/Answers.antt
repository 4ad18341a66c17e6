-- What is kept in mind after i rows is `Watching`'s.
use mathlib.Core.Path.{sym, ap, ◌∙◌}
use Rattle.refusals.specs.Numbers.{answered}
use Rattle.coded.specs.Coded.{read_verdict}
use Rattle.slots.proofs.Watching.{watching_label, watching_next, watching_stop, watching_end}
use Rattle.slots.proofs.slot_check.Goals as goal
use Rattle.slots.proofs.slot_check.Goals.{then-not-is_label, else-not-is_label}

pub returns-in-Err : goal.returns-in-Err
returns-in-Err c =
    let e = watching_stop _ _ c.loop-i.invariant c.loop-i-test.true (rw c.coded_at-item.ensures at c.in-Err.is) in
    rw (c.at-in-Err.ensures, ← c.well_formed-2.ensures, c.if-not-well_formed.false, e.0, e.1)

pub loop-i-preserved : goal.loop-i-preserved
loop-i-preserved c =
    let item = c.coded_at-item.ensures in
    let inv = c.loop-i.invariant in
    let l = c.loop-i-test.true in
    elim c.if-not-is_label.branch [
      | then-not-is_label w ↦
          rw (w.watch-is, w.after-watch.ensures, item)
          (watching_next _ _ inv l (ap read_verdict (sym item ∙ c.in_default.is), rw item at (sym c.is_label.ensures ∙ w.if-not-is_label.true)))
      | else-not-is_label w ↦ rw w.watch-is (watching_label _ _ inv l (rw item at (sym c.is_label.ensures ∙ w.if-not-is_label.false)))
    ]

pub returns : goal.returns
returns c =
    let e = watching_end _ _ c.loop-i.invariant c.loop-i-test.false in
    rw (← c.well_formed-2.ensures, c.if-not-well_formed.false, e.0) (ap answered (c.ending.ensures ∙ e.1))
