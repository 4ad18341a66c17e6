-- Before row i the rows before it are passed, and the tables hold their entries.
use Rattle.std.proofs.Common.{sym, ◌∙◌, rules}
use Rattle.plain.proofs.Walking.{along_next, along_stop, along_end, check-fine, pass-fine, enter_fine}
use Rattle.plain.proofs.first.place.Goals as goal

pub check-requires : goal.check-requires
check-requires c = check-fine _ _ _ _ c.requires.rooming c.requires.few _ c.loop-i.invariant.0 c.loop-i-test.true c.coded_at-item.ensures

pub returns-in-Err : goal.returns-in-Err
returns-in-Err c =
    rw c.at.ensures
    (along_stop _ _ _ c.requires.rooming _ c.loop-i.invariant.0 c.loop-i-test.true c.coded_at-item.ensures (sym c.check.ensures ∙ c.in-Err.is))

pub enter-requires : goal.enter-requires
enter-requires c =
    enter_fine _ _ _ c.requires.rooming _ c.loop-i.invariant.0 c.loop-i-test.true c.coded_at-item.ensures (sym c.check.ensures ∙ c.in_default.is)

pub and-before-requires : goal.and-before-requires
and-before-requires c =
    rw c.about.ensures
    (pass-fine _ _ _ c.requires.rooming _ c.loop-i.invariant.0 c.loop-i-test.true c.coded_at-item.ensures (sym c.check.ensures ∙ c.in_default.is))

pub loop-i-preserved : goal.loop-i-preserved
loop-i-preserved c = (
  along_next _ _ _ c.requires.rooming _ c.loop-i.invariant.0 c.loop-i-test.true c.coded_at-item.ensures (sym c.check.ensures ∙ c.in_default.is) _ c.enter.ensures (rw c.about.ensures at c.and-before.ensures),
  search rules,
  search rules,
)

pub returns : goal.returns
returns c = rw c.past_rows.ensures (along_end _ _ _ c.requires.rooming _ c.loop-i.invariant.0 c.loop-i-test.false)
