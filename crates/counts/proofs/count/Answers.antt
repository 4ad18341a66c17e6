-- The count after i rows is `Tallying`'s.
use Rattle.std.proofs.Common.{sym}
use Rattle.std.proofs.lemmas.Result.{err_from_is_err_and}
use Rattle.counts.proofs.Tally.{tally_next, tally_stop, tally_end}
use Rattle.counts.proofs.count.Goals as goal

pub returns-in_err-count : goal.returns-in_err-count
returns-in_err-count c =
    let counted = rw c.coded_at-item.ensures at c.in_err-count.ensures in
    let e = tally_stop c.loop-i.invariant c.loop-i-test.true (sym counted) in
    let p = err_from_is_err_and c.from_residual.result c.from_residual.ensures.1 in
    rw (p.1, p.2, ← c.well_formed-2.ensures, c.if-not-well_formed.false, e.0, e.1)

pub loop-i-preserved : goal.loop-i-preserved
loop-i-preserved c =
    let counted = rw c.coded_at-item.ensures at c.in_ok-count.ensures in
    tally_next c.loop-i.invariant c.loop-i-test.true (sym counted)

pub returns : goal.returns
returns c =
    let e = tally_end c.loop-i.invariant c.loop-i-test.false in
    rw (← c.well_formed-2.ensures, c.if-not-well_formed.false, e.0, e.1)
