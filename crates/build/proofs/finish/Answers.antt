-- The rows' refusal, or the waiting jumps'; a refusal wipes what the rows took.
use mathlib.Core.Path.{sym, ◌∙◌}
use Rattle.refusals.proofs.Order.{named-refused}
use Rattle.build.proofs.finish.Goals as goal

pub returns-in-Err : goal.returns-in-Err
returns-in-Err c = record { ends = λ k. rw (c.in-Err.is, ← c.named_row-row.ensures) (rw c.at.ensures at (c.refused.ensures k)) }

pub returns-in-Err-aims : goal.returns-in-Err-aims
returns-in-Err-aims c =
    let a = c.aim_all-aims.ensures in
    let n = named-refused _ a.verdict (sym a.row ∙ c.in-Err-aims.is) in
    record { ends = λ k. rw (c.in_default.is, sym a.came.outcome ∙ n.0, ← a.came.here, ← a.came.end, n.1) (c.refused-in-Err-aims.ensures k) }
