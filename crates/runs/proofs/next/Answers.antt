-- The glance is right about the row, and its form is put.
use Rattle.std.proofs.Common.{sym, arith}
use Rattle.runs.proofs.Turning.{taken_by}
use Rattle.runs.proofs.next.Goals as goal

pub returns : goal.returns
returns c = λ rows r left. taken_by rows _ _ _ _ left (omega arith) c.in_ok-glance.glance r c.in_ok-glance.ensures (sym c.in_ok-form.ensures) c.take.ensures.0 c.take.ensures.1
