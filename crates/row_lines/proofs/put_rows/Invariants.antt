-- The lines so far stand at the end.
use Rattle.row_lines.proofs.Writing.{Lining}
use Rattle.row_lines.proofs.put_rows.Given as goal

abbrev pub invariant-loop-i : goal.invariant-loop-i
invariant-loop-i l = Lining l.initial.text l.places l.rows l.i l.text
