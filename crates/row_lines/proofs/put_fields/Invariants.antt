-- The numbers so far stand at the end.
use Rattle.text.proofs.Putting.{Putting}
use Rattle.row_lines.specs.RowText.{field}
use Rattle.row_lines.proofs.put_fields.Given as goal

abbrev pub invariant-loop-n : goal.invariant-loop-n
invariant-loop-n l = Putting field l.initial.text l.numbers l.n-index l.text
