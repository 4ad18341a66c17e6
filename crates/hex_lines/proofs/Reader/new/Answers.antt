-- Nothing is read: the state at the start of a line, over zeros.
use Rattle.hex_lines.proofs.Reader.new.Goals as goal

pub returns : goal.returns
returns c = record { here = rw c.line_start.ensures }
