-- What is left of the table where the class's bits stand, line by line.
use Rattle.known.proofs.Narrowed.{within}
use Rattle.known.specs.Table.{table}
use Rattle.std.proofs.Common.{sym}
use Rattle.known.proofs.classes.call.Goals as goal

pub returns-then-is_25a : goal.returns-then-is_25a
unfolding table
returns-then-is_25a c = rw (within 47 42 6 c.args.w c.requires, sym c.if-is_25a.ensures, c.line.ensures, c.bits.ensures)

pub returns : goal.returns
unfolding table
returns c = rw (within 47 42 6 c.args.w c.requires, sym c.if-is_25a.ensures)
