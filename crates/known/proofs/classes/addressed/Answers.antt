-- What is left of the table where the class's bits stand, line by line.
use Rattle.known.proofs.Narrowed.{within}
use Rattle.known.specs.Table.{table}
use Rattle.std.proofs.Common.{sym}
use Rattle.known.proofs.classes.addressed.Goals as goal

pub returns-then-is_17a : goal.returns-then-is_17a
unfolding table
returns-then-is_17a c = rw (within 47 42 4 c.args.w c.requires, sym c.if-is_17a.ensures, c.then_some.ensures, c.line.ensures, c.bits-code.ensures, c.bits-data.ensures)

pub returns-then-is_17a-2 : goal.returns-then-is_17a-2
unfolding table
returns-then-is_17a-2 c = rw (within 47 42 4 c.args.w c.requires, sym c.if-is_17a.ensures, sym c.if-is_17a-2.ensures, c.then_some-then-is_17a-2.ensures, c.line-then-is_17a-2.ensures, c.bits-code.ensures, c.bits-data.ensures)

pub returns : goal.returns
unfolding table
returns c = rw (within 47 42 4 c.args.w c.requires, sym c.if-is_17a.ensures, sym c.if-is_17a-2.ensures)
