-- What is left of the table where the class's bits stand, line by line.
use Rattle.known.proofs.Narrowed.{within}
use Rattle.known.specs.Table.{table}
use Rattle.std.proofs.Common.{sym}
use Rattle.known.proofs.classes.moved.Goals as goal

pub returns-then-is_5a : goal.returns-then-is_5a
unfolding table
returns-then-is_5a c = rw (within 47 45 3 c.args.w c.requires, sym c.if-is_5a.ensures) cc

pub returns-then-is_5b : goal.returns-then-is_5b
unfolding table
returns-then-is_5b c = rw (within 47 45 3 c.args.w c.requires, sym c.if-is_5a.ensures, sym c.if-is_5b.ensures) cc

pub returns : goal.returns
unfolding table
returns c = rw (within 47 45 3 c.args.w c.requires, sym c.if-is_5a.ensures, sym c.if-is_5b.ensures)
