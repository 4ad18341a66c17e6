-- What is left of the table where the class's bits stand, line by line.
use Rattle.known.proofs.Narrowed.{within}
use Rattle.known.specs.Table.{table}
use Rattle.std.proofs.Common.{sym}
use Rattle.known.proofs.classes.modified.Goals as goal

pub returns-then-is_19a : goal.returns-then-is_19a
unfolding table
returns-then-is_19a c = rw (within 47 42 5 c.args.w c.requires, sym c.if-is_19a.ensures, c.line.ensures, c.bits.ensures, c.bits-then-is_19a.ensures, c.bits-data.ensures)

pub returns-then-is_18a : goal.returns-then-is_18a
unfolding table
returns-then-is_18a c = rw (within 47 42 5 c.args.w c.requires, sym c.if-is_19a.ensures, sym c.if-is_18a.ensures, c.line-then-is_18a.ensures, c.bits-data.ensures)

pub returns-then-is_18a-2 : goal.returns-then-is_18a-2
unfolding table
returns-then-is_18a-2 c = rw (within 47 42 5 c.args.w c.requires, sym c.if-is_19a.ensures, sym c.if-is_18a.ensures, sym c.if-is_18a-2.ensures, c.line-then-is_18a-2.ensures, c.bits-data.ensures)

pub returns : goal.returns
unfolding table
returns c = rw (within 47 42 5 c.args.w c.requires, sym c.if-is_19a.ensures, sym c.if-is_18a.ensures, sym c.if-is_18a-2.ensures)
