-- What is left of the table where the class's bits stand, line by line.
use Rattle.known.proofs.Narrowed.{within}
use Rattle.known.specs.Table.{table}
use Rattle.std.proofs.Common.{sym}
use Rattle.known.proofs.classes.offset.Goals as goal

pub returns-then-is_15a : goal.returns-then-is_15a
unfolding table
returns-then-is_15a c = rw (within 47 45 5 c.args.w c.requires, sym c.if-is_15a.ensures, c.then_some.ensures, c.line.ensures, c.code_fine.ensures, c.bits-index.ensures, c.bits-store.ensures, c.bits-code.ensures, c.bits-data.ensures)

pub returns : goal.returns
unfolding table
returns c = rw (within 47 45 5 c.args.w c.requires, sym c.if-is_15a.ensures)
