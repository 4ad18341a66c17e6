-- What is left of the table where the class's bits stand, line by line.
use Rattle.known.proofs.Narrowed.{within}
use Rattle.known.specs.Table.{table}
use Rattle.std.proofs.Common.{sym}
use Rattle.known.proofs.classes.loaded.Goals as goal

pub returns-then-is_17a : goal.returns-then-is_17a
unfolding table
returns-then-is_17a c = rw (within 47 42 3 c.args.w c.requires, sym c.if-is_17a.ensures, c.then_some.ensures, c.line.ensures, c.bits-code.ensures, c.bits-data.ensures)

pub returns-then-is_count_12a : goal.returns-then-is_count_12a
unfolding table
returns-then-is_count_12a c = rw (within 47 42 3 c.args.w c.requires, sym c.if-is_17a.ensures, sym c.if-is_count_12a.ensures, c.then_some-then-is_count_12a.ensures, c.line-then-is_count_12a.ensures, c.loop_fine.ensures, c.bits-count.ensures, c.bits-f1.ensures, c.bits-offset.ensures)

pub returns-then-is_register_12a : goal.returns-then-is_register_12a
unfolding table
returns-then-is_register_12a c = rw (within 47 42 3 c.args.w c.requires, sym c.if-is_17a.ensures, sym c.if-is_count_12a.ensures, sym c.if-is_register_12a.ensures, c.then_some-then-is_register_12a.ensures, c.line-then-is_register_12a.ensures, c.loop_fine-then-is_register_12a.ensures, c.bits-code.ensures, c.bits-f1.ensures, c.bits-offset.ensures)

pub returns : goal.returns
unfolding table
returns c = rw (within 47 42 3 c.args.w c.requires, sym c.if-is_17a.ensures, sym c.if-is_count_12a.ensures, sym c.if-is_register_12a.ensures)
