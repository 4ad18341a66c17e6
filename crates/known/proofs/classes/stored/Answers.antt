-- What is left of the table where the class's bits stand, line by line.
use Rattle.known.proofs.Narrowed.{within}
use Rattle.known.specs.Table.{table}
use Rattle.std.proofs.Common.{sym}
use Rattle.known.proofs.classes.stored.Goals as goal

pub returns-then-is_16a : goal.returns-then-is_16a
unfolding table
returns-then-is_16a c = rw (within 47 45 4 c.args.w c.requires, sym c.if-is_16a.ensures, c.line.ensures, c.bits-index.ensures, c.bits-modifier.ensures, c.bits-g.ensures, c.bits-data.ensures)

pub returns-then-is_15b : goal.returns-then-is_15b
unfolding table
returns-then-is_15b c = rw (within 47 45 4 c.args.w c.requires, sym c.if-is_16a.ensures, sym c.if-is_15b.ensures, c.then_some.ensures, c.code_fine.ensures, c.line-then-is_15b.ensures, c.widen-offset.ensures, c.into.ensures, c.bits.ensures, c.bits-store.ensures, c.bits-code.ensures, c.bits-index.ensures)

pub returns-then-is_3c : goal.returns-then-is_3c
unfolding table
returns-then-is_3c c = rw (within 47 45 4 c.args.w c.requires, sym c.if-is_16a.ensures, sym c.if-is_15b.ensures, sym c.if-is_3c.ensures, c.line-then-is_3c.ensures, c.bits-store-then-is_3c.ensures, c.bits-code-then-is_3c.ensures, c.bits-index.ensures, c.bits-modifier.ensures)

pub returns : goal.returns
unfolding table
returns c = rw (within 47 45 4 c.args.w c.requires, sym c.if-is_16a.ensures, sym c.if-is_15b.ensures, sym c.if-is_3c.ensures)
