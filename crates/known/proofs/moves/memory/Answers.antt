-- What is left of the table where the class's bits stand, line by line.
use Rattle.std.proofs.Common.{◌≡◌, sym, rules, Some, None}
use Rattle.fields.specs.Pack.{field}
use Rattle.known.specs.Table.{table, beside_at}
use Rattle.known.proofs.Narrowed.{within}
use Rattle.known.proofs.moves.memory.Goals as goal

pub returns-then-is_3b : goal.returns-then-is_3b
unfolding table
returns-then-is_3b c = rw (within 47 45 2 c.args.w c.requires, sym c.if-is_3b.ensures, c.then_some.ensures, c.line.ensures, c.code_fine.ensures, c.bits-d.ensures, c.bits-code.ensures, c.bits-index.ensures, c.bits-modifier.ensures)

pub returns-in_err-k : goal.returns-in_err-k
unfolding table
returns-in_err-k c =
    let none : beside_at (field 22 0 c.args.w) ≡ None = search rules in
    let given : c.from_residual.result ≡ None = search rules in
    rw (within 47 45 2 c.args.w c.requires, sym c.if-is_3b.ensures, sym c.if-is_3a.ensures, none, given)

pub returns-then-is_3a : goal.returns-then-is_3a
unfolding table
returns-then-is_3a c =
    let some : beside_at (field 22 0 c.args.w) ≡ Some c.in_ok-k.k = search rules in
    rw (within 47 45 2 c.args.w c.requires, sym c.if-is_3b.ensures, sym c.if-is_3a.ensures, some, c.then_some-then-is_3a.ensures, c.memory_fine.ensures, c.row.ensures, c.bits-d.ensures, c.bits-code.ensures, c.bits-index.ensures, c.bits-modifier.ensures, c.bits-u.ensures, c.bits-g.ensures)

pub returns : goal.returns
unfolding table
returns c = rw (within 47 45 2 c.args.w c.requires, sym c.if-is_3b.ensures, sym c.if-is_3a.ensures)
