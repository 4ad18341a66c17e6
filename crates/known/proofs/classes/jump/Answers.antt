-- What is left of the table where the class's bits stand, line by line.
use Rattle.std.proofs.Common.{◌≡◌, sym, rules, Some, None}
use Rattle.fields.specs.Pack.{field}
use Rattle.known.specs.Table.{table, condition_at}
use Rattle.known.proofs.Narrowed.{within}
use Rattle.known.proofs.classes.jump.Goals as goal

pub returns-in_err-condition : goal.returns-in_err-condition
unfolding table
returns-in_err-condition c =
    let none : condition_at (field 37 33 c.args.w) ≡ None = search rules in
    let given : c.from_residual.result ≡ None = search rules in
    rw (within 47 42 1 c.args.w c.requires, sym c.if-is_8a.ensures, none, given)

pub returns-then-is_8a : goal.returns-then-is_8a
unfolding table
returns-then-is_8a c =
    let some : condition_at (field 37 33 c.args.w) ≡ Some c.in_ok-condition.condition = search rules in
    rw (within 47 42 1 c.args.w c.requires, sym c.if-is_8a.ensures, some, c.line.ensures, c.widen-offset.ensures, c.into-then-is_8a.ensures, c.bits-then-is_8a.ensures, c.bits-delayed.ensures)

pub returns : goal.returns
unfolding table
returns c = rw (within 47 42 1 c.args.w c.requires, sym c.if-is_8a.ensures)
