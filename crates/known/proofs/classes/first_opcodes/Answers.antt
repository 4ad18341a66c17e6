-- What is left of the table where the class's bits stand, line by line.
use Rattle.known.proofs.Narrowed.{within}
use Rattle.known.specs.Table.{table, compute_at}
use Rattle.std.proofs.Common.{◌≡◌, sym, rules, Some, None}
use Rattle.fields.specs.Pack.{field}
use Rattle.known.proofs.classes.first_opcodes.Goals as goal

pub returns-then-is_21a : goal.returns-then-is_21a
unfolding table
returns-then-is_21a c = rw (within 47 42 0 c.args.w c.requires, sym c.if-is_21a.ensures) cc

pub returns-then-is_21c : goal.returns-then-is_21c
unfolding table
returns-then-is_21c c = rw (within 47 42 0 c.args.w c.requires, sym c.if-is_21a.ensures, sym c.if-is_21c.ensures) cc

pub returns : goal.returns
unfolding table
returns c = rw (within 47 42 0 c.args.w c.requires, sym c.if-is_21a.ensures, sym c.if-is_21c.ensures, sym c.if-is_2a.ensures)

pub returns-in_err-k : goal.returns-in_err-k
unfolding table
returns-in_err-k c =
    let none : compute_at (field 22 0 c.args.w) ≡ None = search rules in
    let given : c.from_residual.result ≡ None = search rules in
    rw (within 47 42 0 c.args.w c.requires, sym c.if-is_21a.ensures, sym c.if-is_21c.ensures, sym c.if-is_2a.ensures, none, given)

pub returns-then-is_2a : goal.returns-then-is_2a
unfolding table
returns-then-is_2a c =
    let some : compute_at (field 22 0 c.args.w) ≡ Some c.in_ok-k.k = search rules in
    rw (within 47 42 0 c.args.w c.requires, sym c.if-is_21a.ensures, sym c.if-is_21c.ensures, sym c.if-is_2a.ensures, some) cc
