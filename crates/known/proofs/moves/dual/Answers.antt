-- What is left of the table where the class's bits stand, line by line.
use Rattle.std.proofs.Common.{◌≡◌, sym, rules, Some, None}
use Rattle.fields.specs.Pack.{field}
use Rattle.known.specs.Table.{table, beside_at}
use Rattle.known.proofs.Narrowed.{within}
use Rattle.known.proofs.moves.dual.Goals as goal

pub returns-in_err-k : goal.returns-in_err-k
unfolding table
returns-in_err-k c =
    let none : beside_at (field 22 0 c.args.w) ≡ None = search rules in
    let given : c.from_residual.result ≡ None = search rules in
    rw (within 47 45 1 c.args.w c.requires, sym c.if-is_1a.ensures, none, given)

pub returns-then-is_1a : goal.returns-then-is_1a
unfolding table
returns-then-is_1a c =
    let some : beside_at (field 22 0 c.args.w) ≡ Some c.in_ok-k.k = search rules in
    rw (within 47 45 1 c.args.w c.requires, sym c.if-is_1a.ensures, some, c.then_some.ensures, c.dual_fine.ensures, c.row.ensures, c.bits-dmd.ensures, c.bits-dmi.ensures, c.bits-dmm.ensures, c.bits-pmd.ensures, c.bits-dmdreg.ensures, c.bits-pmi.ensures, c.bits-pmm.ensures, c.bits-pmdreg.ensures)

pub returns : goal.returns
unfolding table
returns c = rw (within 47 45 1 c.args.w c.requires, sym c.if-is_1a.ensures)
