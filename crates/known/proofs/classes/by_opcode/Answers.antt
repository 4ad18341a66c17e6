-- Each class has its function; in the other two the table has no form.
use Rattle.std.proofs.Common.{refl, sym, ◌/◌, ◌%◌, ◌<◌, arith}
use Rattle.known.specs.Table.{table}
use Rattle.known.proofs.Narrowed.{none_within}
use Rattle.known.proofs.classes.by_opcode.Goals as goal

pub returns-in_default : goal.returns-in_default
unfolding table
returns-in_default c =
    let w = c.args.w in
    let small : w / 0x400_0000_0000 % 0x40 < 8 = omega (arith, c.requires) in
    sym (none_within 47 42 2 7 w refl refl (λ other. omega (arith, other)))
