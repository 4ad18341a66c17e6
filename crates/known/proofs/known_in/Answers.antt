-- Each class has its function; in the other two the table has no form.
use Rattle.std.proofs.Common.{refl, sym, arith}
use Rattle.known.specs.Table.{table}
use Rattle.known.proofs.Narrowed.{none_within}
use Rattle.known.proofs.known_in.Goals as goal

pub returns-in_default : goal.returns-in_default
unfolding table
returns-in_default c = sym (none_within 47 45 6 7 c.args.w refl refl (λ other. omega (arith, other)))
