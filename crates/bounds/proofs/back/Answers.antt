-- What follows a compute; after any other line spare places follow.
use Rattle.std.proofs.Common.{◌≢◌, sym, append_assoc, ◌++◌, arith}
use Rattle.bounds.specs.Tables.{at}
use Rattle.bounds.specs.Bounds.{bounds_of, form, data_access, memory_access}
use Rattle.bounds.proofs.Filled.{back-compute, back-spare}
use Rattle.bounds.proofs.back.Goals as goal

pub returns-in-33 : goal.returns-in-33
unfolding bounds_of
returns-in-33 c = rw (c.in-33.is, append_assoc) (sym (back-compute form _ (data_access ++ data_access)))

pub returns-in-34 : goal.returns-in-34
unfolding bounds_of
returns-in-34 c = rw (c.in-34.is, append_assoc) (sym (back-compute form _ memory_access))

pub returns-in_default : goal.returns-in_default
returns-in_default c =
    let row = c.args.row.now in
    let h : at row 0 ≢ 33 = omega arith in
    let g : at row 0 ≢ 34 = omega arith in
    sym (back-spare row h g)
