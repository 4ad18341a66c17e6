-- By whether a loop is open.
use Rattle.places.specs.Items.{kernel_of}
use Rattle.prefixes.proofs.Nesting.{innermost}
use Rattle.std.proofs.Common.{arith}
use Rattle.plain.proofs.first.past_rows.Goals as goal

pub overflow_cast-row : goal.overflow_cast-row
overflow_cast-row c =
    let k = kernel_of c.args.rows.now c.args.names.now in
    let z = c.if-before-eq0.false in
    let d = c.requires.depth_is in
    let u = (innermost k.it k.n (omega arith)).open_at.before in
    let p = c.requires.few in
    omega (arith, c.start_of-row.ensures)
