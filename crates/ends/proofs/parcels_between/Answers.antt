-- The sum of the rows so far.
use Rattle.ends.proofs.Ending.{place-next, arrived}
use Rattle.prefixes.proofs.Totals.{total-up}
use Rattle.places.specs.Items.{row_at, size}
use native.Mathlib.Omega.{arith}
use Prim.Native.Nat.{◌+◌}
use Rattle.ends.proofs.parcels_between.Goals as goal

pub mark-parcels-requires : goal.mark-parcels-requires
mark-parcels-requires c = omega arith

pub overflow_add-parcels : goal.overflow_add-parcels
overflow_add-parcels c = let h = place-next (row_at c.args.rows.now c.args.names.now) c.loop-i.i in let u = total-up size (row_at c.args.rows.now c.args.names.now) (c.loop-i.i + 1) c.args.to (omega arith) in rw c.mark-parcels.ensures (omega arith)

pub loop-i-preserved : goal.loop-i-preserved
loop-i-preserved c = rw c.mark-parcels.ensures (omega arith, omega arith, let h = place-next (row_at c.args.rows.now c.args.names.now) c.loop-i.i in omega arith)

pub returns : goal.returns
returns c = arrived _ c.loop-i.invariant.1 c.loop-i-test.false c.loop-i.invariant.2
