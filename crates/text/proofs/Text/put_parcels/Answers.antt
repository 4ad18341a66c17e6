use Rattle.std.proofs.Common.{arith}
use Rattle.text.proofs.Putting.{putting_start, putting_next, putting_end, putting_place, parcel_long}
use Rattle.text.proofs.Text.put_parcels.Goals as goal

pub loop-p-init : goal.loop-p-init
loop-p-init c = putting_start _ _ _

pub put_parcel-requires : goal.put_parcel-requires
put_parcel-requires c = omega (arith, putting_place _ _ _ 5 parcel_long _ c.loop-p.invariant)

pub loop-p-preserved : goal.loop-p-preserved
loop-p-preserved c = putting_next _ _ _ _ c.loop-p.invariant c.loop-p-test.true c.put_parcel.ensures

pub returns : goal.returns
returns c = putting_end _ _ _ _ c.loop-p.invariant c.loop-p-test.false
