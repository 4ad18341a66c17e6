-- The copy just past what is written is the bytes of one parcel more.
use Rattle.std.proofs.Common.{◌∙◌, arith}
use Rattle.parcel_bytes.proofs.Writes.{bytes-of, writing-next}
use Rattle.parcel_bytes.proofs.parcels_to_bytes.Goals as goal

pub loop-i-preserved : goal.loop-i-preserved
loop-i-preserved c =
    writing-next c.loop-i.invariant c.loop-i-test.true (omega arith)
    (c.copy_from_slice.ensures.after ∙ c.to_le_bytes.ensures ∙ bytes-of _ (omega arith))
