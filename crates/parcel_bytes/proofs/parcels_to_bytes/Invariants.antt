-- The lent bytes after i parcels are `Writing`'s.
use Rattle.parcel_bytes.proofs.Writes.{Writing}
use Rattle.parcel_bytes.proofs.parcels_to_bytes.Given as goal

abbrev pub invariant-loop-i : goal.invariant-loop-i
invariant-loop-i l = Writing l.parcels l.initial.bytes l.i l.bytes
