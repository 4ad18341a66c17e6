-- The lines so far stand at the end; each is five bytes.
use Rattle.text.specs.Text.{parcel_line}
use Rattle.text.proofs.Putting.{Putting}
use Rattle.text.proofs.Text.put_parcels.Given as goal

abbrev pub invariant-loop-p : goal.invariant-loop-p
invariant-loop-p l = Putting parcel_line l.initial.self l.parcels l.p-index l.self
