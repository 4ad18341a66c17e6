-- A turn while there is more. The lent slices stand at lists as long as those that were passed.
use Rattle.places.specs.Left.{lent_of}
use Rattle.taking.proofs.Turning.{Along, left}
use Rattle.taking.proofs.take_rows.Given as goal

abbrev pub invariant-loop-rooms : goal.invariant-loop-rooms
invariant-loop-rooms l = Along l.rows l.names l.rooms (lent_of l.initial.parcels l.initial.labels l.initial.jumps l.initial.loops) l.t (lent_of l.parcels l.labels l.jumps l.loops)

abbrev pub decreases-loop-rooms : goal.decreases-loop-rooms
decreases-loop-rooms l = left l.rows l.t
