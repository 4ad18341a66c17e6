-- After k turns the parcels are what the machine has after k waiting jumps.
use Rattle.refusals.specs.Scan.{Going}
use Rattle.settling.specs.Settling.{wait_chk, waited}
use Rattle.places.specs.Items.{kernel_of}
use lib.ListN.{length}
use mathlib.Core.Path.{◌≡◌}
use Rattle.settling.proofs.aim_all.Given as goal

abbrev pub invariant-loop-k : goal.invariant-loop-k
invariant-loop-k l = (Going (wait_chk (kernel_of l.rows l.names) l.labels l.n l.jumps) (waited (kernel_of l.rows l.names) l.labels l.n l.jumps) l.initial.parcels l.count l.k l.parcels) × (length l.parcels ≡ length l.initial.parcels)
