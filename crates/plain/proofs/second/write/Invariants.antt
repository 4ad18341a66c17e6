-- Before row i the rows before it are written, and `at` is its place.
use mathlib.Core.Path.{◌≡◌}
use lib.ListN.{length}
use Rattle.places.specs.Items.{kernel_of, row_at, row_count, place}
use Rattle.refusals.specs.Scan.{Going}
use Rattle.plain.specs.Once.{written}
use Rattle.plain.specs.Plain.{aims}
use Rattle.plain.proofs.second.write.Given as goal

abbrev pub invariant-loop-i : goal.invariant-loop-i
invariant-loop-i l = Going (aims (kernel_of l.rows l.names)) (written (kernel_of l.rows l.names)) l.initial.parcels (row_count l.rows) l.i l.parcels × (l.at ≡ place (row_at l.rows l.names) l.i) × (length l.parcels ≡ length l.initial.parcels)
