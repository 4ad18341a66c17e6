-- Before row i the rows before it are passed, and the tables hold their entries.
use mathlib.Core.Path.{◌≡◌}
use lib.ListN.{length}
use Rattle.places.specs.Items.{kernel_of}
use Rattle.plain.proofs.Walking.{Along}
use Rattle.plain.specs.Plain.{tables}
use Rattle.plain.proofs.first.place.Given as goal

abbrev pub invariant-loop-i : goal.invariant-loop-i
invariant-loop-i l = Along (kernel_of l.rows l.names) l.rooms (tables l.initial.labels l.initial.jumps) l.i l.before (tables l.labels l.jumps) × (length l.labels ≡ length l.initial.labels) × (length l.jumps ≡ length l.initial.jumps)
