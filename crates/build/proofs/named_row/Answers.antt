-- By whether a row is left; an opener stands before the row that looks for it.
use Rattle.agrees.proofs.Parcels.{opener-low}
use Rattle.places.specs.Items.{row_at}
use native.Mathlib.Omega.{arith}
use Rattle.build.proofs.named_row.Goals as goal

pub overflow_cast-result-2 : goal.overflow_cast-result-2
overflow_cast-result-2 c = let a = c.args in omega (arith, opener-low (row_at a.rows.now a.names.now) a.row, c.start_of.ensures, c.requires.few)
