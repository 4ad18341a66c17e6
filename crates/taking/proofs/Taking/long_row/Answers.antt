-- The step of what the row comes to is that of the row.
use Rattle.prefixes.proofs.Names.{row_fine}
use Rattle.taking.proofs.Taking.long_row.Goals as goal

pub step-step-requires : goal.step-step-requires
step-step-requires c = (c.requires.0, let a = c.args in rw c.coded_at-coded.ensures (row_fine a.rows.now a.names.now a.self.row))
