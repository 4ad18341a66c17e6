-- The row that is put is the twin of the row's numbers.
use mathlib.Core.Path.{sym, ap, ◌∙◌}
use mathlib.Core.List.{List}
use Prim.Native.Nat.{ℕ, ◌*◌}
use lib.Seq.{paste}
use Rattle.rows.specs.Rows.{row_width}
use Rattle.prefixes.proofs.Looking.{pick_true}
use Rattle.widening.proofs.Cells.{twin-cells}
use Rattle.widening.proofs.twins.put_copied.Goals as goal

pub returns-then-change : goal.returns-then-change
returns-then-change c =
    c.put_row.ensures
    ∙ ap (λ (r : List ℕ). paste c.args.copy.now (c.args.i * row_width) r row_width)
    (c.twin_of-row.ensures ∙ sym (twin-cells c.args.rows.now c.args.i) ∙ sym (pick_true c.args.change _ _ c.if-change.true))
