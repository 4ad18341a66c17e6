-- A kind of the table, and its word.
use Rattle.std.proofs.Common.{◌≡◌, sym, Some}
use Rattle.bounds.specs.Tables.{at}
use Rattle.combined.specs.Single.{third_of, single_word}
use Rattle.glances.specs.Glances.{single_in}
use Rattle.glances.proofs.Lines.{singled}
use Rattle.glances.proofs.single.Goals as goal

pub returns-then-fits : goal.returns-then-fits
unfolding single_in
returns-then-fits c =
    let row = c.args.row.now in
    let known : third_of (at row 0) ≡ Some c.in_ok-most.most = rw c.requires (sym c.in_ok-most.ensures) in
    let made : single_word (at row 0) (at row 1) (at row 2) (at row 3) ≡ Some c.in_ok-w.w = rw c.requires (sym c.in_ok-w.ensures) in
    record { shown = rw (known, made, sym c.if-fits.ensures); right = singled row c.told-row known made c.if-fits.ensures }
