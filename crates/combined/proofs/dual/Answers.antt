-- What has passed the four tests is right.
use Rattle.combined.proofs.Seen.{dual_right}
use Rattle.std.proofs.Common.{sym, ◌∙◌}
use Rattle.combined.proofs.dual.Goals as goal

pub returns : goal.returns
returns c =
    rw (c.dual_word.ensures, c.byte.ensures, c.byte-2.ensures, c.byte-3.ensures, c.byte-4.ensures, c.byte-5.ensures, c.byte-6.ensures)
    (dual_right c.args.row.now c.told-row c.requires
    (sym c.if-not-dual_fits.ensures)
    (sym c.clashes.ensures ∙ c.if-clashes.false)
    (sym c.clashes-2.ensures ∙ c.if-clashes-2.false)
    (sym c.in_ok-field.ensures))
