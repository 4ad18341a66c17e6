-- What has passed the four tests is right.
use Rattle.combined.proofs.Seen.{memory_right}
use Rattle.std.proofs.Common.{sym, ◌∙◌}
use Rattle.combined.proofs.memory.Goals as goal

pub returns : goal.returns
returns c =
    rw (c.memory_word.ensures, c.byte.ensures, c.byte-2.ensures, c.byte-3.ensures)
    (memory_right c.args.row.now c.told-row c.requires
    (sym c.if-not-memory_fits.ensures)
    (sym c.own_dag.ensures ∙ c.if-own_dag.false)
    (sym c.clashes.ensures ∙ c.if-clashes.false)
    (sym c.in_ok-field.ensures))
