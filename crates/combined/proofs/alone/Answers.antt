-- A word over spare places that are 0 is right.
use Rattle.combined.proofs.Seen.{alone_right}
use Rattle.std.proofs.Common.{sym}
use Rattle.combined.proofs.alone.Goals as goal

pub returns-then-spare-eq0 : goal.returns-then-spare-eq0
returns-then-spare-eq0 c =
    alone_right c.args.row.now c.told-row c.requires (sym c.in_ok-word.ensures) (rw (c.four.ensures.0, c.four-2.ensures.0) at c.if-spare-eq0.true)
