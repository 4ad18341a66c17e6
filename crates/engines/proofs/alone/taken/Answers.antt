-- The rooms are those of the lent slices and of a table of 64 records, all zero.
use Rattle.engines.proofs.Taking.{takes_alone}
use Rattle.engines.proofs.alone.taken.Goals as goal

pub returns : goal.returns
returns c = takes_alone c.of-rooms.ensures c.take_rows.ensures
