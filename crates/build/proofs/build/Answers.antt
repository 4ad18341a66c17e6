-- What the rows come to, and then the waiting jumps.
use Rattle.build.proofs.Whole.{took-finishing, built-is}
use Rattle.build.proofs.build.Goals as goal

pub finish-requires : goal.finish-requires
finish-requires c = took-finishing c.of-rooms.ensures c.take_rows-taken.ensures

pub returns : goal.returns
returns c = built-is c.of-rooms.ensures c.take_rows-taken.ensures c.finish.ensures
