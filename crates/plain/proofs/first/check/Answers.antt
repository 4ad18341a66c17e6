-- By what the item is.
use Rattle.plain.proofs.first.check.Goals as goal

pub returns-in-LoopEnd : goal.returns-in-LoopEnd
returns-in-LoopEnd c = rw (c.in_ok-coding.was, c.in-LoopEnd.is) (c.end_check.ensures c.args.rooms)
