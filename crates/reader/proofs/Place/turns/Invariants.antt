-- What is still to be fed gives, from here, what all of the chunk gives.
use Rattle.std.specs.Prelude.{Ok}
use Rattle.reader.specs.Steps.{mem}
use Rattle.reader.proofs.Feeding.{Feeding}
use Rattle.reader.proofs.Place.turns.Given as goal

abbrev pub invariant-loop-b : goal.invariant-loop-b
invariant-loop-b l = Feeding (mem (Ok l.initial.place) l.initial.rows l.initial.names) l.chunk l.b-index (mem (Ok l.place) l.rows l.names)
