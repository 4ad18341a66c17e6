-- What is still to be fed gives, from here, what all of the chunk gives.
use Rattle.std.specs.Prelude.{Ok}
use Rattle.hex_lines.specs.Steps.{mem}
use Rattle.hex_lines.proofs.Feeding.{Feeding}
use Rattle.hex_lines.proofs.Place.turns.Given as goal

abbrev pub invariant-loop-b : goal.invariant-loop-b
invariant-loop-b l = Feeding (mem (Ok l.initial.place) l.initial.parcels) l.chunk l.b-index (mem (Ok l.place) l.parcels)
