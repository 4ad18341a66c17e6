-- One instruction's answer as C has it: what is told, but for a name's range, which no answer of this call has, and the six places.
use Rattle.std.specs.Prelude.{ℕ, List}
use Rattle.refusals.specs.declared.Told.{Told}
use Rattle.link.specs.declared.One.{One}

abbrev pub one_of : Told → List ℕ → One
one_of t places = record { number = t.number; count = t.count; first = t.first; second = t.second; third = t.third; places = places }

abbrev pub told_in : One → Told
told_in one = record { number = one.number; count = one.count; first = one.first; second = one.second; third = one.third; start = 0; length = 0 }
