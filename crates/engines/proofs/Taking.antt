-- From the rows in turn over the records of a local table to their contract.
use mathlib.Core.Path.{◌≡◌}
use mathlib.Core.List.{List}
use Prim.Native.Nat.{ℕ}
use Rattle.places.specs.declared.OpenLoop.{OpenLoop}
use Rattle.places.specs.declared.Rooms.{Rooms}
use Rattle.places.specs.Left.{Lent, rooms_of_lent, with_loops}
use Rattle.taking.specs.declared.Taking.{Taking}
use Rattle.taking.specs.Taking.{Took}
use Rattle.engines.specs.Alone.{with_own, TakesAlone}

pub takes_alone : {rows names : List ℕ} {lent left : Lent} {r : Rooms} {t : Taking} {loops : List OpenLoop}
    → r ≡ rooms_of_lent (with_own lent)
    → Took rows names r (with_own lent) t (with_loops left loops)
    → TakesAlone rows names lent t left
takes_alone {loops = loops} e x = record { loops = loops; took = rw (← e) x }
