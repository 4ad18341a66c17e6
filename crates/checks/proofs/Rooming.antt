-- The rooms of lent buffers lie within them and the limits.
use mathlib.Core.Path.{◌≡◌}
use Prim.Native.Nat.{ℕ}
use native.Mathlib.Omega.{arith}
use lib.ListN.{length}
use Rattle.places.specs.declared.Rooms.{Rooms}
use Rattle.places.specs.Items.{rooms_of}
use Rattle.places.specs.Left.{Lent, rooms_of_lent}
use Rattle.checks.specs.Rooming.{Rooming, RoomingIn}

pub rooms_in : (p l j k : ℕ) → Rooming (rooms_of p l j k) p l j k
rooms_in p l j k = omega arith

pub rooms_in_lent : (lent : Lent) → RoomingIn (rooms_of_lent lent) lent
rooms_in_lent lent = rooms_in (length lent.parcels) (length lent.labels) (length lent.jumps) (length lent.loops)

pub rooming-of : {p l j k : ℕ} {r : Rooms} → r ≡ rooms_of p l j k → Rooming r p l j k
rooming-of {p} {l} {j} {k} e = rw e (rooms_in p l j k)
