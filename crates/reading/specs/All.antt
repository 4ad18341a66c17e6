-- Where reading back answers 0.
use Rattle.std.specs.Prelude.{List, ℕ, Ok}
use Rattle.reading.specs.Back.{Goes, room_in}

-- the parcels can be read to their end in the room lent
pub record ReadsAll (parcels rows places : List ℕ) : Type 0 where
  pub new_rows : List ℕ
  pub new_places : List ℕ
  pub goes : Goes (room_in rows places) 0 0 parcels new_rows new_places (Ok tt)
