-- Reading back in two steps, an instrument: what the walk leaves in the lent slices before a refusal wipes it.
use Rattle.std.specs.Prelude.{List, ℕ, ◌*◌, replicate}
use Rattle.rows.specs.Rows.{row_width}
use Rattle.stores.specs.Stores.{Begins}
use Rattle.reading.specs.declared.Walk.{Walk}
use Rattle.reading.specs.Back.{Goes, room_in}

-- a lent slice begins with n zeros, and after them is as it was
abbrev pub Wiped : List ℕ → ℕ → List ℕ → Type 0
Wiped old n new = Begins old (replicate n 0) n new

-- what is read stands in the lent slices, whatever the verdict is
pub record WalksBack (parcels rows places : List ℕ) (walk : Walk) (rows' places' : List ℕ) : Type 0 where
  pub new_rows : List ℕ
  pub new_places : List ℕ
  pub goes : Goes (room_in rows places) 0 0 parcels new_rows new_places walk.verdict
  pub rows_left : Begins rows new_rows (walk.done * row_width) rows'
  pub places_left : Begins places new_places walk.done places'
