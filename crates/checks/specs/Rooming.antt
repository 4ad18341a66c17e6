-- An instrument of the build's proof: what it leans on of its rooms.
use Rattle.std.specs.Prelude.{ℕ, ◌*◌, ◌≤◌, length}
use Rattle.places.specs.declared.Rooms.{Rooms}
use Rattle.places.specs.Items.{label_width, jump_width, most_parcels, most_entries, most_loops}
use Rattle.places.specs.Left.{Lent}

-- the rooms lie within the buffers and the limits
pub record Rooming (r : Rooms) (p l j k : ℕ) : Type 0 where
  pub parcels_in : r.parcels ≤ p
  pub parcels_few : r.parcels ≤ most_parcels
  pub labels_in : label_width * r.labels ≤ l
  pub labels_few : r.labels ≤ most_entries
  pub jumps_in : jump_width * r.jumps ≤ j
  pub jumps_few : r.jumps ≤ most_entries
  pub loops_in : r.loops ≤ k
  pub loops_few : r.loops ≤ most_loops

abbrev pub RoomingIn : Rooms → Lent → Type 0
RoomingIn r lent = Rooming r (length lent.parcels) (length lent.labels) (length lent.jumps) (length lent.loops)
