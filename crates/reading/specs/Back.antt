-- Document 02, wish 4: "parcels in, instruction rows out into a lent slice, with the place of each row".
use Rattle.std.specs.Prelude.{◌≡◌, List, [], ◌∷◌, ◌++◌, ℕ, suc, ◌+◌, ◌/◌, ◌<◌, ◌≤◌, min, pos, length, drop, Ok, Err, Result}
use Rattle.refusals.specs.Answers.{Verdict}
use Rattle.refusals.specs.declared.Refusal.{Refusal}
use Rattle.refusals.specs.declared.Refusal.TheVariants.{UnknownForm, NoRoomForRows}
use Rattle.refusals.specs.Numbers.{told_of}
use Rattle.rows.specs.Rows.{row_width}
use Rattle.places.specs.Left.{put}
use Rattle.known.specs.Front.{Front, known, unknown}
use Rattle.reading.specs.declared.ToldRows.{ToldRows}

-- what is read from a place on, after so many rows: the rows, their places, and whether it comes to the end of the parcels; "35 for a parcel that
-- starts no known form or a form cut short, with its place; then 36 when rows or places are full, with the smaller room"
pub data Goes (room : ℕ) : ℕ → ℕ → List ℕ → List ℕ → List ℕ → Verdict → Type 0 where
  ended : {place done : ℕ} → Goes room place done [] [] [] (Ok tt)
  strange : {place done p : ℕ} {ps : List ℕ} → Front (p ∷ ps) unknown → Goes room place done (p ∷ ps) [] [] (Err (UnknownForm place))
  full : {place done p n : ℕ} {ps row : List ℕ} → Front (p ∷ ps) (known n row) → room ≤ done → Goes room place done (p ∷ ps) [] [] (Err (NoRoomForRows room))
  next :
      {place done p n : ℕ} {ps row rows places : List ℕ} {v : Verdict} → Front (p ∷ ps) (known n row) → done < room →
      Goes room (place + n) (suc done) (drop n (p ∷ ps)) rows places v → Goes room place done (p ∷ ps) (row ++ rows) (place ∷ places) v

-- the smaller room: whole rows of seventeen numbers, and places
abbrev pub room_in : List ℕ → List ℕ → ℕ
room_in rows places = min (length rows / row_width) (length places)

-- the answer in numbers: 0 and the rows read, or a refusal's number and its detail
abbrev pub told_rows : Verdict → ℕ → ToldRows
told_rows (Ok _) n = record { rows = n; first = pos 0; second = pos 0; third = pos 0; number = 0; spare = 0 }
told_rows (Err r) n = record { rows = 0; first = (told_of r).first; second = (told_of r).second; third = (told_of r).third; number = (told_of r).number; spare = 0 }

abbrev pub told_back : Result ℕ Refusal → ToldRows
told_back (Ok n) = told_rows (Ok tt) n
told_back (Err r) = told_rows (Err r) 0

-- THE CONTRACT: what is told and left is what is read; "either zeroes what was written", and past it nothing changes
pub record ReadsBack (parcels rows places : List ℕ) (told : ToldRows) (rows' places' : List ℕ) : Type 0 where
  pub new_rows : List ℕ
  pub new_places : List ℕ
  pub verdict : Verdict
  pub goes : Goes (room_in rows places) 0 0 parcels new_rows new_places verdict
  pub answer : told ≡ told_rows verdict (length new_places)
  pub rows_left : rows' ≡ put verdict new_rows rows
  pub places_left : places' ≡ put verdict new_places places
