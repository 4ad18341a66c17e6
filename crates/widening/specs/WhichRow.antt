-- Document 02, wish 3, "which item", of widening.
use Rattle.std.specs.Prelude.{◌≡◌, ◌⊎◌, List, ℕ, ◌<◌, ◌≤◌, Err}
use Rattle.refusals.specs.declared.Refusal.{Refusal}
use Rattle.refusals.specs.declared.Refusal.TheVariants.{RowSlice, NoRoomForRows}
use Rattle.refusals.specs.Order.{FirstAt}
use Rattle.coded.specs.Coded.{read_verdict}
use Rattle.places.specs.Items.{row_at, row_count}
use Rattle.counts.specs.Counts.{Passes}
use Rattle.widening.specs.declared.ToldWidened.{ToldWidened}
use Rattle.widening.specs.Widening.{changed, copy_room, list_room, told_widened}

-- what is told is a row refusal of the first row at fault, with that row as third detail
pub record NamesFirst (rows names : List ℕ) (t : ToldWidened) : Type 0 where
  pub row : ℕ
  pub why : Refusal
  pub first : FirstAt (λ i. read_verdict (row_at rows names i)) (row_count rows) why row
  pub said : t ≡ told_widened (Err (record { why = why; row = row }))

module _ (rows names copy list : List ℕ) (t : ToldWidened) where
  -- what is told is 36 and no row, with the copy's room; or, where that suffices, with the changes'
  abbrev pub NoRoom : Type 0
  NoRoom =
      ((copy_room copy < row_count rows) × (t ≡ told_widened (Err (record { why = NoRoomForRows (copy_room copy); row = 0 }))))
      ⊎ ((row_count rows ≤ copy_room copy) × (list_room list < changed rows names) × (t ≡ told_widened (Err (record { why = NoRoomForRows (list_room list); row = 0 }))))

  -- 1 and 36 name no row, and 36 comes where every row is read; any other refusal names the first row at fault
  pub record NamesRow : Type 0 where
    pub slice : t.number ≡ 1 → t ≡ told_widened (Err (record { why = RowSlice; row = 0 }))
    pub room : t.number ≡ 36 → Passes read_verdict rows names × NoRoom
    pub named : (t.number ≡ 0 → ⊥) → (t.number ≡ 1 → ⊥) → (t.number ≡ 36 → ⊥) → NamesFirst rows names t
