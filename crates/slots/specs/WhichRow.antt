-- Document 02, wish 3, "which item", of the slot check.
use Rattle.std.specs.Prelude.{◌≡◌, List, ℕ}
use Rattle.refusals.specs.declared.Told.{Told}
use Rattle.refusals.specs.Numbers.{alone}
use Rattle.coded.specs.Coded.{read_verdict}
use Rattle.places.specs.Items.{row_at, row_count}
use Rattle.counts.specs.Counts.{Passes}
use Rattle.counts.specs.WhichRow.{NamesFirst}
use Rattle.slots.specs.Slots.{slot_verdict}

-- 1 names no row; a row refusal names the first row that is refused; 33 comes where every row is read, names the first jump whose slots are
-- broken, and "keeps its first detail and repeats it as the third"
pub record NamesRow (rows names : List ℕ) (told : Told) : Type 0 where
  pub none : told.number ≡ 1 → told ≡ alone 1
  pub row : (told.number ≡ 0 → ⊥) → (told.number ≡ 1 → ⊥) → (told.number ≡ 33 → ⊥) → NamesFirst (λ i. read_verdict (row_at rows names i)) (row_count rows) told
  pub jump : told.number ≡ 33 → Passes read_verdict rows names × NamesFirst (slot_verdict (row_at rows names) (row_count rows)) (row_count rows) told
  pub twice : told.number ≡ 33 → told.third ≡ told.first
