-- Refusal 26, "loop tail not full width", and its detail, the "parcel of the latest short one", in the words of rule 4.
use Rattle.std.specs.Prelude.{◌≡◌, ℕ, ◌+◌, ◌≤◌, ◌<◌, ℤ, pos}
use Rattle.places.specs.Items.{Kernel, size, is_entry, address, entries}
use Rattle.rules.specs.Rules.{Pair}

-- "In each body the last 11 instructions (all, if fewer) take three parcels": of one body the latest that does not, and its parcel
pub record LatestShort (k : Kernel) (parcel : ℤ) : Type 0 where
  pub start : ℕ
  pub end : ℕ
  pub pair : Pair k start end
  -- an instruction of the body
  pub row : ℕ
  pub after : start < row
  pub before : row < end
  pub entry : is_entry (k.it row) ≡ 1
  -- one of the last 11, that does not take three parcels
  pub in_tail : entries k.it end ≤ entries k.it row + 11
  pub short : size (k.it row) ≡ 3 → ⊥
  -- each later instruction of the body does
  pub latest : (q : ℕ) → row < q → q < end → is_entry (k.it q) ≡ 1 → size (k.it q) ≡ 3
  pub detail : parcel ≡ pos (address k.it row)
