-- What is promised of a list of fields: its word has the list's width, reads back field by field as the list's numbers, and is the only word that does.
use Rattle.std.specs.Prelude.{ℕ, ◌*◌, ◌<◌, ◌^◌, List, ◌≡◌}
use Rattle.fields.specs.Pack.{Field, pack, values, reads, Tiles, Fits}
use Rattle.fields.specs.Parcels.{cut, joined}

pub record Faithful (top : ℕ) (fs : List Field) : Type 0 where
  pub tiles : Tiles top fs
  pub fits : Fits fs
  pub within : pack fs < 2 ^ top
  pub back : reads fs (pack fs) ≡ values fs
  pub only : (word : ℕ) → word < 2 ^ top → reads fs word ≡ values fs → word ≡ pack fs

-- so many parcels spell the fields: they are cut from that word, and make it again
pub record Spells (parcels : List ℕ) (n : ℕ) (fs : List Field) : Type 0 where
  pub cuts : parcels ≡ cut n (pack fs)
  pub makes : joined parcels ≡ pack fs
  pub faithful : Faithful (16 * n) fs
