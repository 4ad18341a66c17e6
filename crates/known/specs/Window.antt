-- The reader at the front of parcels, an instrument: the first three as a word, the six of `LeafReturn`, and forms that are cut short.
use Rattle.std.specs.Prelude.{ℕ, ◌+◌, ◌*◌, ◌^◌, Bool, cond, List, leb, length, nat_eq, Option, Some, None}
use Rattle.std.specs.Bool.{then_some}
use Rattle.std.specs.List.{starts_with}
use Rattle.fields.specs.Pack.{pack}
use Rattle.fields.specs.Parcels.{cut}
use Rattle.words.specs.Forms.{leaf_return}
use Rattle.bounds.specs.Tables.{at}
use Rattle.known.specs.declared.Known.{Known}
use Rattle.known.specs.Front.{Reading}
use Rattle.known.specs.Front as front
use Rattle.known.specs.Table.{known, line, known_in}

-- the first three parcels as a word; those that are missing are 0
abbrev pub window : List ℕ → ℕ
window parcels = at parcels 0 * 2 ^ 32 + at parcels 1 * 2 ^ 16 + at parcels 2

-- "Six parcels of `LeafReturn` are one row"
abbrev pub starts_leaf : List ℕ → Bool
starts_leaf parcels = starts_with nat_eq parcels (cut 6 (pack leaf_return))

-- a form that is cut short is unknown
abbrev pub cut_off : ℕ → Option Known → Option Known
cut_off n None = None
cut_off n (Some k) = then_some (leb k.parcels n) k

unfoldable pub known_at : List ℕ → Option Known
known_at parcels = cond (starts_leaf parcels) (Some (known 6 (line 31 0 0 0))) (cut_off (length parcels) (known_in (window parcels)))

-- the same as a reading
abbrev pub reading_of : Option Known → Reading
reading_of None = front.unknown
reading_of (Some k) = front.known k.parcels k.row

abbrev pub reading_at : List ℕ → Reading
reading_at parcels = reading_of (known_at parcels)
