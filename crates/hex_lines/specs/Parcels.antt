-- The read back program's input: which parcels it says, by lines. Lines and numbers are the bench program's (document 01, "The bench program").
use Rattle.std.specs.Prelude.{Bool, false, ◌&&◌, cond, List, [], ◌∷◌, ◌++◌, ℕ, ◌+◌, ◌-◌, ◌*◌, length, ltb, leb, eqb}
use Rattle.reader.specs.Lines.{lines, is_digit, every, is_number}
use Rattle.text.specs.Text.{ok}

-- the value of a hex digit, in lower or upper case; 16 of any other byte
unfoldable pub hex_value : ℕ → ℕ
hex_value b = cond (is_digit b) (b - 48) (cond (leb 65 b && leb b 70) (b - 55) (cond (leb 97 b && leb b 102) (b - 87) 16))

abbrev pub is_hex : ℕ → Bool
is_hex b = ltb (hex_value b) 16

-- "one parcel a line in four hex digits"
unfoldable pub is_parcel : List ℕ → Bool
is_parcel l = eqb (length l) 4 && every is_hex l

abbrev pub parcel_from : ℕ → List ℕ → ℕ
parcel_from v [] = v
parcel_from v (b ∷ bs) = parcel_from (v * 16 + hex_value b) bs

abbrev pub parcel_of : List ℕ → ℕ
parcel_of l = parcel_from 0 l

-- a word, and then a number
abbrev pub is_count : List ℕ → List ℕ → Bool
is_count [] l = is_number l
is_count (w ∷ ws) [] = false
is_count (w ∷ ws) (b ∷ bs) = eqb b w && is_count ws bs

-- "`ok`, tab, count": the line before the parcels in what the bench program prints
unfoldable pub is_head : List ℕ → Bool
is_head l = is_count ok l

-- what the input says: parcels; or that a line, numbered from 1, is unread
pub data Said : Type 0 where
  parcels : List ℕ → Said
  unread : ℕ → Said

-- the lines in turn, after so many lines with these parcels: the first that is no parcel, or is past 3,072 of them, is unread
abbrev pub said_from : ℕ → List ℕ → List (List ℕ) → Said
said_from i ps [] = parcels ps
said_from i ps (l ∷ ls) = cond (is_parcel l && ltb (length ps) 3072) (said_from (i + 1) (ps ++ parcel_of l ∷ []) ls) (unread (i + 1))

-- a first line with a count is passed over
abbrev pub said_lines : List (List ℕ) → Said
said_lines [] = parcels []
said_lines (l ∷ ls) = cond (is_head l) (said_from 1 [] ls) (said_from 0 [] (l ∷ ls))

abbrev pub said : List ℕ → Said
said input = said_lines (lines input)
