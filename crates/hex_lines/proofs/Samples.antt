-- Inputs at the edges, by computation.
use mathlib.Core.Path.{◌≡◌, refl}
use mathlib.Core.List.{[], ◌∷◌}
use Rattle.reader.specs.Lines.{is_number}
use Rattle.hex_lines.specs.Parcels.{hex_value, is_parcel, is_head, parcels, unread, said}

-- `ok⇥2`, `9aFe`, `0001`
example : said (111 ∷ 107 ∷ 9 ∷ 50 ∷ 10 ∷ 57 ∷ 97 ∷ 70 ∷ 101 ∷ 10 ∷ 48 ∷ 48 ∷ 48 ∷ 49 ∷ 10 ∷ []) ≡ parcels (0x9afe ∷ 1 ∷ [])
unfolding is_number hex_value is_parcel is_head
example = refl

-- the same without the first line, and without the last byte 10
alone : said (57 ∷ 97 ∷ 70 ∷ 101 ∷ 10 ∷ 48 ∷ 48 ∷ 48 ∷ 49 ∷ []) ≡ parcels (0x9afe ∷ 1 ∷ [])
unfolding is_number hex_value is_parcel is_head
alone = refl

-- no input has no line; a count alone has no parcel
nothing : said [] ≡ parcels []
nothing = refl

count-alone : said (111 ∷ 107 ∷ 9 ∷ 50 ∷ []) ≡ parcels []
unfolding is_number hex_value is_parcel is_head
count-alone = refl

-- an empty line is unread; three digits are, and five; `g` is no digit
blank : said (10 ∷ []) ≡ unread 1
unfolding is_number hex_value is_parcel is_head
blank = refl

three : said (48 ∷ 48 ∷ 49 ∷ []) ≡ unread 1
unfolding is_number hex_value is_parcel is_head
three = refl

five : said (48 ∷ 48 ∷ 48 ∷ 48 ∷ 49 ∷ []) ≡ unread 1
unfolding is_number hex_value is_parcel is_head
five = refl

letter : said (48 ∷ 48 ∷ 48 ∷ 103 ∷ []) ≡ unread 1
unfolding is_number hex_value is_parcel is_head
letter = refl

-- a count is passed over in the first line only, which is line 1 all the same
twice : said (111 ∷ 107 ∷ 9 ∷ 50 ∷ 10 ∷ 111 ∷ 107 ∷ 9 ∷ 50 ∷ 10 ∷ []) ≡ unread 2
unfolding is_number hex_value is_parcel is_head
twice = refl
