-- The private level: what a byte does to the reader and its buffer. What the input says is stated in `Parcels` alone.
use Rattle.std.specs.Prelude.{◌≡◌, Bool, true, cond, List, [], ◌∷◌, Option, Some, None, Result, Ok, Err, ℕ, ◌+◌, ◌*◌, ◌^◌, ◌≤◌, ◌<◌, length, take, replicate, set, ltb, eqb}
use Rattle.std.specs.Borrow.{Bor}
use Rattle.reader.specs.declared.Unread.{Unread}
use Rattle.reader.specs.Steps.{with_digit}
use Rattle.hex_lines.specs.declared.Part.{Part}
use Rattle.hex_lines.specs.declared.Part.TheVariants.{Digits, LetterO, Word, Count}
use Rattle.hex_lines.specs.declared.Place.{Place}
use Rattle.hex_lines.specs.declared.Reader.{Reader}
use Rattle.hex_lines.specs.Parcels.{hex_value, is_hex, Said, parcels, unread}

-- the value of a hex digit
abbrev pub hex_digit : ℕ → Option ℕ
hex_digit b = cond (is_hex b) (Some (hex_value b)) None

-- ---- what holds of a reader that was fed anything
abbrev pub Small : Part → Type 0
Small (Digits n v) = (n ≤ 4) × (v < 16 ^ n)
Small LetterO = Unit {0}
Small Word = Unit {0}
Small (Count c) = Unit {0}

pub record Fine (s : Place) : Type 0 where
  pub passed : s.passed ≤ 1
  pub parcels : s.parcels ≤ 3072
  pub small : Small s.part

abbrev pub FineIn : Result Place Unread → Type 0
FineIn (Ok s) = Fine s
FineIn (Err e) = e.line ≤ 3074

-- ---- the line at hand
-- the start of a line, after so many lines passed over and parcels
abbrev pub line_start : ℕ → ℕ → Place
line_start p k = record { passed = p; parcels = k; part = Digits 0 0 }

-- the line at hand with this so far
abbrev pub with_part : Place → Part → Place
with_part s part = record { passed = s.passed; parcels = s.parcels; part = part }

abbrev pub unread_line : Place → Unread
unread_line s = record { line = s.passed + s.parcels + 1 }

abbrev pub failed : Place → Result Place Unread
failed s = Err (unread_line s)

-- whether it has a byte
abbrev pub is_begun : Part → Bool
is_begun (Digits n v) = ltb 0 n
is_begun LetterO = true
is_begun Word = true
is_begun (Count c) = true

-- a byte of a parcel, after digits with this count and value
unfoldable pub digit_of : Place → ℕ → ℕ → ℕ → Result Place Unread
digit_of s n v b = cond (is_hex b) (cond (ltb n 4) (Ok (with_part s (Digits (n + 1) (v * 16 + hex_value b)))) (failed s)) (failed s)

-- `o`: the first byte of the first line
unfoldable pub begin_of : Place → ℕ → Result Place Unread
begin_of s n = cond (eqb (s.passed + s.parcels + n) 0) (Ok (with_part s LetterO)) (failed s)

-- the byte that is wanted, and what the line has with it
unfoldable pub word_of : Place → ℕ → ℕ → Part → Result Place Unread
word_of s b wanted part = cond (eqb b wanted) (Ok (with_part s part)) (failed s)

-- a byte of a count, which comes to this value
abbrev pub count_in : Place → Option ℕ → Result Place Unread
count_in s None = failed s
count_in s (Some v) = Ok (with_part s (Count (Some v)))

abbrev pub count_of : Place → Option ℕ → ℕ → Result Place Unread
count_of s c b = count_in s (with_digit c b)

-- a byte of a line that has this
unfoldable pub byte_in : Place → ℕ → Part → Result Place Unread
byte_in s b (Digits n v) = cond (eqb b 111) (begin_of s n) (digit_of s n v b)
byte_in s b LetterO = word_of s b 107 Word
byte_in s b Word = word_of s b 9 (Count None)
byte_in s b (Count c) = count_of s c b

abbrev pub byte_of : Place → ℕ → Result Place Unread
byte_of s b = byte_in s b s.part

-- a place and its buffer
abbrev pub mem : Result Place Unread → List ℕ → Reader
mem s ps = record { place = s; parcels = ps }

-- byte 10, of a line that has this
unfoldable pub end_in : Place → List ℕ → Part → Reader
end_in s ps (Digits n v) =
    cond (eqb n 4)
    (cond (ltb s.parcels 3072) (mem (Ok (line_start s.passed (s.parcels + 1))) (set ps s.parcels v)) (mem (failed s) ps))
    (mem (failed s) ps)
end_in s ps LetterO = mem (failed s) ps
end_in s ps Word = mem (failed s) ps
end_in s ps (Count None) = mem (failed s) ps
end_in s ps (Count (Some v)) = mem (Ok (line_start 1 s.parcels)) ps

abbrev pub end_of : Place → List ℕ → Reader
end_of s ps = end_in s ps s.part

-- any byte, in a line
unfoldable pub turn_at : Place → List ℕ → ℕ → Reader
turn_at s ps b = cond (eqb b 10) (end_of s ps) (mem (byte_of s b) ps)

-- any byte; past an unread line nothing is read
abbrev pub turn_in : Result Place Unread → List ℕ → ℕ → Reader
turn_in (Ok s) ps b = turn_at s ps b
turn_in (Err e) ps b = mem (Err e) ps

unfoldable pub turn_of : Reader → ℕ → Reader
turn_of m b = turn_in m.place m.parcels b

abbrev pub run : Reader → List ℕ → Reader
run m [] = m
run m (b ∷ bs) = run (turn_of m b) bs

-- the end of the input: a line at hand ends too
abbrev pub ended_in : Result Place Unread → List ℕ → Reader
ended_in (Ok s) ps = cond (is_begun s.part) (turn_at s ps 10) (mem (Ok s) ps)
ended_in (Err e) ps = mem (Err e) ps

unfoldable pub ended : Reader → Reader
ended m = ended_in m.place m.parcels

-- what it comes to
abbrev pub ReadsIn : Result Place Unread → List ℕ → Result (Bor (List ℕ)) Unread → Type 0
ReadsIn (Ok s) ps (Ok r) = r.now ≡ take s.parcels ps
ReadsIn (Ok s) ps (Err e) = ⊥
ReadsIn (Err u) ps (Ok r) = ⊥
ReadsIn (Err u) ps (Err e) = e ≡ u

abbrev pub Reads : Reader → Result (Bor (List ℕ)) Unread → Type 0
Reads m r = ReadsIn m.place m.parcels r

-- ---- what callers go by
-- a reader has read `past`
pub record Has (past : List ℕ) (s : Reader) : Type 0 where
  pub here : s ≡ run (mem (Ok (line_start 0 0)) (replicate 3072 0)) past

-- it has read something
abbrev pub HasSome : Reader → Type 0
HasSome s = (past : List ℕ) × Has past s

-- what is read is what the input says
abbrev pub Tells : Said → Result (Bor (List ℕ)) Unread → Type 0
Tells (parcels ps) (Ok r) = r.now ≡ ps
Tells (parcels ps) (Err e) = ⊥
Tells (unread n) (Ok r) = ⊥
Tells (unread n) (Err e) = e.line ≡ n

-- what is read is no more than a reader has room for
abbrev pub Within : Result (Bor (List ℕ)) Unread → Type 0
Within (Ok r) = length r.now ≤ 3072
Within (Err e) = e.line ≤ 3074
