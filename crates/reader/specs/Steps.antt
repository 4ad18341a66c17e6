-- The private level: what a byte does to the reader and its two buffers. What the input says is stated in `Lines` alone.
use Rattle.std.specs.Prelude.{◌≡◌, Bool, true, false, cond, List, [], ◌∷◌, Option, Some, None, is_some, Result, Ok, Err, ℕ, ◌+◌, ◌-◌, ◌*◌, ◌≤◌, ◌<◌, ◌^◌, length, take, replicate, set, ltb, leb, eqb}
use Rattle.reader.specs.declared.Place.{Place}
use Rattle.reader.specs.declared.Read.{Read}
use Rattle.reader.specs.declared.Reader.{Reader}
use Rattle.reader.specs.declared.Unread.{Unread}
use Rattle.reader.specs.Lines.{is_digit, Said, rows, unread}

-- ---- what holds of a reader that was fed anything
abbrev pub Early : Option ℕ → Type 0
Early None = Unit {0}
Early (Some n) = (0 < n) × (n ≤ 2)

pub record Fine (s : Place) : Type 0 where
  pub items : s.items ≤ 512
  pub field : s.field ≤ 16
  pub name : Early s.name
  pub names : s.start + s.bytes ≤ 2048

abbrev pub FineIn : Result Place Unread → Type 0
FineIn (Ok s) = Fine s
FineIn (Err e) = e.line ≤ 513

-- ---- the line at hand
-- the start of a line, after so many items and name bytes
abbrev pub line_start : ℕ → ℕ → Place
line_start i start = record { items = i; field = 0; name = None; value = None; start = start; bytes = 0 }

abbrev pub unread_line : Place → Unread
unread_line s = record { line = s.items + 1 }

abbrev pub failed : Place → Result Place Unread
failed s = Err (unread_line s)

-- whether it has a digit, or a field that is over
abbrev pub is_begun : Place → Bool
is_begun s = cond (is_some s.value) true (ltb 0 s.field)

-- whether a name that may stand at a field stands at this one
abbrev pub is_at : Option ℕ → ℕ → Bool
is_at None f = false
is_at (Some n) f = eqb f n

abbrev pub in_name : Place → Bool
in_name s = is_at s.name s.field

-- the value of the digits so far: 0 before the first
abbrev pub value_so_far : Option ℕ → ℕ
value_so_far None = 0
value_so_far (Some v) = v

-- their value with a byte more: none where that is no digit, or the value has over 32 bits
unfoldable pub with_digit : Option ℕ → ℕ → Option ℕ
with_digit v b = cond (is_digit b) (cond (ltb (value_so_far v * 10 + (b - 48)) (2 ^ 32)) (Some (value_so_far v * 10 + (b - 48))) None) None

-- a byte of a number, which comes to this value
abbrev pub digit_in : Place → Option ℕ → Result Place Unread
digit_in s None = failed s
digit_in s (Some v) = Ok (record { items = s.items; field = s.field; name = s.name; value = Some v; start = s.start; bytes = s.bytes })

abbrev pub digit_of : Place → ℕ → Result Place Unread
digit_of s b = digit_in s (with_digit s.value b)

-- a place, and the buffer that was written
pub record With : Type 0 where
  pub place : Result Place Unread
  pub buffer : List ℕ

abbrev pub with : Result Place Unread → List ℕ → With
with s l = record { place = s; buffer = l }

-- a byte of a name
unfoldable pub letter_of : Place → ℕ → List ℕ → With
letter_of s b names =
    cond (ltb (s.start + s.bytes) 2048)
    (with (Ok (record { items = s.items; field = s.field; name = s.name; value = s.value; start = s.start; bytes = s.bytes + 1 })) (set names (s.start + s.bytes) b))
    (with (failed s) names)

-- how many numbers a line of the kind has before its name; as many as a row has, where it has no name
unfoldable pub name_at : ℕ → ℕ
name_at kind = cond (eqb kind 48) 1 (cond (eqb kind 49) 2 17)

-- which field of it is the name
unfoldable pub name_of_kind : ℕ → Option ℕ
name_of_kind kind = cond (eqb kind 48) (Some 1) (cond (eqb kind 49) (Some 2) None)

-- which one it is in the line at hand, once the number at hand is over
abbrev pub name_after : Place → ℕ → Option ℕ
name_after s v = cond (eqb s.field 0) (name_of_kind v) s.name

-- a tab, after a number with this value
unfoldable pub tab_in : Place → List ℕ → Option ℕ → With
tab_in s rs None = with (failed s) rs
tab_in s rs (Some v) =
    cond (ltb s.field 16)
    (with (Ok (record { items = s.items; field = s.field + 1; name = name_after s v; value = None; start = s.start; bytes = s.bytes })) (set rs (s.items * 17 + s.field) v))
    (with (failed s) rs)

abbrev pub tab_of : Place → List ℕ → With
tab_of s rs = tab_in s rs s.value

-- byte 10, after a number with this value
abbrev pub end_in : Place → List ℕ → Option ℕ → With
end_in s rs None = with (failed s) rs
end_in s rs (Some v) =
    cond (is_some (name_after s v))
    (with (failed s) rs)
    (with (Ok (line_start (s.items + 1) (s.start + s.bytes))) (set rs (s.items * 17 + s.field) v))

-- byte 10
unfoldable pub end_of : Place → List ℕ → With
end_of s rs =
    cond (in_name s)
    (with (Ok (line_start (s.items + 1) (s.start + s.bytes))) (set (set rs (s.items * 17 + s.field) s.start) (s.items * 17 + s.field + 1) s.bytes))
    (end_in s rs s.value)

-- a place and both buffers
abbrev pub mem : Result Place Unread → List ℕ → List ℕ → Reader
mem s rs ns = record { place = s; rows = rs; names = ns }

abbrev pub mem_in_rows : With → List ℕ → Reader
mem_in_rows w ns = mem w.place w.buffer ns

abbrev pub in_names : With → List ℕ → Reader
in_names w rs = mem w.place rs w.buffer

-- any byte, in a line
unfoldable pub turn_at : Place → List ℕ → List ℕ → ℕ → Reader
turn_at s rs ns b =
    cond (leb 512 s.items) (mem (failed s) rs ns)
    (cond (eqb b 10) (mem_in_rows (end_of s rs) ns)
    (cond (eqb b 9) (mem_in_rows (tab_of s rs) ns)
    (cond (in_name s) (in_names (letter_of s b ns) rs)
    (mem (digit_of s b) rs ns))))

-- any byte; past an unread line nothing is read
abbrev pub turn_in : Result Place Unread → List ℕ → List ℕ → ℕ → Reader
turn_in (Ok s) rs ns b = turn_at s rs ns b
turn_in (Err e) rs ns b = mem (Err e) rs ns

unfoldable pub turn_of : Reader → ℕ → Reader
turn_of m b = turn_in m.place m.rows m.names b

abbrev pub run : Reader → List ℕ → Reader
run m [] = m
run m (b ∷ bs) = run (turn_of m b) bs

-- the end of the input: a line at hand ends too
abbrev pub ended_in : Result Place Unread → List ℕ → List ℕ → Reader
ended_in (Ok s) rs ns = cond (is_begun s) (turn_at s rs ns 10) (mem (Ok s) rs ns)
ended_in (Err e) rs ns = mem (Err e) rs ns

unfoldable pub ended : Reader → Reader
ended m = ended_in m.place m.rows m.names

-- what it comes to
abbrev pub ReadsIn : Result Place Unread → List ℕ → List ℕ → Result Read Unread → Type 0
ReadsIn (Ok s) rs ns (Ok r) = (r.rows.now ≡ take (s.items * 17) rs) × (r.names.now ≡ take s.start ns)
ReadsIn (Ok s) rs ns (Err e) = ⊥
ReadsIn (Err u) rs ns (Ok r) = ⊥
ReadsIn (Err u) rs ns (Err e) = e ≡ u

abbrev pub Reads : Reader → Result Read Unread → Type 0
Reads m r = ReadsIn m.place m.rows m.names r

-- ---- what callers go by
-- a reader has read `past`
pub record Has (past : List ℕ) (s : Reader) : Type 0 where
  pub here : s ≡ run (mem (Ok (line_start 0 0)) (replicate 8704 0) (replicate 2048 0)) past

-- it has read something
abbrev pub HasSome : Reader → Type 0
HasSome s = (past : List ℕ) × Has past s

-- what is read is what the input says
abbrev pub Tells : Said → Result Read Unread → Type 0
Tells (rows rs ns) (Ok r) = (r.rows.now ≡ rs) × (r.names.now ≡ ns)
Tells (rows rs ns) (Err e) = ⊥
Tells (unread n) (Ok r) = ⊥
Tells (unread n) (Err e) = e.line ≡ n

-- what is read is no more than a reader has room for
abbrev pub Within : Result Read Unread → Type 0
Within (Ok r) = (length r.rows.now ≤ 8704) × (length r.names.now ≤ 2048)
Within (Err e) = e.line ≤ 513
