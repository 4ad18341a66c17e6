-- Document 01, "The bench program": what its input says, by lines and fields.
use Rattle.std.specs.Prelude.{Bool, true, false, ◌&&◌, cond, List, [], ◌∷◌, ◌++◌, map, ℕ, ◌+◌, ◌-◌, ◌*◌, ◌^◌, length, take, get_or, replicate, ltb, leb, eqb}

-- a byte at the front of the first part
abbrev pub onto : ℕ → List (List ℕ) → List (List ℕ)
onto b [] = (b ∷ []) ∷ []
onto b (p ∷ ps) = (b ∷ p) ∷ ps

-- "It reads lines (ended by byte 10, the last perhaps not)"
abbrev pub lines : List ℕ → List (List ℕ)
lines [] = []
lines (b ∷ bs) = cond (eqb b 10) ([] ∷ lines bs) (onto b (lines bs))

-- "fields parted by tabs"
abbrev pub fields : List ℕ → List (List ℕ)
fields [] = [] ∷ []
fields (b ∷ bs) = cond (eqb b 9) ([] ∷ fields bs) (onto b (fields bs))

-- "unsigned decimal below 2^32"
abbrev pub is_digit : ℕ → Bool
is_digit b = leb 48 b && leb b 57

abbrev pub every : {A : Type 0} → (A → Bool) → List A → Bool
every test [] = true
every test (a ∷ rest) = test a && every test rest

abbrev pub value_from : ℕ → List ℕ → ℕ
value_from v [] = v
value_from v (b ∷ bs) = value_from (v * 10 + (b - 48)) bs

abbrev pub value : List ℕ → ℕ
value f = value_from 0 f

unfoldable pub is_number : List ℕ → Bool
is_number f = ltb 0 (length f) && (every is_digit f && ltb (value f) (2 ^ 32))

-- what a line says: the numbers of its row; or those before the name, and the name; or nothing that can be read
pub data Line : Type 0 where
  numbers : List ℕ → Line
  named : List ℕ → List ℕ → Line
  unreadable : Line

-- "over 17 fields [..] or a field that is no such number"
unfoldable pub plain : List (List ℕ) → Line
plain fs = cond (leb (length fs) 17 && every is_number fs) (numbers (map value fs)) unreadable

-- n numbers, and then the name itself
unfoldable pub naming : ℕ → List (List ℕ) → Line
naming n fs = cond (eqb (length fs) (n + 1) && every is_number (take n fs)) (named (map value (take n fs)) (get_or fs n [])) unreadable

abbrev pub kind_of : List (List ℕ) → ℕ
kind_of [] = 0
kind_of (f ∷ fs) = value f

-- "Kinds 48 and 49 have two and three fields, the last the name itself"
unfoldable pub line_of : List (List ℕ) → Line
line_of fs = cond (eqb (kind_of fs) 48) (naming 1 fs) (cond (eqb (kind_of fs) 49) (naming 2 fs) (plain fs))

abbrev pub is_read_line : Line → Bool
is_read_line (numbers ns) = true
is_read_line (named ns name) = true
is_read_line unreadable = false

abbrev pub name_in : Line → List ℕ
name_in (numbers ns) = []
name_in (named ns name) = name
name_in unreadable = []

-- "a row without its trailing zeros"; "label (name start, length); jump (condition, start, length)"
abbrev pub filled : List ℕ → List ℕ
filled ns = ns ++ replicate (17 - length ns) 0

abbrev pub row_in : ℕ → Line → List ℕ
row_in start (numbers ns) = filled ns
row_in start (named ns name) = filled (ns ++ start ∷ length name ∷ [])
row_in start unreadable = []

-- "At most 512 items and 2,048 name bytes": a line that can be read, after so many items and with the names so far
unfoldable pub fits : ℕ → List ℕ → Line → Bool
fits items names l = is_read_line l && (ltb items 512 && leb (length names + length (name_in l)) 2048)

-- what the input says: rows and names; or that a line, numbered from 1, is unread
pub data Said : Type 0 where
  rows : List ℕ → List ℕ → Said
  unread : ℕ → Said

-- the lines in turn, after so many items with these rows and names: "the first line past these [..] prints only `unread`"
abbrev pub said_from : ℕ → List ℕ → List ℕ → List (List ℕ) → Said
said_from i rs names [] = rows rs names
said_from i rs names (l ∷ ls) =
    cond (fits i names (line_of (fields l)))
    (said_from (i + 1) (rs ++ row_in (length names) (line_of (fields l))) (names ++ name_in (line_of (fields l))) ls)
    (unread (i + 1))

abbrev pub said : List ℕ → Said
said input = said_from 0 [] [] (lines input)
