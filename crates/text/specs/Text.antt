-- Document 01, "The bench program": what it prints, byte by byte. Every line it prints ends with byte 10.
use Rattle.std.specs.Prelude.{◌≡◌, cond, List, [], ◌∷◌, ◌++◌, ℕ, zero, suc, ◌+◌, ◌/◌, ◌%◌, ◌≤◌, length, take, ℤ, pos, negsuc, ltb, eqb}
use denote.Ref.{at_last}
use Rattle.io.specs.Digits.{hex_digit_ascii, last_digits}
use Rattle.refusals.specs.declared.Told.{Told}
use Rattle.text.specs.declared.Text.{Text}

-- a number below 10^k in decimal, without leading zeros
abbrev pub decimal_below : ℕ → ℕ → List ℕ
decimal_below zero n = []
decimal_below (suc k) n = cond (ltb n 10) (hex_digit_ascii n ∷ []) (decimal_below k (n / 10) ++ hex_digit_ascii (n % 10) ∷ [])

unfoldable pub decimal : ℕ → List ℕ
decimal n = decimal_below 20 n

-- with a sign where it is negative
abbrev pub signed : ℤ → List ℕ
signed (pos n) = decimal n
signed (negsuc n) = 45 ∷ decimal (suc n)

-- a tab and a detail
abbrev pub detail : ℤ → List ℕ
detail z = 9 ∷ signed z

-- "one parcel a line in four hex digits"
unfoldable pub parcel_line : ℕ → List ℕ
parcel_line p = last_digits 16 4 p ++ 10 ∷ []

-- the texts of a list, one after the other
abbrev pub each : (ℕ → List ℕ) → List ℕ → List ℕ
each text [] = []
each text (x ∷ xs) = text x ++ each text xs

-- `ok`, `refused`, `unread`, each with a tab
abbrev pub ok : List ℕ
ok = 111 ∷ 107 ∷ 9 ∷ []

abbrev pub refused : List ℕ
refused = 114 ∷ 101 ∷ 102 ∷ 117 ∷ 115 ∷ 101 ∷ 100 ∷ 9 ∷ []

abbrev pub unread : List ℕ
unread = 117 ∷ 110 ∷ 114 ∷ 101 ∷ 97 ∷ 100 ∷ 9 ∷ []

-- "`ok`, tab, count, then one parcel a line in four hex digits"
abbrev pub ok_text : ℕ → List ℕ → List ℕ
ok_text count parcels = ok ++ decimal count ++ 10 ∷ [] ++ each parcel_line parcels

-- "`refused`, tab, number, tab, first detail, tab, second"; "`refused` lines get a last field"
abbrev pub refusal_text : ℕ → ℤ → ℤ → ℤ → List ℕ
refusal_text number first second third = refused ++ decimal number ++ detail first ++ detail second ++ detail third ++ 10 ∷ []

abbrev pub refused_text : Told → List ℕ
refused_text t = refusal_text t.number t.first t.second t.third

-- an answer in numbers, with what stands in the parcels' room
abbrev pub answer_text : Told → List ℕ → List ℕ
answer_text t parcels = cond (eqb t.number 0) (ok_text t.count (take t.count parcels)) (refused_text t)

-- "`unread`, tab, line number from 1"
abbrev pub unread_text : ℕ → List ℕ
unread_text line = unread ++ decimal line ++ 10 ∷ []

-- bytes are put into a buffer after what stands in front of its place, which is then after them. (`at_last x l` is the reference x at the list l.)
pub record Puts (old : Text) (bytes : List ℕ) (new : Text) : Type 0 where
  pub after : new.at ≡ old.at + length bytes
  pub front : take new.at new.out.now ≡ take old.at old.out.now ++ bytes
  pub long : length new.out.now ≡ length old.out.now
  pub same : new.out ≡ at_last old.out new.out.now

-- a text of r bytes stands at the front of a buffer; none is longer than `ok`, a tab, twenty digits, byte 10 and 3,072 lines of five bytes
pub record Shows (text buffer : List ℕ) (r : ℕ) : Type 0 where
  pub front : take r buffer ≡ text
  pub within : r ≤ 15384
