-- Instruments of the short way: what the parts of a line come to.
use Rattle.std.specs.Prelude.{ℕ, ◌+◌, ◌%◌, List, Bool, cond, ℤ, pos, negsuc, eqb, ltb, Option, Some, None, option_and_then}
use Rattle.fields.specs.Pack.{pack}
use Rattle.signs.specs.Signs.{folded, within}
use Rattle.items.specs.declared.Condition.{Condition}
use Rattle.words.specs.Forms.{bit_of, condition_code, jump8a, store16a, offset15a, offset15b}
use Rattle.encode.specs.Registers.{is_pm, mixed}
use Rattle.bounds.specs.Tables.{at}
use Rattle.combined.specs.declared.Glance.{Glance}
use Rattle.combined.specs.declared.Glance.TheVariants.{Pair, Word, Branch}
use Rattle.combined.specs.Single.{third_of, single_word}

-- four places from k on, added
abbrev pub four_from : List ℕ → ℕ → ℕ
four_from row k = at row k + at row (k + 1) + at row (k + 2) + at row (k + 3)

-- the three fields hold at most a, b and c, and the places after them nothing: no place adds to the sum
unfoldable pub fits_of : ℕ → ℕ → ℕ → List ℕ → Bool
fits_of a b c row =
    eqb (bit_of (ltb a (at row 1)) + bit_of (ltb b (at row 2)) + bit_of (ltb c (at row 3)) + four_from row 4 + four_from row 8 + four_from row 12 + at row 16) 0

-- a single compute of a kind that the tables have, its third field by its kind
unfoldable pub single_in : List ℕ → Option Glance
single_in row =
    option_and_then (λ most. option_and_then (λ w. cond (fits_of 15 15 most row) (Some (Word w)) None) (single_word (at row 0) (at row 1) (at row 2) (at row 3))) (third_of (at row 0))

-- 15b or 15a, by the offset
unfoldable pub access_in : ℕ → ℕ → ℤ → Bool → Glance
access_in code index offset store =
    cond (within (negsuc 63) (pos 63) offset) (Pair (pack (offset15b code index (folded 7 offset) (bit_of store)))) (Word (pack (offset15a code index (folded 32 offset) (bit_of store))))

-- 8a over an offset of 24 bits
unfoldable pub jump_seen : Condition → ℤ → Bool → Option Glance
jump_seen condition offset delayed =
    cond (within (negsuc 0x7f_ffff) (pos 0x7f_ffff) offset) (Some (Branch (pack (jump8a (condition_code condition) (bit_of delayed) (folded 24 offset))))) None

-- 16a of an index and a modifier of one DAG
unfoldable pub immediate_in : ℕ → ℕ → ℕ → Option Glance
immediate_in index modifier value = cond (mixed index modifier) None (Some (Word (pack (store16a (index % 8) (modifier % 8) (bit_of (is_pm index)) value))))
