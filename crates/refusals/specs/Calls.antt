-- Which numbers each public call may answer besides 0: those that documents 01 and 02 list for it.
use Rattle.std.specs.Prelude.{◌≡◌, true, List, [], ◌∷◌, ◌++◌, ℕ}
use Rattle.refusals.specs.Numbers.{among}

-- the build of either engine; the other calls
pub data Call : Type 0 where
  one_instruction : Call
  build : Call
  parcel_count : Call
  instruction_count : Call
  slot_check : Call
  parcel_bytes : Call
  reads_back : Call
  widen : Call

-- "row refusals (2, 4, and 17 to 19 from compute construction)"
abbrev pub reading : List ℕ
reading = 2 ∷ 4 ∷ 17 ∷ 18 ∷ 19 ∷ []

-- "DM modify: 5, 8, 6, 7. Dual move: 5, 6, 13, 14, 19 .. Memory move: 15, 16, 19", 9 of a branch's offset and 10 of a `CJump`
abbrev pub encoding : List ℕ
encoding = 5 ∷ 6 ∷ 7 ∷ 8 ∷ 9 ∷ 10 ∷ 13 ∷ 14 ∷ 15 ∷ 16 ∷ 19 ∷ []

-- labels and jumps, loops, rooms
abbrev pub building : List ℕ
building = 11 ∷ 12 ∷ 20 ∷ 21 ∷ 22 ∷ 23 ∷ 24 ∷ 25 ∷ 26 ∷ 27 ∷ 28 ∷ 29 ∷ 30 ∷ 31 ∷ 32 ∷ []

-- the table of calls
abbrev pub numbers_of : Call → List ℕ
numbers_of one_instruction = 1 ∷ reading ++ encoding
numbers_of build = 1 ∷ reading ++ encoding ++ building
numbers_of parcel_count = 1 ∷ reading ++ encoding
numbers_of instruction_count = 1 ∷ reading
numbers_of slot_check = 1 ∷ reading ++ 33 ∷ []
numbers_of parcel_bytes = 34 ∷ []
numbers_of reads_back = 35 ∷ 36 ∷ []
numbers_of widen = 1 ∷ reading ++ 36 ∷ []

-- 0, or a number of the call's
abbrev pub Listed : Call → ℕ → Type 0
Listed call number = among (0 ∷ numbers_of call) number ≡ true
