-- Document 01, "Field tables": each form as the fields that tile its 96, 48, 32 or 16 bits, from high to low.
use Rattle.std.specs.Prelude.{ℕ, ◌/◌, ◌%◌, Bool, true, false, List, [], ◌∷◌}
use Rattle.fields.specs.Pack.{Field, fixed, operand}
use Rattle.items.specs.declared.Condition.{Condition}
use Rattle.items.specs.declared.Condition.TheVariants.{Eq, Ne, Sv, Sz, NotSv, Always, UnsignedGt}
use Rattle.items.specs.declared.Direction.{Direction}
use Rattle.items.specs.declared.Direction.TheVariants.{Load, Store}
use Rattle.items.specs.declared.Update.{Update}
use Rattle.items.specs.declared.Update.TheVariants.{PostModify, PreModify}
use Rattle.items.specs.declared.LoopMode.{LoopMode}
use Rattle.items.specs.declared.LoopMode.TheVariants.{E2Active, F1Active}

-- a flag in a bit
abbrev pub bit_of : Bool → ℕ
bit_of true = 1
bit_of false = 0

-- COND of Type 8a
abbrev pub condition_code : Condition → ℕ
condition_code Eq = 0
condition_code Ne = 16
condition_code Sv = 7
condition_code Sz = 8
condition_code NotSv = 23
condition_code Always = 31
condition_code UnsignedGt = 18

-- D: 1 stores
abbrev pub is_store : Direction → Bool
is_store Load = false
is_store Store = true

-- U: 1 modifies after the access
abbrev pub is_post : Update → Bool
is_post PostModify = true
is_post PreModify = false

-- "F1 mode bit 23"
abbrev pub is_f1 : LoopMode → Bool
is_f1 E2Active = false
is_f1 F1Active = true

-- Three parcels.
-- "Compute word (2a): bit 40, 11111 in 37:33, field in 22:0"
abbrev pub type2a : List Field → List Field
type2a compute = fixed 47 41 0 ∷ fixed 40 40 1 ∷ fixed 39 38 0 ∷ fixed 37 33 0b11111 ∷ fixed 32 23 0 ∷ compute

-- a compute's 23 bits as one number
abbrev pub whole : ℕ → List Field
whole field = operand 22 0 field ∷ []

-- "17a (0f)", "LoadDm (10), StoreDm (11)": the opcode, the register's code in 38:32, 32 bits of data
abbrev pub long17a : ℕ → ℕ → ℕ → List Field
long17a opcode code value = fixed 47 40 opcode ∷ fixed 39 39 0 ∷ operand 38 32 code ∷ operand 31 0 value ∷ []

-- "Scalar Move (70)", 5a: the source parted over 42:38, 32 and 31, the destination in 29:23
abbrev pub move5a : ℕ → ℕ → List Field
move5a dst src =
    fixed 47 43 0b01110 ∷ operand 42 38 (src / 4) ∷ fixed 37 33 0b11111 ∷ operand 32 32 (src / 2 % 2) ∷ operand 31 31 (src % 2)
    ∷ fixed 30 30 0 ∷ operand 29 23 dst ∷ fixed 22 0 0 ∷ []

-- 19a: SC 01 and W 1, G in 38, the index in 34:32, the offset
abbrev pub modify19a : ℕ → ℕ → List Field
modify19a index offset =
    fixed 47 40 0x15 ∷ fixed 39 39 1 ∷ operand 38 38 (index / 8) ∷ fixed 37 35 0 ∷ operand 34 32 (index % 8) ∷ operand 31 0 offset ∷ []

-- 15a: the index, D in 40, the code in 38:32, 32 bits of offset
abbrev pub offset15a : ℕ → ℕ → ℕ → ℕ → List Field
offset15a code index offset store =
    fixed 47 44 0b1010 ∷ operand 43 41 index ∷ operand 40 40 store ∷ fixed 39 39 0 ∷ operand 38 32 code ∷ operand 31 0 offset ∷ []

-- "8a (07)": COND in 37:33, J in 26, 24 bits of offset
abbrev pub jump8a : ℕ → ℕ → ℕ → List Field
jump8a condition delayed offset =
    fixed 47 40 0x07 ∷ fixed 39 38 0 ∷ operand 37 33 condition ∷ fixed 32 27 0 ∷ operand 26 26 delayed ∷ fixed 25 24 0 ∷ operand 23 0 offset ∷ []

-- 25a: J in 34, 24 bits of address
abbrev pub call25a : ℕ → List Field
call25a target = fixed 47 40 0x18 ∷ fixed 39 35 0 ∷ fixed 34 34 1 ∷ fixed 33 24 0 ∷ operand 23 0 target ∷ []

-- 16a: the index, the modifier, G in 37, 32 bits of data
abbrev pub store16a : ℕ → ℕ → ℕ → ℕ → List Field
store16a index modifier g value =
    fixed 47 44 0b1001 ∷ operand 43 41 index ∷ operand 40 38 modifier ∷ operand 37 37 g ∷ fixed 36 32 0 ∷ operand 31 0 value ∷ []

-- 18a: BOP in 39:37 (0 sets, 1 clears), SREG in 35:32 (MODE1 is 2), the mask
abbrev pub mode18a : ℕ → ℕ → List Field
mode18a bop mask = fixed 47 40 0x14 ∷ fixed 39 37 bop ∷ fixed 36 36 0 ∷ fixed 35 32 2 ∷ operand 31 0 mask ∷ []

-- 1a: DMD in 44, DMI, DMM, PMD in 37, DMDREG, PMI, PMM, PMDREG, the compute's 23 bits
abbrev pub dual1a : ℕ → ℕ → ℕ → ℕ → ℕ → ℕ → ℕ → ℕ → List Field → List Field
dual1a dmd dmi dmm pmd dmdreg pmi pmm pmdreg compute =
    fixed 47 45 0b001 ∷ operand 44 44 dmd ∷ operand 43 41 dmi ∷ operand 40 38 dmm ∷ operand 37 37 pmd ∷ operand 36 33 dmdreg
    ∷ operand 32 30 pmi ∷ operand 29 27 pmm ∷ operand 26 23 pmdreg ∷ compute

-- 3a: U in 44, the index, the modifier, COND, G in 32, D in 31, L 0, the code in 29:23, the compute's 23 bits
abbrev pub memory3a : ℕ → ℕ → ℕ → ℕ → ℕ → ℕ → List Field → List Field
memory3a u index modifier g d code compute =
    fixed 47 45 0b010 ∷ operand 44 44 u ∷ operand 43 41 index ∷ operand 40 38 modifier ∷ fixed 37 33 0b11111 ∷ operand 32 32 g ∷ operand 31 31 d
    ∷ fixed 30 30 0 ∷ operand 29 23 code ∷ compute

-- "Loop start (12a): 0c with count in 39:24, or 0d with code in 38:32; F1 mode bit 23; offset in 22:0"
abbrev pub loop12a : ℕ → ℕ → ℕ → List Field
loop12a count f1 offset = fixed 47 40 0x0c ∷ operand 39 24 count ∷ operand 23 23 f1 ∷ operand 22 0 offset ∷ []

abbrev pub register_loop12a : ℕ → ℕ → ℕ → List Field
register_loop12a code f1 offset =
    fixed 47 40 0x0d ∷ fixed 39 39 0 ∷ operand 38 32 code ∷ fixed 31 24 0 ∷ operand 23 23 f1 ∷ operand 22 0 offset ∷ []

-- 21a: "39 gives 0000 three times"
abbrev pub nop21a : List Field
nop21a = fixed 47 0 0 ∷ []

-- Two parcels.
-- 5b: as 5a, a parcel lower, and the marker
abbrev pub transfer5b : ℕ → ℕ → List Field
transfer5b dst src =
    fixed 31 27 0b01110 ∷ operand 26 22 (src / 4) ∷ fixed 21 17 0b11111 ∷ operand 16 16 (src / 2 % 2) ∷ operand 15 15 (src % 2)
    ∷ fixed 14 14 0 ∷ operand 13 7 dst ∷ fixed 6 0 0b0111111 ∷ []

-- 3b: as 3a with U and G 0, a parcel lower, and the marker
abbrev pub modify3b : ℕ → ℕ → ℕ → ℕ → List Field
modify3b code index modifier store =
    fixed 31 29 0b010 ∷ fixed 28 28 0 ∷ operand 27 25 index ∷ operand 24 22 modifier ∷ fixed 21 17 0b11111 ∷ fixed 16 16 0 ∷ operand 15 15 store
    ∷ fixed 14 14 0 ∷ operand 13 7 code ∷ fixed 6 0 0b0111111 ∷ []

-- "A DM offset of -64 to 63 is 15b": the index, D in 24, the code in 13:7, seven bits of offset
abbrev pub offset15b : ℕ → ℕ → ℕ → ℕ → List Field
offset15b code index offset store =
    fixed 31 28 0b1001 ∷ operand 27 25 index ∷ operand 24 24 store ∷ fixed 23 20 0 ∷ fixed 19 19 1 ∷ fixed 18 14 0 ∷ operand 13 7 code ∷ operand 6 0 offset ∷ []

-- One parcel.
-- 3c: the index, the modifier, D in 5, bit 4, the data register
abbrev pub modify3c : ℕ → ℕ → ℕ → ℕ → List Field
modify3c code index modifier store =
    fixed 15 12 0b1001 ∷ operand 11 9 index ∷ operand 8 6 modifier ∷ operand 5 5 store ∷ fixed 4 4 1 ∷ operand 3 0 code ∷ []

-- 21c: "38 gives 0001"
abbrev pub nop21c : List Field
nop21c = fixed 15 0 1 ∷ []

-- Six parcels.
-- "`LeafReturn`: 4dfe 0e3f 083f 343f 1901 0001"
abbrev pub leaf_return : List Field
leaf_return = fixed 95 80 0x4dfe ∷ fixed 79 64 0x0e3f ∷ fixed 63 48 0x083f ∷ fixed 47 32 0x343f ∷ fixed 31 16 0x1901 ∷ fixed 15 0 0x0001 ∷ []
