-- Document 01, "Item rows": the numbers that may stand in each place of a row, by its kind.
use Rattle.std.specs.Prelude.{ℕ, ◌^◌, List, [], ◌∷◌, ◌++◌, Bool, cond, ◌&&◌, ◌||◌, eqb, leb, take, replicate}
use Rattle.bounds.specs.Tables.{lookup, at}

-- a place holds a number below its bound: in a spare place 0 alone, and where the bound is `never` nothing
abbrev pub spare : ℕ
spare = 1

abbrev pub never : ℕ
never = 0

-- "this port takes registers 0 to 15": data, index and modify registers
abbrev pub register : ℕ
register = 16

abbrev pub index : ℕ
index = 16

abbrev pub modifier : ℕ
modifier = 16

-- "Universal codes: R 00, I 10, M 20, L 30, B 40, S 50 plus number (hex); below 60"
abbrev pub code : ℕ
code = 0x60

-- any 32-bit number, a signed one too
abbrev pub word : ℕ
word = 2 ^ 32

-- "immediate count over 65535"
abbrev pub count : ℕ
count = 65536

-- "Enumerated values are numbered from 0 in declaration order; booleans are 0 or 1"
abbrev pub condition : ℕ
condition = 7

abbrev pub direction : ℕ
direction = 2

abbrev pub update : ℕ
update = 2

abbrev pub op : ℕ
op = 2

abbrev pub mode : ℕ
mode = 2

abbrev pub bool : ℕ
bool = 2

-- of a loop start: "0 immediate or 1 register"
abbrev pub choice : ℕ
choice = 2

-- of a compute: none, single or multifunction
abbrev pub form : ℕ
form = 3

-- the fields' bounds, and zeros after them up to n places
abbrev pub filled : ℕ → List ℕ → List ℕ
filled n bounds = take n (bounds ++ replicate n spare)

-- the kinds whose fields' bounds are the same in each row
unfoldable pub fields : List (ℕ × List ℕ)
fields =
    (0, register ∷ register ∷ register ∷ []) ∷  -- FloatAdd
    (1, register ∷ register ∷ register ∷ []) ∷  -- FloatSub
    (2, register ∷ register ∷ register ∷ []) ∷  -- FloatMul
    (3, register ∷ register ∷ register ∷ []) ∷  -- FloatMin
    (4, register ∷ register ∷ register ∷ []) ∷  -- FloatMax
    (5, register ∷ register ∷ []) ∷  -- FloatNeg
    (6, register ∷ register ∷ []) ∷  -- FloatAbs
    (7, register ∷ register ∷ register ∷ []) ∷  -- IntegerSub
    (8, register ∷ register ∷ []) ∷  -- FloatPass
    (9, register ∷ word ∷ []) ∷  -- LoadImmediate
    (10, register ∷ register ∷ []) ∷  -- Move
    (11, register ∷ word ∷ []) ∷  -- LoadDm
    (12, register ∷ word ∷ []) ∷  -- StoreDm
    (16, code ∷ code ∷ []) ∷  -- Transfer
    (17, code ∷ word ∷ []) ∷  -- LoadImmediate
    (18, index ∷ word ∷ []) ∷  -- ModifyIndex
    (19, code ∷ index ∷ modifier ∷ []) ∷  -- LoadDmPostModify
    (20, code ∷ index ∷ modifier ∷ []) ∷  -- StoreDmPostModify
    (21, code ∷ index ∷ modifier ∷ []) ∷  -- LoadDmPreModify
    (22, code ∷ index ∷ modifier ∷ []) ∷  -- StoreDmPreModify
    (23, code ∷ index ∷ word ∷ []) ∷  -- LoadDmOffset
    (24, code ∷ index ∷ word ∷ []) ∷  -- StoreDmOffset
    (25, register ∷ register ∷ []) ∷  -- IntegerSubOne
    (26, register ∷ register ∷ []) ∷  -- IntegerPass
    (27, register ∷ register ∷ []) ∷  -- IntegerCompareUnsigned
    (28, condition ∷ word ∷ bool ∷ []) ∷  -- JumpRelative
    (29, word ∷ []) ∷  -- CJump
    (30, word ∷ []) ∷  -- PushImmediate
    (31, []) ∷  -- LeafReturn
    (35, index ∷ modifier ∷ word ∷ []) ∷  -- StoreImmediate
    (36, word ∷ []) ∷  -- BitSetMode1
    (37, word ∷ []) ∷  -- BitClearMode1
    (38, []) ∷  -- Nop
    (39, []) ∷  -- WideNop
    (48, word ∷ word ∷ []) ∷  -- label: start, length
    (49, condition ∷ word ∷ word ∷ []) ∷  -- jump: condition, start, length
    (51, []) ∷ []  -- loop end

-- "a kind 0 to 12 or 16 to 39"
abbrev pub is_instruction : ℕ → Bool
is_instruction kind = leb kind 12 || leb 16 kind && leb kind 39

-- "These twelve are the single computes": FloatAdd to FloatPass, IntegerSubOne, IntegerPass and IntegerCompareUnsigned
abbrev pub is_compute : ℕ → Bool
is_compute kind = leb kind 8 || leb 25 kind && leb kind 27

-- "its three field places, zeros after"; "After a single's kind that is no compute the other six places aren't read"
abbrev pub single : ℕ → List ℕ
single kind =
    cond (is_compute kind) (word ∷ filled 3 (lookup kind fields (never ∷ [])))
    (cond (is_instruction kind) (word ∷ replicate 6 word) (never ∷ []))

-- "A compute takes eight places: 0 none (seven zeros ..); 1 single, then a kind ..; 2 multifunction, then seven fields"
unfoldable pub compute : ℕ → List ℕ → List ℕ
compute none row =
    filled 8
    (lookup (at row 1)
    ((0, none ∷ []) ∷
    (1, form ∷ single (at row 2)) ∷
    (2, form ∷ register ∷ register ∷ register ∷ op ∷ register ∷ register ∷ register ∷ []) ∷ [])
    (never ∷ []))

-- `DataAccess`, a half of a dual move, and `MemoryAccess`
abbrev pub data_access : List ℕ
data_access = direction ∷ register ∷ index ∷ modifier ∷ []

abbrev pub memory_access : List ℕ
memory_access = direction ∷ code ∷ index ∷ modifier ∷ update ∷ []

-- the kinds where they depend on what stands before: none is refused "in kind 32", and a loop start's value is a count or a code
abbrev pub varying : List ℕ → List (ℕ × List ℕ)
varying row =
    (32, compute never row) ∷  -- Compute
    (33, compute form row ++ (data_access ++ data_access)) ∷  -- DualMove
    (34, compute form row ++ memory_access) ∷  -- MemoryMove
    (50, choice ∷ cond (eqb (at row 1) 1) code count ∷ mode ∷ []) ∷ []  -- loop start

-- the bounds of the sixteen places after a row's kind
unfoldable pub bounds_of : List ℕ → List ℕ
bounds_of row = filled 16 (lookup (at row 0) (varying row ++ fields) (never ∷ []))
