-- Document 01, "Item rows": what the fields of an instruction's row make.
use Rattle.std.specs.Prelude.{ℕ, ◌%◌, List, [], ◌∷◌, Bool, cond, eqb, leb, ℤ}
use Rattle.std.specs.Int.{w32}
use Rattle.std.proofs.Common.{to_z}
use Rattle.bounds.specs.Tables.{lookup}
use Rattle.registers.specs.declared.Register.{Register}
use Rattle.registers.specs.declared.IndexRegister.{IndexRegister}
use Rattle.registers.specs.declared.ModifyRegister.{ModifyRegister}
use Rattle.registers.specs.declared.UniversalRegister.{UniversalRegister}
use Rattle.items.specs.declared.Instruction.{Instruction}
use Rattle.items.specs.declared.Instruction.TheVariants as scalar
use Rattle.items.specs.declared.VisaInstruction.{VisaInstruction}
use Rattle.items.specs.declared.VisaInstruction.TheVariants as visa
use Rattle.items.specs.declared.Condition.{Condition}
use Rattle.items.specs.declared.Condition.TheVariants.{Eq, Ne, Sv, Sz, NotSv, Always, UnsignedGt}
use Rattle.items.specs.declared.Direction.{Direction}
use Rattle.items.specs.declared.Direction.TheVariants.{Load, Store}
use Rattle.items.specs.declared.Update.{Update}
use Rattle.items.specs.declared.Update.TheVariants.{PostModify, PreModify}
use Rattle.items.specs.declared.AluOp.{AluOp}
use Rattle.items.specs.declared.AluOp.TheVariants.{Add, Sub}
use Rattle.items.specs.declared.LoopMode.{LoopMode}
use Rattle.items.specs.declared.LoopMode.TheVariants.{E2Active, F1Active}
use Rattle.items.specs.declared.LoopCount.{LoopCount}
use Rattle.items.specs.declared.LoopCount.TheVariants as count

-- A number within its bound has a line in each table below, and is a byte where a register is made of it, so that the remainders below
-- change nothing: `bytes-kept` and `counts-kept` in proofs/Kept.antt. For any other number a table's last line stands.

-- data, index and modify registers, and universal codes
abbrev pub reg : ℕ → Register
reg v = record { 0 = v % 256 }

abbrev pub index : ℕ → IndexRegister
index v = record { 0 = v % 256 }

abbrev pub modifier : ℕ → ModifyRegister
modifier v = record { 0 = v % 256 }

abbrev pub code : ℕ → UniversalRegister
code v = record { 0 = v % 256 }

-- "Enumerated values are numbered from 0 in declaration order; booleans are 0 or 1"
abbrev pub conditions : List (ℕ × Condition)
conditions = (0, Eq) ∷ (1, Ne) ∷ (2, Sv) ∷ (3, Sz) ∷ (4, NotSv) ∷ (5, Always) ∷ (6, UnsignedGt) ∷ []

abbrev pub directions : List (ℕ × Direction)
directions = (0, Load) ∷ (1, Store) ∷ []

abbrev pub updates : List (ℕ × Update)
updates = (0, PostModify) ∷ (1, PreModify) ∷ []

abbrev pub alu_ops : List (ℕ × AluOp)
alu_ops = (0, Add) ∷ (1, Sub) ∷ []

abbrev pub modes : List (ℕ × LoopMode)
modes = (0, E2Active) ∷ (1, F1Active) ∷ []

unfoldable pub condition_of : ℕ → Condition
condition_of v = lookup v conditions UnsignedGt

unfoldable pub direction_of : ℕ → Direction
direction_of v = lookup v directions Store

unfoldable pub update_of : ℕ → Update
update_of v = lookup v updates PreModify

unfoldable pub alu_op_of : ℕ → AluOp
alu_op_of v = lookup v alu_ops Sub

unfoldable pub mode_of : ℕ → LoopMode
mode_of v = lookup v modes F1Active

abbrev pub bool_of : ℕ → Bool
bool_of v = eqb v 1

-- "0 immediate or 1 register, value"
abbrev pub counts : ℕ → List (ℕ × LoopCount)
counts v = (0, count.Immediate (v % 65536)) ∷ (1, count.Register (code v)) ∷ []

unfoldable pub count_of : ℕ → ℕ → LoopCount
count_of choice v = lookup choice (counts v) (count.Register (code v))

-- "Signed fields are two's complement"
abbrev pub signed : ℕ → ℤ
signed v = to_z w32 v

-- "Kinds 0 to 12: `Instruction` from `FloatAdd` to `StoreDm`", with the fields a, b and c
unfoldable pub scalars : ℕ → ℕ → ℕ → List (ℕ × Instruction)
scalars a b c =
    (0, scalar.FloatAdd (reg a) (reg b) (reg c)) ∷
    (1, scalar.FloatSub (reg a) (reg b) (reg c)) ∷
    (2, scalar.FloatMul (reg a) (reg b) (reg c)) ∷
    (3, scalar.FloatMin (reg a) (reg b) (reg c)) ∷
    (4, scalar.FloatMax (reg a) (reg b) (reg c)) ∷
    (5, scalar.FloatNeg (reg a) (reg b)) ∷
    (6, scalar.FloatAbs (reg a) (reg b)) ∷
    (7, scalar.IntegerSub (reg a) (reg b) (reg c)) ∷
    (8, scalar.FloatPass (reg a) (reg b)) ∷
    (9, scalar.LoadImmediate (reg a) b) ∷
    (10, scalar.Move (reg a) (reg b)) ∷
    (11, scalar.LoadDm (reg a) b) ∷
    (12, scalar.StoreDm (reg a) b) ∷ []

abbrev pub scalar_of : ℕ → ℕ → ℕ → ℕ → Instruction
scalar_of kind a b c = lookup kind (scalars a b c) (scalar.StoreDm (reg a) b)

-- "16 to 39: `VisaInstruction` after `Scalar`, `Transfer` (16) to `WideNop` (39)": the transfers
unfoldable pub transfers : ℕ → ℕ → ℕ → List (ℕ × VisaInstruction)
transfers a b c =
    (16, visa.Transfer (code a) (code b)) ∷
    (17, visa.LoadImmediate (code a) b) ∷
    (18, visa.ModifyIndex (index a) (signed b)) ∷
    (19, visa.LoadDmPostModify (code a) (index b) (modifier c)) ∷
    (20, visa.StoreDmPostModify (code a) (index b) (modifier c)) ∷
    (21, visa.LoadDmPreModify (code a) (index b) (modifier c)) ∷
    (22, visa.StoreDmPreModify (code a) (index b) (modifier c)) ∷
    (23, visa.LoadDmOffset (code a) (index b) (signed c)) ∷
    (24, visa.StoreDmOffset (code a) (index b) (signed c)) ∷ []

abbrev pub transfer_of : ℕ → ℕ → ℕ → ℕ → VisaInstruction
transfer_of kind a b c = lookup kind (transfers a b c) (visa.StoreDmOffset (code a) (index b) (signed c))

-- and the others; 32 to 34 hold a compute
unfoldable pub others : ℕ → ℕ → ℕ → List (ℕ × VisaInstruction)
others a b c =
    (25, visa.IntegerSubOne (reg a) (reg b)) ∷
    (26, visa.IntegerPass (reg a) (reg b)) ∷
    (27, visa.IntegerCompareUnsigned (reg a) (reg b)) ∷
    (28, visa.JumpRelative (condition_of a) (signed b) (bool_of c)) ∷
    (29, visa.CJump a) ∷
    (30, visa.PushImmediate a) ∷
    (31, visa.LeafReturn) ∷
    (35, visa.StoreImmediate (index a) (modifier b) c) ∷
    (36, visa.BitSetMode1 a) ∷
    (37, visa.BitClearMode1 a) ∷
    (38, visa.Nop) ∷
    (39, visa.WideNop) ∷ []

abbrev pub other_of : ℕ → ℕ → ℕ → ℕ → VisaInstruction
other_of kind a b c = lookup kind (others a b c) visa.WideNop

-- the instruction of a kind 0 to 12, 16 to 31 or 35 to 39, with the fields a, b and c
unfoldable pub instruction_of : ℕ → ℕ → ℕ → ℕ → VisaInstruction
instruction_of kind a b c =
    cond (leb kind 12) (visa.Scalar (scalar_of kind a b c)) (cond (leb kind 24) (transfer_of kind a b c) (other_of kind a b c))
