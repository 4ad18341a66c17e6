-- Document 01, "Item rows": the kind of each instruction, and what goes by the kind.
use Rattle.std.specs.Prelude.{ℕ, Bool, false, cond, ◌&&◌, ◌||◌, eqb}
use Rattle.items.specs.declared.Instruction.{Instruction}
use Rattle.items.specs.declared.Instruction.TheVariants as scalar
use Rattle.items.specs.declared.VisaInstruction.{VisaInstruction}
use Rattle.items.specs.declared.VisaInstruction.TheVariants.{Scalar, Transfer, LoadImmediate, ModifyIndex, LoadDmPostModify, StoreDmPostModify, LoadDmPreModify, StoreDmPreModify, LoadDmOffset, StoreDmOffset, IntegerSubOne, IntegerPass, IntegerCompareUnsigned, JumpRelative, CJump, PushImmediate, LeafReturn, Compute, DualMove, MemoryMove, StoreImmediate, BitSetMode1, BitClearMode1, Nop, WideNop}
use Rattle.items.specs.declared.Kind.{Kind}

-- "Kinds 0 to 12: `Instruction` from `FloatAdd` to `StoreDm`"
abbrev pub scalar_kind : Instruction → ℕ
scalar_kind (scalar.FloatAdd d l r) = 0
scalar_kind (scalar.FloatSub d l r) = 1
scalar_kind (scalar.FloatMul d l r) = 2
scalar_kind (scalar.FloatMin d l r) = 3
scalar_kind (scalar.FloatMax d l r) = 4
scalar_kind (scalar.FloatNeg d s) = 5
scalar_kind (scalar.FloatAbs d s) = 6
scalar_kind (scalar.IntegerSub d l r) = 7
scalar_kind (scalar.FloatPass d s) = 8
scalar_kind (scalar.LoadImmediate d v) = 9
scalar_kind (scalar.Move d s) = 10
scalar_kind (scalar.LoadDm d a) = 11
scalar_kind (scalar.StoreDm s a) = 12

-- a kind of which no instruction is a delayed jump
abbrev pub plain : ℕ → Kind
plain number = record { number = number; delayed = false }

-- "16 to 39: `VisaInstruction` after `Scalar`, `Transfer` (16) to `WideNop` (39)"; and whether it is a delayed `JumpRelative`
abbrev pub kind_of : VisaInstruction → Kind
kind_of (Scalar i) = plain (scalar_kind i)
kind_of (Transfer d s) = plain 16
kind_of (LoadImmediate d v) = plain 17
kind_of (ModifyIndex i z) = plain 18
kind_of (LoadDmPostModify r i m) = plain 19
kind_of (StoreDmPostModify r i m) = plain 20
kind_of (LoadDmPreModify r i m) = plain 21
kind_of (StoreDmPreModify r i m) = plain 22
kind_of (LoadDmOffset r i z) = plain 23
kind_of (StoreDmOffset r i z) = plain 24
kind_of (IntegerSubOne d s) = plain 25
kind_of (IntegerPass d s) = plain 26
kind_of (IntegerCompareUnsigned l r) = plain 27
kind_of (JumpRelative c z delayed) = record { number = 28; delayed = delayed }
kind_of (CJump t) = plain 29
kind_of (PushImmediate v) = plain 30
kind_of LeafReturn = plain 31
kind_of (Compute k) = plain 32
kind_of (DualMove k dm pm) = plain 33
kind_of (MemoryMove k a) = plain 34
kind_of (StoreImmediate i m v) = plain 35
kind_of (BitSetMode1 v) = plain 36
kind_of (BitClearMode1 v) = plain 37
kind_of Nop = plain 38
kind_of WideNop = plain 39

-- "`JumpRelative`, `CJump` and `LeafReturn`", which may not stand between a loop start and its end
abbrev pub is_branch : Kind → Bool
is_branch k = eqb k.number 28 || (eqb k.number 29 || eqb k.number 31)

-- "each delayed `JumpRelative` and each `CJump`", which two delay slots follow
abbrev pub has_slots : Kind → Bool
has_slots k = eqb k.number 29 || eqb k.number 28 && k.delayed

-- "`LeafReturn` .. counted as four instructions"
abbrev pub issued : Kind → ℕ
issued k = cond (eqb k.number 31) 4 1
