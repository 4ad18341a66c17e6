-- The numbers of an instruction lie in the ranges that a row gives them: registers below 16, codes below 0x60, numbers of 32 bits,
-- a compute's field of 23 bits.
use Prim.Native.Nat.{◌<◌, ◌^◌}
use lib.IntN.{ℤ}
use lib.Signed.{mag}
use Rattle.registers.specs.declared.IndexRegister.{IndexRegister}
use Rattle.registers.specs.declared.ModifyRegister.{ModifyRegister}
use Rattle.registers.specs.declared.UniversalRegister.{UniversalRegister}
use Rattle.items.specs.declared.FloatMulAlu.{FloatMulAlu}
use Rattle.items.specs.declared.Instruction.{Instruction}
use Rattle.std.specs.Prelude.{Some, None, Option}
use Rattle.items.specs.declared.Compute.{Compute}
use Rattle.items.specs.declared.DataAccess.{DataAccess}
use Rattle.items.specs.declared.MemoryAccess.{MemoryAccess}
use Rattle.items.specs.declared.LoopCount.{LoopCount}
use Rattle.items.specs.declared.LoopCount.TheVariants.{Immediate, Register}
use Rattle.items.specs.declared.VisaInstruction.{VisaInstruction}
use Rattle.items.specs.declared.Instruction.TheVariants as Scalar
use Rattle.items.specs.declared.VisaInstruction.TheVariants as Visa

abbrev pub RangedScalar : Instruction → Type 0
RangedScalar (Scalar.FloatAdd dst lhs rhs) = (dst.0 < 16) × (lhs.0 < 16) × (rhs.0 < 16)
RangedScalar (Scalar.FloatSub dst lhs rhs) = (dst.0 < 16) × (lhs.0 < 16) × (rhs.0 < 16)
RangedScalar (Scalar.FloatMul dst lhs rhs) = (dst.0 < 16) × (lhs.0 < 16) × (rhs.0 < 16)
RangedScalar (Scalar.FloatMin dst lhs rhs) = (dst.0 < 16) × (lhs.0 < 16) × (rhs.0 < 16)
RangedScalar (Scalar.FloatMax dst lhs rhs) = (dst.0 < 16) × (lhs.0 < 16) × (rhs.0 < 16)
RangedScalar (Scalar.FloatNeg dst src) = (dst.0 < 16) × (src.0 < 16)
RangedScalar (Scalar.FloatAbs dst src) = (dst.0 < 16) × (src.0 < 16)
RangedScalar (Scalar.IntegerSub dst lhs rhs) = (dst.0 < 16) × (lhs.0 < 16) × (rhs.0 < 16)
RangedScalar (Scalar.FloatPass dst src) = (dst.0 < 16) × (src.0 < 16)
RangedScalar (Scalar.LoadImmediate dst value) = (dst.0 < 16) × (value < 2 ^ 32)
RangedScalar (Scalar.Move dst src) = (dst.0 < 16) × (src.0 < 16)
RangedScalar (Scalar.LoadDm dst address) = (dst.0 < 16) × (address < 2 ^ 32)
RangedScalar (Scalar.StoreDm src address) = (src.0 < 16) × (address < 2 ^ 32)

abbrev pub RangedAccess : UniversalRegister → IndexRegister → ModifyRegister → Type 0
RangedAccess register index modifier = (register.0 < 0x60) × (index.0 < 16) × (modifier.0 < 16)

abbrev pub RangedOffset : UniversalRegister → IndexRegister → ℤ → Type 0
RangedOffset register index offset = (register.0 < 0x60) × (index.0 < 16) × (mag offset < 2 ^ 31)

abbrev pub RangedCompute : Option Compute → Type 0
RangedCompute None = Unit
RangedCompute (Some k) = k.field < 2 ^ 23

abbrev pub RangedData : DataAccess → Type 0
RangedData access = (access.register.0 < 16) × (access.index.0 < 16) × (access.modifier.0 < 16)

abbrev pub RangedMemory : MemoryAccess → Type 0
RangedMemory access = RangedAccess access.register access.index access.modifier

abbrev pub Ranged : VisaInstruction → Type 0
Ranged (Visa.Scalar i) = RangedScalar i
Ranged (Visa.Transfer dst src) = (dst.0 < 0x60) × (src.0 < 0x60)
Ranged (Visa.LoadImmediate dst value) = (dst.0 < 0x60) × (value < 2 ^ 32)
Ranged (Visa.ModifyIndex index offset) = (index.0 < 16) × (mag offset < 2 ^ 31)
Ranged (Visa.LoadDmPostModify dst index modifier) = RangedAccess dst index modifier
Ranged (Visa.StoreDmPostModify src index modifier) = RangedAccess src index modifier
Ranged (Visa.LoadDmPreModify dst index modifier) = RangedAccess dst index modifier
Ranged (Visa.StoreDmPreModify src index modifier) = RangedAccess src index modifier
Ranged (Visa.LoadDmOffset dst index offset) = RangedOffset dst index offset
Ranged (Visa.StoreDmOffset src index offset) = RangedOffset src index offset
Ranged (Visa.IntegerSubOne dst src) = (dst.0 < 16) × (src.0 < 16)
Ranged (Visa.IntegerPass dst src) = (dst.0 < 16) × (src.0 < 16)
Ranged (Visa.IntegerCompareUnsigned lhs rhs) = (lhs.0 < 16) × (rhs.0 < 16)
Ranged (Visa.JumpRelative condition offset delayed) = mag offset < 2 ^ 31
Ranged (Visa.CJump target) = target < 2 ^ 32
Ranged (Visa.PushImmediate value) = value < 2 ^ 32
Ranged Visa.LeafReturn = Unit
Ranged (Visa.Compute k) = k.field < 2 ^ 23
Ranged (Visa.DualMove k dm pm) = RangedCompute k × RangedData dm × RangedData pm
Ranged (Visa.MemoryMove k access) = RangedCompute k × RangedMemory access
Ranged (Visa.StoreImmediate index modifier value) = (index.0 < 16) × (modifier.0 < 16) × (value < 2 ^ 32)
Ranged (Visa.BitSetMode1 mask) = mask < 2 ^ 32
Ranged (Visa.BitClearMode1 mask) = mask < 2 ^ 32
Ranged Visa.Nop = Unit
Ranged Visa.WideNop = Unit

-- a multifunction's destinations; and a loop's count
abbrev pub RangedMulti : FloatMulAlu → Type 0
RangedMulti f = (f.product.0 < 16) × (f.alu_dst.0 < 16)

abbrev pub RangedCount : LoopCount → Type 0
RangedCount (Immediate count) = count < 2 ^ 16
RangedCount (Register register) = register.0 < 0x60
