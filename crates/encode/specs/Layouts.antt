-- What each instruction encodes as: what it refuses, in order; else so many parcels, and the fields that tile them.
use Rattle.std.specs.Prelude.{ℕ, ◌%◌, Bool, true, false, cond, List, [], ℤ, pos, negsuc, eqb, Some, None, Option}
use Rattle.fields.specs.Pack.{Field}
use Rattle.signs.specs.Signs.{folded, within}
use Rattle.registers.specs.declared.UniversalRegister.{UniversalRegister}
use Rattle.registers.specs.declared.IndexRegister.{IndexRegister}
use Rattle.registers.specs.declared.ModifyRegister.{ModifyRegister}
use Rattle.refusals.specs.Answers.{Verdict}
use Rattle.items.specs.declared.Compute.{Compute}
use Rattle.items.specs.declared.Instruction.{Instruction}
use Rattle.items.specs.declared.Condition.{Condition}
use Rattle.items.specs.declared.DataAccess.{DataAccess}
use Rattle.items.specs.declared.MemoryAccess.{MemoryAccess}
use Rattle.items.specs.declared.LoopCount.{LoopCount}
use Rattle.items.specs.declared.LoopCount.TheVariants.{Immediate, Register}
use Rattle.items.specs.declared.LoopMode.{LoopMode}
use Rattle.items.specs.declared.VisaInstruction.{VisaInstruction}
use Rattle.items.specs.declared.Instruction.TheVariants as Scalar
use Rattle.items.specs.declared.VisaInstruction.TheVariants as Visa
use Rattle.computes.specs.Compute.{single}
use Rattle.words.specs.Forms.{type2a, whole, bit_of, condition_code, is_store, is_post, is_f1, long17a, move5a, modify19a, offset15a, jump8a, call25a, store16a, mode18a, dual1a, memory3a, loop12a, register_loop12a, nop21a, transfer5b, modify3b, offset15b, modify3c, nop21c, leaf_return}
use Rattle.encode.specs.Registers.{is_pm}
use Rattle.encode.specs.Refusals.{offset_refusals, modify_refusals, jump_refusals, call_refusals, dual_refusals, store_refusals, memory_refusals, loop_refusals}

pub record Layout : Type 0 where
  pub refusals : List Verdict
  pub parcels : ℕ
  pub fields : List Field

abbrev pub laid : List Verdict → ℕ → List Field → Layout
laid refusals parcels fields = record { refusals = refusals; parcels = parcels; fields = fields }

-- "Opcodes (hex): FloatAdd 81, .."; "Unary forms have ry 0"; "Scalar Move (70), LoadDm (10), StoreDm (11), 17a (0f)"
abbrev pub scalar_fields : Instruction → List Field
scalar_fields (Scalar.FloatAdd dst lhs rhs) = type2a (single 0 0x81 dst.0 lhs.0 rhs.0)
scalar_fields (Scalar.FloatSub dst lhs rhs) = type2a (single 0 0x82 dst.0 lhs.0 rhs.0)
scalar_fields (Scalar.FloatMul dst lhs rhs) = type2a (single 1 0x30 dst.0 lhs.0 rhs.0)
scalar_fields (Scalar.FloatMin dst lhs rhs) = type2a (single 0 0xe1 dst.0 lhs.0 rhs.0)
scalar_fields (Scalar.FloatMax dst lhs rhs) = type2a (single 0 0xe2 dst.0 lhs.0 rhs.0)
scalar_fields (Scalar.FloatNeg dst src) = type2a (single 0 0xa2 dst.0 src.0 0)
scalar_fields (Scalar.FloatAbs dst src) = type2a (single 0 0xb0 dst.0 src.0 0)
scalar_fields (Scalar.IntegerSub dst lhs rhs) = type2a (single 0 0x02 dst.0 lhs.0 rhs.0)
scalar_fields (Scalar.FloatPass dst src) = type2a (single 0 0xa1 dst.0 src.0 0)
scalar_fields (Scalar.LoadImmediate dst value) = long17a 0x0f dst.0 value
scalar_fields (Scalar.Move dst src) = move5a dst.0 src.0
scalar_fields (Scalar.LoadDm dst address) = long17a 0x10 dst.0 address
scalar_fields (Scalar.StoreDm src address) = long17a 0x11 src.0 address

-- "A DM offset of -64 to 63 is 15b, two parcels; any other is 15a, three"
abbrev pub offset_layout : UniversalRegister → IndexRegister → ℤ → Bool → Layout
offset_layout register index offset store =
    let near = within (negsuc 63) (pos 63) offset in
    laid (offset_refusals register index store) (cond near 2 3)
    (cond near (offset15b register.0 index.0 (folded 7 offset) (bit_of store)) (offset15a register.0 index.0 (folded 32 offset) (bit_of store)))

-- post-modify is 3c, pre-modify 3b
abbrev pub modify_layout : UniversalRegister → IndexRegister → ModifyRegister → Bool → Bool → Layout
modify_layout register index modifier store post =
    laid (modify_refusals register index modifier store post) (cond post 1 2)
    (cond post (modify3c register.0 index.0 modifier.0 (bit_of store)) (modify3b register.0 index.0 modifier.0 (bit_of store)))

-- a jump over its offset from its own first parcel
abbrev pub jump_layout : Condition → ℤ → Bool → Layout
jump_layout condition offset delayed = laid (jump_refusals offset) 3 (jump8a (condition_code condition) (bit_of delayed) (folded 24 offset))

-- `loop_word`: a loop start over the offset of its last instruction
abbrev pub loop_layout : LoopCount → LoopMode → ℤ → Layout
loop_layout (Immediate count) mode offset = laid (loop_refusals (eqb count 0) offset) 3 (loop12a count (bit_of (is_f1 mode)) (folded 23 offset))
loop_layout (Register register) mode offset = laid (loop_refusals false offset) 3 (register_loop12a register.0 (bit_of (is_f1 mode)) (folded 23 offset))

-- the field of the compute beside a move: 0 where there is none
abbrev pub field_of : Option Compute → ℕ
field_of None = 0
field_of (Some k) = k.field

-- 1a of the two accesses, 3a of the access, and the compute's 23 bits
abbrev pub dual_fields : DataAccess → DataAccess → List Field → List Field
dual_fields dm pm compute =
    dual1a (bit_of (is_store dm.direction)) dm.index.0 dm.modifier.0 (bit_of (is_store pm.direction)) dm.register.0
    (pm.index.0 % 8) (pm.modifier.0 % 8) pm.register.0 compute

abbrev pub memory_fields : MemoryAccess → List Field → List Field
memory_fields access compute =
    memory3a (bit_of (is_post access.update)) (access.index.0 % 8) (access.modifier.0 % 8) (bit_of (is_pm access.index.0))
    (bit_of (is_store access.direction)) access.register.0 compute

-- the table of instructions
unfoldable pub layout_of : VisaInstruction → Layout
layout_of (Visa.Scalar i) = laid [] 3 (scalar_fields i)
layout_of (Visa.Transfer dst src) = laid [] 2 (transfer5b dst.0 src.0)
layout_of (Visa.LoadImmediate dst value) = laid [] 3 (long17a 0x0f dst.0 value)
layout_of (Visa.ModifyIndex index offset) = laid [] 3 (modify19a index.0 (folded 32 offset))
layout_of (Visa.LoadDmPostModify dst index modifier) = modify_layout dst index modifier false true
layout_of (Visa.StoreDmPostModify src index modifier) = modify_layout src index modifier true true
layout_of (Visa.LoadDmPreModify dst index modifier) = modify_layout dst index modifier false false
layout_of (Visa.StoreDmPreModify src index modifier) = modify_layout src index modifier true false
layout_of (Visa.LoadDmOffset dst index offset) = offset_layout dst index offset false
layout_of (Visa.StoreDmOffset src index offset) = offset_layout src index offset true
layout_of (Visa.IntegerSubOne dst src) = laid [] 3 (type2a (single 0 0x2a dst.0 src.0 0))
layout_of (Visa.IntegerPass dst src) = laid [] 3 (type2a (single 0 0x21 dst.0 src.0 0))
layout_of (Visa.IntegerCompareUnsigned lhs rhs) = laid [] 3 (type2a (single 0 0x0b 0 lhs.0 rhs.0))
layout_of (Visa.JumpRelative condition offset delayed) = jump_layout condition offset delayed
layout_of (Visa.CJump target) = laid (call_refusals target) 3 (call25a target)
layout_of (Visa.PushImmediate value) = laid [] 3 (store16a 7 7 0 value)
layout_of Visa.LeafReturn = laid [] 6 leaf_return
layout_of (Visa.Compute k) = laid [] 3 (type2a (whole k.field))
layout_of (Visa.DualMove k dm pm) = laid (dual_refusals k dm pm) 3 (dual_fields dm pm (whole (field_of k)))
layout_of (Visa.MemoryMove k access) = laid (memory_refusals k access) 3 (memory_fields access (whole (field_of k)))
layout_of (Visa.StoreImmediate index modifier value) =
    laid (store_refusals index modifier) 3 (store16a (index.0 % 8) (modifier.0 % 8) (bit_of (is_pm index.0)) value)
layout_of (Visa.BitSetMode1 mask) = laid [] 3 (mode18a 0 mask)
layout_of (Visa.BitClearMode1 mask) = laid [] 3 (mode18a 1 mask)
layout_of Visa.Nop = laid [] 1 nop21c
layout_of Visa.WideNop = laid [] 3 nop21a
