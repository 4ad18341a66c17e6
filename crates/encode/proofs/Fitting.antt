-- Each number of an instruction that encodes fits its field: a line a kind. So its word reads back field by field, and no other word does.
use Prim.Native.Nat.{ℕ, ◌+◌, ◌*◌, ◌^◌, ◌<◌}
use native.Mathlib.Omega.{arith}
use mathlib.Core.Path.{◌≡◌, refl}
use mathlib.Core.Bool.{Bool, true, false, cond}
use lib.IntN.{ℤ, pos, negsuc}
use lib.Signed.{mag}
use borrow.Author.Tests.{leb-false, ltb-false, not-false}
use Rattle.fields.specs.Pack.{Tiles, Fits}
use Rattle.fields.specs.Faithful.{Faithful}
use Rattle.fields.proofs.Packed.{faithful}
use Rattle.signs.specs.Signs.{folded, within}
use Rattle.signs.proofs.Ints.{within_mag, folded_fits}
use Rattle.std.specs.Prelude.{Ok, Some, None, Option}
use Rattle.items.specs.declared.Compute.{Compute}
use Rattle.items.specs.declared.Condition.{Condition}
use Rattle.items.specs.declared.Condition.TheVariants.{Eq, Ne, Sv, Sz, NotSv, Always, UnsignedGt}
use Rattle.items.specs.declared.Instruction.{Instruction}
use Rattle.items.specs.declared.VisaInstruction.{VisaInstruction}
use Rattle.items.specs.declared.Instruction.TheVariants as Scalar
use Rattle.items.specs.declared.VisaInstruction.TheVariants as Visa
use Rattle.computes.specs.Compute.{single}
use Rattle.computes.proofs.Ranged.{RangedScalar, RangedCompute, Ranged}
use Rattle.words.specs.Forms.{bit_of, condition_code, is_store, is_post, type2a, offset15b, offset15a}
use Rattle.words.proofs.Tiling.{tiles_2a, tiles_17a, tiles_5a, tiles_19a, tiles_15a, tiles_8a, tiles_25a, tiles_16a, tiles_18a, tiles_1a, tiles_3a, tiles_21a, tiles_5b, tiles_3b, tiles_15b, tiles_3c, tiles_21c, tiles-leaf}
use Rattle.encode.specs.Registers.{is_pm}
use Rattle.encode.specs.Layouts.{scalar_fields, field_of, layout_of}
use Rattle.encode.specs.Encoding.{form_of, verdict_of}
use Rattle.refusals.proofs.Order.{AllGood, when-good}
use Rattle.encode.proofs.Passed.{good-passed}

pub bit-small : (d : Bool) → bit_of d < 2
bit-small true = omega arith
bit-small false = omega arith

pub code-small : (c : Condition) → condition_code c < 32
code-small Eq = omega arith
code-small Ne = omega arith
code-small Sv = omega arith
code-small Sz = omega arith
code-small NotSv = omega arith
code-small Always = omega arith
code-small UnsignedGt = omega arith

-- a tested number, from -(2 ^ n) to 2 ^ n - 1, fits the n + 1 bits that it is folded into; h is 2 ^ n - 1
pub tested_fits : (n h : ℕ) (z : ℤ) → 2 ^ n ≡ h + h + 2 → within (negsuc h) (pos h) z ≡ true → folded n z < 2 ^ n
tested_fits n h z e t = let m = within_mag h z t in folded_fits n z (omega arith)

-- ---- the kinds 0 to 12; that fields tile does not depend on their numbers
scalar_fits : (i : Instruction) → RangedScalar i → Fits (scalar_fields i)
scalar_fits (Scalar.FloatAdd d l r) h = omega arith
scalar_fits (Scalar.FloatSub d l r) h = omega arith
scalar_fits (Scalar.FloatMul d l r) h = omega arith
scalar_fits (Scalar.FloatMin d l r) h = omega arith
scalar_fits (Scalar.FloatMax d l r) h = omega arith
scalar_fits (Scalar.FloatNeg d s) h = omega arith
scalar_fits (Scalar.FloatAbs d s) h = omega arith
scalar_fits (Scalar.IntegerSub d l r) h = omega arith
scalar_fits (Scalar.FloatPass d s) h = omega arith
scalar_fits (Scalar.LoadImmediate d v) h = omega arith
scalar_fits (Scalar.Move d s) h = omega arith
scalar_fits (Scalar.LoadDm d a) h = omega arith
scalar_fits (Scalar.StoreDm s a) h = omega arith

tiles-single : (unit opcode rn rx ry : ℕ) → Tiles 48 (type2a (single unit opcode rn rx ry))
tiles-single unit opcode rn rx ry = omega arith

scalar_tiles : (i : Instruction) → Tiles 48 (scalar_fields i)
scalar_tiles (Scalar.FloatAdd d l r) = tiles-single 0 0 0 0 0
scalar_tiles (Scalar.FloatSub d l r) = tiles-single 0 0 0 0 0
scalar_tiles (Scalar.FloatMul d l r) = tiles-single 0 0 0 0 0
scalar_tiles (Scalar.FloatMin d l r) = tiles-single 0 0 0 0 0
scalar_tiles (Scalar.FloatMax d l r) = tiles-single 0 0 0 0 0
scalar_tiles (Scalar.FloatNeg d s) = tiles-single 0 0 0 0 0
scalar_tiles (Scalar.FloatAbs d s) = tiles-single 0 0 0 0 0
scalar_tiles (Scalar.IntegerSub d l r) = tiles-single 0 0 0 0 0
scalar_tiles (Scalar.FloatPass d s) = tiles-single 0 0 0 0 0
scalar_tiles (Scalar.LoadImmediate d v) = tiles_17a 0 0 0
scalar_tiles (Scalar.Move d s) = tiles_5a 0 0
scalar_tiles (Scalar.LoadDm d a) = tiles_17a 0 0 0
scalar_tiles (Scalar.StoreDm s a) = tiles_17a 0 0 0

-- ---- 15b or 15a
module _ (code index : ℕ) (z : ℤ) (store : Bool) where
  offset-fits :
      (t : Bool) → within (negsuc 63) (pos 63) z ≡ t → code < 128 → index < 8 → mag z < 2 ^ 31 →
      Fits (cond t (offset15b code index (folded 7 z) (bit_of store)) (offset15a code index (folded 32 z) (bit_of store)))
  offset-fits true e hc hi hz = omega (arith, bit-small store, tested_fits 7 63 z refl e)
  offset-fits false e hc hi hz = omega (arith, bit-small store, folded_fits 32 z (omega arith))

  offset-tiles : (t : Bool) → Tiles (16 * cond t 2 3) (cond t (offset15b code index (folded 7 z) (bit_of store)) (offset15a code index (folded 32 z) (bit_of store)))
  offset-tiles true = tiles_15b 0 0 0 0
  offset-tiles false = tiles_15a 0 0 0 0

compute-fits : (k : Option Compute) → RangedCompute k → field_of k < 2 ^ 23
compute-fits None h = omega arith
compute-fits (Some k) h = h

-- ---- every instruction
pub fits : (v : VisaInstruction) → Ranged v → AllGood (layout_of v).refusals → Fits (layout_of v).fields
unfolding layout_of
fits (Visa.Scalar i) h p = scalar_fits i h
fits (Visa.Transfer d s) h p = omega arith
fits (Visa.LoadImmediate d v) h p = omega arith
fits (Visa.ModifyIndex i z) h p = omega (arith, folded_fits 32 z (omega arith))
fits (Visa.LoadDmPostModify r i m) h p = omega (arith, leb-false 8 i.0 (when-good _ _ p.0), leb-false 8 m.0 (when-good _ _ p.1.1.0), leb-false 16 r.0 (when-good _ _ p.1.1.1.0))
fits (Visa.StoreDmPostModify r i m) h p = omega (arith, leb-false 8 i.0 (when-good _ _ p.0), leb-false 8 m.0 (when-good _ _ p.1.1.0), leb-false 16 r.0 (when-good _ _ p.1.1.1.0))
fits (Visa.LoadDmPreModify r i m) h p = omega (arith, leb-false 8 i.0 (when-good _ _ p.0), leb-false 8 m.0 (when-good _ _ p.1.1.0))
fits (Visa.StoreDmPreModify r i m) h p = omega (arith, leb-false 8 i.0 (when-good _ _ p.0), leb-false 8 m.0 (when-good _ _ p.1.1.0))
fits (Visa.LoadDmOffset r i z) h p = offset-fits r.0 i.0 z false (within (negsuc 63) (pos 63) z) refl (omega (arith, h.0)) (leb-false 8 i.0 (when-good _ _ p.0)) h.2
fits (Visa.StoreDmOffset r i z) h p = offset-fits r.0 i.0 z true (within (negsuc 63) (pos 63) z) refl (omega (arith, h.0)) (leb-false 8 i.0 (when-good _ _ p.0)) h.2
fits (Visa.IntegerSubOne d s) h p = omega arith
fits (Visa.IntegerPass d s) h p = omega arith
fits (Visa.IntegerCompareUnsigned l r) h p = omega arith
fits (Visa.JumpRelative c z d) h p = omega (arith, code-small c, bit-small d, tested_fits 24 0x7f_ffff z refl (not-false _ (when-good _ _ p.0)))
fits (Visa.CJump t) h p = omega (arith, ltb-false _ t (when-good _ _ p.0))
fits (Visa.PushImmediate v) h p = omega arith
fits Visa.LeafReturn h p = omega arith
fits (Visa.Compute k) h p = omega arith
fits (Visa.DualMove k dm pm) h p =
    let i = leb-false 8 dm.index.0 (when-good _ _ p.0) in
    let m = leb-false 8 dm.modifier.0 (when-good _ _ p.1.0) in
    let a = h.1 in
    let b = h.2 in
    omega (arith, bit-small (is_store dm.direction), bit-small (is_store pm.direction), compute-fits k h.0, i, m, a.0, b.0)
fits (Visa.MemoryMove k a) h p =
    let b = h.1 in
    omega (arith, bit-small (is_post a.update), bit-small (is_pm a.index.0), bit-small (is_store a.direction), compute-fits k h.0, b.0)
fits (Visa.StoreImmediate i m v) h p = omega (arith, bit-small (is_pm i.0), h.2)
fits (Visa.BitSetMode1 m) h p = omega arith
fits (Visa.BitClearMode1 m) h p = omega arith
fits Visa.Nop h p = omega arith
fits Visa.WideNop h p = omega arith

pub tiles : (v : VisaInstruction) → Tiles (16 * (layout_of v).parcels) (layout_of v).fields
unfolding layout_of
tiles (Visa.Scalar i) = scalar_tiles i
tiles (Visa.Transfer d s) = tiles_5b 0 0
tiles (Visa.LoadImmediate d v) = tiles_17a 0 0 0
tiles (Visa.ModifyIndex i z) = tiles_19a 0 0
tiles (Visa.LoadDmPostModify r i m) = tiles_3c 0 0 0 0
tiles (Visa.StoreDmPostModify r i m) = tiles_3c 0 0 0 0
tiles (Visa.LoadDmPreModify r i m) = tiles_3b 0 0 0 0
tiles (Visa.StoreDmPreModify r i m) = tiles_3b 0 0 0 0
tiles (Visa.LoadDmOffset r i z) = offset-tiles r.0 i.0 z false (within (negsuc 63) (pos 63) z)
tiles (Visa.StoreDmOffset r i z) = offset-tiles r.0 i.0 z true (within (negsuc 63) (pos 63) z)
tiles (Visa.IntegerSubOne d s) = tiles-single 0 0 0 0 0
tiles (Visa.IntegerPass d s) = tiles-single 0 0 0 0 0
tiles (Visa.IntegerCompareUnsigned l r) = tiles-single 0 0 0 0 0
tiles (Visa.JumpRelative c z d) = tiles_8a 0 0 0
tiles (Visa.CJump t) = tiles_25a 0
tiles (Visa.PushImmediate v) = tiles_16a 0 0 0 0
tiles Visa.LeafReturn = tiles-leaf
tiles (Visa.Compute k) = tiles_2a 0
tiles (Visa.DualMove k dm pm) = tiles_1a 0 0 0 0 0 0 0 0 0
tiles (Visa.MemoryMove k a) = tiles_3a 0 0 0 0 0 0 0
tiles (Visa.StoreImmediate i m v) = tiles_16a 0 0 0 0
tiles (Visa.BitSetMode1 m) = tiles_18a 0 0
tiles (Visa.BitClearMode1 m) = tiles_18a 0 0
tiles Visa.Nop = tiles_21c
tiles Visa.WideNop = tiles_21a

-- THE THEOREM of instructions
pub instruction-faithful : (v : VisaInstruction) → Ranged v → verdict_of v ≡ Ok tt → Faithful (16 * (layout_of v).parcels) (layout_of v).fields
unfolding verdict_of form_of
instruction-faithful v h g = faithful (16 * (layout_of v).parcels) (layout_of v).fields (tiles v) (fits v h (good-passed (layout_of v) g))
