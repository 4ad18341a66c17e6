-- Which numbers an instruction, a jump over an offset and a loop start over an offset tell: those of their lists.
use Prim.Native.Nat.{ℕ}
use mathlib.Core.Path.{refl, sym, subst}
use mathlib.Core.Bool.{Bool, true, false, not, ◌&&◌}
use mathlib.Core.List.{List, [], ◌∷◌}
use lib.IntN.{ℤ, pos, negsuc}
use lib.Dec.{leb, ltb, eqb}
use Rattle.signs.specs.Signs.{within}
use Rattle.registers.specs.declared.UniversalRegister.{UniversalRegister}
use Rattle.registers.specs.declared.IndexRegister.{IndexRegister}
use Rattle.registers.specs.declared.ModifyRegister.{ModifyRegister}
use Rattle.refusals.specs.declared.Refusal.TheVariants.{InvalidDmIndex, InvalidDmModifier, UnsupportedPostModifyRegister, Dag1StoreSource, BranchOutOfRange, CallTargetOutOfRange, InvalidPmIndex, InvalidPmModifier, MixedDag, SameDagRegister, DuplicateDestination, LoopCountZero, LoopOutOfRange}
use Rattle.refusals.specs.Calls.{encoding}
use Rattle.refusals.specs.Order.{first}
use Rattle.refusals.proofs.Within.{Tells, AllTell, tells-when, tells_first}
use Rattle.items.specs.declared.Condition.{Condition}
use Rattle.std.specs.Prelude.{Option}
use Rattle.items.specs.declared.Compute.{Compute}
use Rattle.items.specs.declared.DataAccess.{DataAccess}
use Rattle.items.specs.declared.MemoryAccess.{MemoryAccess}
use Rattle.items.specs.declared.LoopCount.{LoopCount}
use Rattle.items.specs.declared.LoopCount.TheVariants.{Immediate, Register}
use Rattle.items.specs.declared.LoopMode.{LoopMode}
use Rattle.items.specs.declared.VisaInstruction.{VisaInstruction}
use Rattle.items.specs.declared.VisaInstruction.TheVariants as Visa
use Rattle.encode.specs.Registers.{is_pm, in_dag, mixed, dm_clashes, pm_clashes, same_dag, memory_clashes}
use Rattle.encode.specs.Refusals.{offset_refusals, modify_refusals, jump_refusals, call_refusals, dual_refusals, store_refusals, memory_refusals, loop_refusals}
use Rattle.encode.specs.Layouts.{Layout, layout_of, jump_layout, loop_layout}
use Rattle.encode.specs.Encoding.{form_as, form_of, jump_form, loop_form, form_verdict, verdict_of}
use Rattle.encode.proofs.Passed.{verdict-by}

-- ---- each list
offset_tell : (r : UniversalRegister) (i : IndexRegister) (store : Bool) → AllTell encoding (offset_refusals r i store)
offset_tell r i store =
    (tells-when encoding (is_pm i.0) (InvalidDmIndex i.0) refl, (tells-when encoding (store && in_dag r.0 false) (Dag1StoreSource r.0) refl, tt))

modify_tell : (r : UniversalRegister) (i : IndexRegister) (m : ModifyRegister) (store post : Bool) → AllTell encoding (modify_refusals r i m store post)
modify_tell r i m store post =
    let o = offset_tell r i store in (
      o.0,
      (
        o.1.0,
        (tells-when encoding (is_pm m.0) (InvalidDmModifier m.0) refl, (tells-when encoding (post && leb 16 r.0) (UnsupportedPostModifyRegister r.0) refl, tt)),
      ),
    )

jump_tell : (z : ℤ) → AllTell encoding (jump_refusals z)
jump_tell z = (tells-when encoding (not (within (negsuc 0x7f_ffff) (pos 0x7f_ffff) z)) (BranchOutOfRange z) refl, tt)

call_tell : (t : ℕ) → AllTell encoding (call_refusals t)
call_tell t = (tells-when encoding (ltb 0xff_ffff t) (CallTargetOutOfRange t) refl, tt)

dual_tell : (k : Option Compute) (dm pm : DataAccess) → AllTell encoding (dual_refusals k dm pm)
dual_tell k dm pm = (
  tells-when encoding (is_pm dm.index.0) (InvalidDmIndex dm.index.0) refl,
  (
    tells-when encoding (is_pm dm.modifier.0) (InvalidDmModifier dm.modifier.0) refl,
    (
      tells-when encoding (not (is_pm pm.index.0)) (InvalidPmIndex pm.index.0) refl,
      (
        tells-when encoding (not (is_pm pm.modifier.0)) (InvalidPmModifier pm.modifier.0) refl,
        (tells-when encoding (dm_clashes k dm) (DuplicateDestination dm.register.0) refl, (tells-when encoding (pm_clashes k dm pm) (DuplicateDestination pm.register.0) refl, tt)),
      ),
    ),
  ),
)

store_tell : (i : IndexRegister) (m : ModifyRegister) → AllTell encoding (store_refusals i m)
store_tell i m = (tells-when encoding (mixed i.0 m.0) (MixedDag i.0 m.0) refl, tt)

memory_tell : (k : Option Compute) (a : MemoryAccess) → AllTell encoding (memory_refusals k a)
memory_tell k a = (
  (store_tell a.index a.modifier).0,
  (tells-when encoding (same_dag a) (SameDagRegister a.register.0) refl, (tells-when encoding (memory_clashes k a) (DuplicateDestination a.register.0) refl, tt)),
)

-- "21, 20"
abbrev pub loop_numbers : List ℕ
loop_numbers = 20 ∷ 21 ∷ []

loop_tell : (none : Bool) (z : ℤ) → AllTell loop_numbers (loop_refusals none z)
loop_tell none z = (tells-when loop_numbers (not (within (negsuc 0x3f_ffff) (pos 0x3f_ffff) z)) (LoopOutOfRange z) refl, (tells-when loop_numbers none LoopCountZero refl, tt))

instruction_tell : (v : VisaInstruction) → AllTell encoding (layout_of v).refusals
unfolding layout_of
instruction_tell (Visa.Scalar i) = tt
instruction_tell (Visa.Transfer d s) = tt
instruction_tell (Visa.LoadImmediate d v) = tt
instruction_tell (Visa.ModifyIndex i z) = tt
instruction_tell (Visa.LoadDmPostModify r i m) = modify_tell r i m false true
instruction_tell (Visa.StoreDmPostModify r i m) = modify_tell r i m true true
instruction_tell (Visa.LoadDmPreModify r i m) = modify_tell r i m false false
instruction_tell (Visa.StoreDmPreModify r i m) = modify_tell r i m true false
instruction_tell (Visa.LoadDmOffset r i z) = offset_tell r i false
instruction_tell (Visa.StoreDmOffset r i z) = offset_tell r i true
instruction_tell (Visa.IntegerSubOne d s) = tt
instruction_tell (Visa.IntegerPass d s) = tt
instruction_tell (Visa.IntegerCompareUnsigned l r) = tt
instruction_tell (Visa.JumpRelative c z d) = jump_tell z
instruction_tell (Visa.CJump t) = call_tell t
instruction_tell (Visa.PushImmediate v) = tt
instruction_tell Visa.LeafReturn = tt
instruction_tell (Visa.Compute k) = tt
instruction_tell (Visa.DualMove k dm pm) = dual_tell k dm pm
instruction_tell (Visa.MemoryMove k a) = memory_tell k a
instruction_tell (Visa.StoreImmediate i m v) = store_tell i m
instruction_tell (Visa.BitSetMode1 m) = tt
instruction_tell (Visa.BitClearMode1 m) = tt
instruction_tell Visa.Nop = tt
instruction_tell Visa.WideNop = tt

-- a layout's form tells what its refusals do
layout-tells : (ns : List ℕ) (l : Layout) → AllTell ns l.refusals → Tells ns (form_verdict (form_as l))
layout-tells ns l h = subst (Tells ns) (sym (verdict-by (first l.refusals) l)) (tells_first ns l.refusals h)

pub instruction-tells : (v : VisaInstruction) → Tells encoding (verdict_of v)
unfolding verdict_of form_of
instruction-tells v = layout-tells encoding (layout_of v) (instruction_tell v)

pub jump-tells : (c : Condition) (z : ℤ) (d : Bool) → Tells encoding (form_verdict (jump_form c z d))
unfolding jump_form
jump-tells c z d = layout-tells encoding (jump_layout c z d) (jump_tell z)

loop-layout : (c : LoopCount) (m : LoopMode) (z : ℤ) → AllTell loop_numbers (loop_layout c m z).refusals
loop-layout (Immediate n) m z = loop_tell (eqb n 0) z
loop-layout (Register r) m z = loop_tell false z

pub loop-tells : (c : LoopCount) (m : LoopMode) (z : ℤ) → Tells loop_numbers (form_verdict (loop_form c m z))
unfolding loop_form
loop-tells c m z = layout-tells loop_numbers (loop_layout c m z) (loop-layout c m z)
