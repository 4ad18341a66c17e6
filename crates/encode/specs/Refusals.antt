-- Document 01, "Refusal numbers", "Order": what the instructions refuse, in order.
use Rattle.std.specs.Prelude.{ℕ, Bool, false, not, ◌&&◌, List, [], ◌∷◌, ◌++◌, ℤ, pos, negsuc, leb, ltb, Option}
use Rattle.signs.specs.Signs.{within}
use Rattle.registers.specs.declared.UniversalRegister.{UniversalRegister}
use Rattle.registers.specs.declared.IndexRegister.{IndexRegister}
use Rattle.registers.specs.declared.ModifyRegister.{ModifyRegister}
use Rattle.refusals.specs.declared.Refusal.TheVariants.{InvalidDmIndex, InvalidDmModifier, UnsupportedPostModifyRegister, Dag1StoreSource, BranchOutOfRange, CallTargetOutOfRange, InvalidPmIndex, InvalidPmModifier, MixedDag, SameDagRegister, DuplicateDestination, LoopCountZero, LoopOutOfRange}
use Rattle.refusals.specs.Answers.{Verdict}
use Rattle.items.specs.declared.Compute.{Compute}
use Rattle.refusals.specs.Order.{when}
use Rattle.items.specs.declared.DataAccess.{DataAccess}
use Rattle.items.specs.declared.MemoryAccess.{MemoryAccess}
use Rattle.encode.specs.Registers.{is_pm, in_dag, mixed, dm_clashes, pm_clashes, same_dag, memory_clashes}

-- "DM modify: 5, 8, 6, 7"; 7 where the access modifies afterwards
abbrev pub offset_refusals : UniversalRegister → IndexRegister → Bool → List Verdict
offset_refusals register index store =
    when (is_pm index.0) (InvalidDmIndex index.0) ∷ when (store && in_dag register.0 false) (Dag1StoreSource register.0) ∷ []

abbrev pub modify_refusals : UniversalRegister → IndexRegister → ModifyRegister → Bool → Bool → List Verdict
modify_refusals register index modifier store post =
    offset_refusals register index store ++
    when (is_pm modifier.0) (InvalidDmModifier modifier.0) ∷ when (post && leb 16 register.0) (UnsupportedPostModifyRegister register.0) ∷ []

-- 9: "a signed offset .. lies in -0x800000..0x7fffff"
abbrev pub jump_refusals : ℤ → List Verdict
jump_refusals offset = when (not (within (negsuc 0x7f_ffff) (pos 0x7f_ffff) offset)) (BranchOutOfRange offset) ∷ []

-- 10: "CJump target over 0xffffff"
abbrev pub call_refusals : ℕ → List Verdict
call_refusals target = when (ltb 0xff_ffff target) (CallTargetOutOfRange target) ∷ []

-- "Dual move: 5, 6, 13, 14, 19 (DM load first)"
abbrev pub dual_refusals : Option Compute → DataAccess → DataAccess → List Verdict
dual_refusals k dm pm =
    when (is_pm dm.index.0) (InvalidDmIndex dm.index.0) ∷ when (is_pm dm.modifier.0) (InvalidDmModifier dm.modifier.0)
    ∷ when (not (is_pm pm.index.0)) (InvalidPmIndex pm.index.0) ∷ when (not (is_pm pm.modifier.0)) (InvalidPmModifier pm.modifier.0)
    ∷ when (dm_clashes k dm) (DuplicateDestination dm.register.0) ∷ when (pm_clashes k dm pm) (DuplicateDestination pm.register.0) ∷ []

-- "15: mixed DAG"; "Memory move: 15, 16, 19"
abbrev pub store_refusals : IndexRegister → ModifyRegister → List Verdict
store_refusals index modifier = when (mixed index.0 modifier.0) (MixedDag index.0 modifier.0) ∷ []

abbrev pub memory_refusals : Option Compute → MemoryAccess → List Verdict
memory_refusals k access =
    store_refusals access.index access.modifier ++
    when (same_dag access) (SameDagRegister access.register.0) ∷ when (memory_clashes k access) (DuplicateDestination access.register.0) ∷ []

-- "21, 20": a signed offset of 23 bits, and an immediate count
abbrev pub loop_refusals : Bool → ℤ → List Verdict
loop_refusals none offset = when (not (within (negsuc 0x3f_ffff) (pos 0x3f_ffff) offset)) (LoopOutOfRange offset) ∷ when none LoopCountZero ∷ []
