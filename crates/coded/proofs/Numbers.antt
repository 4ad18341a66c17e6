-- A row refusal tells 2, 4, 17, 18 or 19: those of the check, and those of the compute's construction.
use mathlib.Core.Path.{refl}
use mathlib.Core.Bool.{Bool, true, false, cond, not}
use mathlib.Core.List.{List}
use Prim.Native.Nat.{ℕ, ◌/◌}
use lib.Dec.{eqb}
use Rattle.fields.specs.Pack.{Field}
use Rattle.registers.specs.declared.Register.{Register}
use Rattle.refusals.specs.declared.Refusal.TheVariants.{MultifunctionOperand, DuplicateDestination}
use Rattle.std.specs.Prelude.{Ok, Err, Result, Option}
use Rattle.refusals.specs.Answers.{Verdict}
use Rattle.refusals.specs.declared.Refusal.{Refusal}
use Rattle.items.specs.declared.Item.{Item}
use Rattle.items.specs.declared.VisaInstruction.{VisaInstruction}
use Rattle.refusals.specs.Calls.{reading, encoding}
use Rattle.refusals.specs.Order.{first}
use Rattle.refusals.proofs.Within.{Tells, AllTell, tells-when, tells_first}
use Rattle.items.specs.declared.Compute.{Compute}
use Rattle.items.specs.declared.DataAccess.{DataAccess}
use Rattle.items.specs.declared.FloatMulAlu.{FloatMulAlu}
use Rattle.items.specs.declared.MemoryAccess.{MemoryAccess}
use Rattle.items.specs.declared.Item.TheVariants as item
use Rattle.computes.specs.Compute.{made_single, outside, multi_refusals, made_by, made_multi}
use Rattle.encode.specs.Encoding.{verdict_of}
use Rattle.encode.proofs.Numbers.{instruction-tells}
use Rattle.bounds.specs.Tables.{at}
use Rattle.bounds.specs.Bounds.{is_compute}
use Rattle.bounds.specs.declared.Misfit.TheVariants.{Bad, Code}
use Rattle.bounds.specs.Checks.{Places, check_of, places_of, decided, inside}
use Rattle.rows.specs.Rows.{multi_of, compute_of, beside, beside_of, dm_of, pm_of, access_of, compute_item, dual_item, memory_item, item_of, after, read_of}
use Rattle.coded.specs.Coded.{coded_of, read_verdict, encodes}

decided-tells : (t : Bool) (places : Places) → Tells reading (decided t places)
decided-tells false places = refl
decided-tells true (Ok _) = refl
decided-tells true (Err Bad) = refl
decided-tells true (Err (Code v)) = refl

-- ---- the compute
abbrev MadeTells : Result Compute Refusal → Type 0
MadeTells (Ok compute) = Unit {0}
MadeTells (Err refusal) = Tells reading (Err refusal)

by_tells : (v : Verdict) (compute : Compute) → Tells reading v → MadeTells (made_by v compute)
by_tells (Ok _) compute h = tt
by_tells (Err refusal) compute h = h

single-tells : (fields : List Field) (destination : ℕ) → MadeTells (made_single fields destination)
unfolding made_single
single-tells fields destination = tt

outside-tells : (group : ℕ) (r : Register) → Tells reading (outside group r)
outside-tells group r = tells-when reading (not (eqb (r.0 / 4) group)) (MultifunctionOperand group r.0) refl

multi-list : (f : FloatMulAlu) → AllTell reading (multi_refusals f)
multi-list f = (
  outside-tells 0 f.mul_x,
  (
    outside-tells 1 f.mul_y,
    (
      outside-tells 2 f.alu_x,
      (
        outside-tells 3 f.alu_y,
        (tells-when reading (eqb f.product.0 f.alu_dst.0) (DuplicateDestination f.product.0) refl, tt),
      ),
    ),
  ),
)

multi-tells : (f : FloatMulAlu) → MadeTells (made_multi f)
unfolding made_multi
multi-tells f = by_tells (first (multi_refusals f)) _ (tells_first reading (multi_refusals f) (multi-list f))

either : {A : Type 0} (P : A → Type 0) (t : Bool) (x y : A) → P x → P y → P (cond t x y)
either P true x y hx hy = hx
either P false x y hx hy = hy

compute-tells : (row : List ℕ) → MadeTells (compute_of row)
unfolding compute_of
compute-tells row =
    let multi = multi-tells (multi_of row) in
    either MadeTells (eqb (at row 1) 1) _ _ (either MadeTells (is_compute (at row 2)) _ _ (single-tells _ _) refl)
    (either MadeTells (eqb (at row 1) 2) _ _ multi multi)

abbrev BesideTells : Result (Option Compute) Refusal → Type 0
BesideTells (Ok compute) = Unit {0}
BesideTells (Err refusal) = Tells reading (Err refusal)

made-beside : (m : Result Compute Refusal) → MadeTells m → BesideTells (beside m)
made-beside (Ok compute) h = tt
made-beside (Err refusal) h = h

beside-tells : (row : List ℕ) → BesideTells (beside_of row)
unfolding beside_of
beside-tells row = either BesideTells (eqb (at row 1) 0) _ _ tt (made-beside (compute_of row) (compute-tells row))

-- ---- the row
abbrev ReadTells : Result (Item VisaInstruction) Refusal → Type 0
ReadTells (Ok x) = Unit {0}
ReadTells (Err refusal) = Tells reading (Err refusal)

compute-read : (m : Result Compute Refusal) → MadeTells m → ReadTells (compute_item m)
compute-read (Ok compute) h = tt
compute-read (Err refusal) h = h

dual_read : (dm pm : DataAccess) (b : Result (Option Compute) Refusal) → BesideTells b → ReadTells (dual_item dm pm b)
dual_read dm pm (Ok compute) h = tt
dual_read dm pm (Err refusal) h = h

memory-read : (access : MemoryAccess) (b : Result (Option Compute) Refusal) → BesideTells b → ReadTells (memory_item access b)
memory-read access (Ok compute) h = tt
memory-read access (Err refusal) h = h

item-tells : (row : List ℕ) → ReadTells (item_of row)
unfolding item_of
item-tells row =
    let kind = at row 0 in
    either ReadTells (eqb kind 32) _ _ (compute-read (compute_of row) (compute-tells row))
    (either ReadTells (eqb kind 33) _ _ (dual_read (dm_of row) (pm_of row) (beside_of row) (beside-tells row))
    (either ReadTells (eqb kind 34) _ _ (memory-read (access_of row) (beside_of row) (beside-tells row))
    (either ReadTells (eqb kind 48) _ _ tt
    (either ReadTells (eqb kind 49) _ _ tt (either ReadTells (eqb kind 50) _ _ tt (either ReadTells (eqb kind 51) _ _ tt tt))))))

after-tells : (v : Verdict) (r : Result (Item VisaInstruction) Refusal) → Tells reading v → ReadTells r → ReadTells (after v r)
after-tells (Ok _) r h k = k
after-tells (Err refusal) r h k = h

read-tells : (row : List ℕ) (names : ℕ) → ReadTells (read_of row names)
unfolding read_of check_of
read-tells row names =
    let named = inside (at row 0) (at row 1) (at row 2) (at row 3) names in
    after-tells (decided named (places_of row)) (item_of row) (decided-tells named (places_of row)) (item-tells row)

coded-read : (r : Result (Item VisaInstruction) Refusal) → ReadTells r → Tells reading (read_verdict (coded_of r))
coded-read (Ok (item.Instruction v)) h = refl
coded-read (Ok (item.Label start length)) h = refl
coded-read (Ok (item.Jump condition start length)) h = refl
coded-read (Ok (item.LoopBegin count mode)) h = refl
coded-read (Ok item.LoopEnd) h = refl
coded-read (Err refusal) h = h

-- THE THEOREM: what a row is refused for
pub row-tells : (row : List ℕ) (names : ℕ) → Tells reading (read_verdict (coded_of (read_of row names)))
row-tells row names = coded-read (read_of row names) (read-tells row names)

coded-encodes : (r : Result (Item VisaInstruction) Refusal) → Tells encoding (encodes (coded_of r))
unfolding verdict_of
coded-encodes (Ok (item.Instruction v)) = instruction-tells v
coded-encodes (Ok (item.Label start length)) = refl
coded-encodes (Ok (item.Jump condition start length)) = refl
coded-encodes (Ok (item.LoopBegin count mode)) = refl
coded-encodes (Ok item.LoopEnd) = refl
coded-encodes (Err refusal) = refl

-- and for what its instruction does not encode
pub encodes-tells : (row : List ℕ) (names : ℕ) → Tells encoding (encodes (coded_of (read_of row names)))
encodes-tells row names = coded-encodes (read_of row names)
