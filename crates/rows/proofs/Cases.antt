-- What holds of every refusal and instruction, of a label and a jump whose name lies in the names, and of the loop start and the loop end
-- that a row may hold, holds of what the row says.
use Prim.Native.Nat.{ℕ, ◌+◌, ◌≤◌}
use mathlib.Core.List.{List}
use mathlib.Core.Bool.{Bool, true, false, cond}
use mathlib.Core.Path.{◌≡◌, refl}
use borrow.Author.Tests.{leb-true}
use lib.Dec.{eqb}
use Rattle.bounds.specs.Tables.{at}
use Rattle.bounds.specs.Checks.{Places, check_of, places_of, decided, name_inside, inside}
use Rattle.std.specs.Prelude.{Ok, Err, Result, Option}
use Rattle.items.specs.declared.Compute.{Compute}
use Rattle.items.specs.declared.Item.{Item}
use Rattle.refusals.specs.declared.Refusal.{Refusal}
use Rattle.items.specs.declared.DataAccess.{DataAccess}
use Rattle.items.specs.declared.MemoryAccess.{MemoryAccess}
use Rattle.items.specs.declared.VisaInstruction.{VisaInstruction}
use Rattle.items.specs.declared.Item.TheVariants as item
use Rattle.rows.specs.Fields.{condition_of, count_of, mode_of, instruction_of}
use Rattle.rows.specs.Rows.{compute_of, beside_of, dm_of, pm_of, access_of, compute_item, dual_item, memory_item, item_of, after, read_of}

module _ (P : Result (Item VisaInstruction) Refusal → Type 0) (refused : (r : Refusal) → P (Err r)) (instruction : (v : VisaInstruction) → P (Ok (item.Instruction v))) where
  of-compute : (m : Result Compute Refusal) → P (compute_item m)
  of-compute (Ok compute) = instruction _
  of-compute (Err r) = refused r

  of_dual : (dm pm : DataAccess) (b : Result (Option Compute) Refusal) → P (dual_item dm pm b)
  of_dual dm pm (Ok compute) = instruction _
  of_dual dm pm (Err r) = refused r

  of-memory : (access : MemoryAccess) (b : Result (Option Compute) Refusal) → P (memory_item access b)
  of-memory access (Ok compute) = instruction _
  of-memory access (Err r) = refused r

  either : (t : Bool) (r s : Result (Item VisaInstruction) Refusal) → P r → P s → P (cond t r s)
  either true r s hr hs = hr
  either false r s hr hs = hs

  -- a label's line, a jump's line, and the lines without a name
  chosen :
      (t u l j : Bool) (label jump rest : Result (Item VisaInstruction) Refusal) → (l ≡ true → P label) → (j ≡ true → P jump) → P rest → cond t l (cond u j true) ≡ true →
      P (cond t label (cond u jump rest))
  chosen true u l j label jump rest pl pj pr e = pl e
  chosen false true l j label jump rest pl pj pr e = pj e
  chosen false false l j label jump rest pl pj pr e = pr

  of_row : (t : Bool) (places : Places) (r : Result (Item VisaInstruction) Refusal) → (t ≡ true → P r) → P (after (decided t places) r)
  of_row false places r h = refused _
  of_row true (Ok _) r h = h refl
  of_row true (Err m) r h = refused _

  module _
      (names : ℕ)
      (label : (start length : ℕ) → start + length ≤ names → P (Ok (item.Label start length)))
      (jump : (v start length : ℕ) → start + length ≤ names → P (Ok (item.Jump (condition_of v) start length)))
      (begin : (choice v w : ℕ) → P (Ok (item.LoopBegin (count_of choice v) (mode_of w))))
      (end : P (Ok item.LoopEnd))
      (row : List ℕ)
    where
      of-item : inside (at row 0) (at row 1) (at row 2) (at row 3) names ≡ true → P (item_of row)
      unfolding item_of
      of-item e =
          let kind = at row 0 in
          let a = at row 1 in
          let b = at row 2 in
          let c = at row 3 in
          either (eqb kind 32) _ _ (of-compute (compute_of row))
          (either (eqb kind 33) _ _ (of_dual (dm_of row) (pm_of row) (beside_of row))
          (either (eqb kind 34) _ _ (of-memory (access_of row) (beside_of row))
          (chosen (eqb kind 48) (eqb kind 49) (name_inside a b names) (name_inside b c names) _ _ _
          (λ t. label a b (leb-true _ _ t)) (λ t. jump a b c (leb-true _ _ t))
          (either (eqb kind 50) _ _ (begin a b c) (either (eqb kind 51) _ _ end (instruction (instruction_of kind a b c)))) e)))

      pub read_cases : P (read_of row names)
      unfolding read_of check_of
      read_cases = of_row _ (places_of row) (item_of row) of-item
