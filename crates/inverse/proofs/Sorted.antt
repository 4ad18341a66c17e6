-- From what a row is read as back to its numbers: which kind an instruction, a labelled jump or a loop start has, and which fields.
use Prim.Native.Nat.{ℕ}
use native.Mathlib.Omega.{arith}
use mathlib.Core.Path.{◌≡◌, refl, sym, ap, ◌∙◌}
use mathlib.Core.Bool.{Bool, true, false, true≢false}
use mathlib.Core.List.{List}
use lib.Dec.{eqb}
use borrow.Author.Tests.{eqb-true, eqb-false}
use Rattle.std.specs.Prelude.{Ok, Err, Result, Option}
use Rattle.refusals.specs.Answers.{Verdict}
use Rattle.items.specs.declared.Item.{Item}
use Rattle.items.specs.declared.Compute.{Compute}
use Rattle.refusals.specs.declared.Refusal.{Refusal}
use Rattle.items.specs.declared.Condition.{Condition}
use Rattle.items.specs.declared.LoopCount.{LoopCount}
use Rattle.items.specs.declared.LoopMode.{LoopMode}
use Rattle.items.specs.declared.VisaInstruction.{VisaInstruction}
use Rattle.items.specs.declared.DataAccess.{DataAccess}
use Rattle.items.specs.declared.MemoryAccess.{MemoryAccess}
use Rattle.items.specs.declared.Item.TheVariants as item
use Rattle.bounds.specs.Tables.{at}
use Rattle.bounds.specs.Checks.{check_of}
use Rattle.rows.specs.Fields.{condition_of, count_of, mode_of, instruction_of}
use Rattle.rows.specs.Rows.{after, read_of, item_of, compute_item, dual_item, memory_item, compute_of, beside_of, dm_of, pm_of, access_of}

-- ---- the line of the table of items that a row takes
pub data Sorted (row : List ℕ) : Type 0 where
  of_32 : at row 0 ≡ 32 → item_of row ≡ compute_item (compute_of row) → Sorted row
  of_33 : at row 0 ≡ 33 → item_of row ≡ dual_item (dm_of row) (pm_of row) (beside_of row) → Sorted row
  of_34 : at row 0 ≡ 34 → item_of row ≡ memory_item (access_of row) (beside_of row) → Sorted row
  of_48 : item_of row ≡ Ok (item.Label (at row 1) (at row 2)) → Sorted row
  of_49 : at row 0 ≡ 49 → item_of row ≡ Ok (item.Jump (condition_of (at row 1)) (at row 2) (at row 3)) → Sorted row
  of_50 : at row 0 ≡ 50 → item_of row ≡ Ok (item.LoopBegin (count_of (at row 1) (at row 2)) (mode_of (at row 3))) → Sorted row
  of_51 : item_of row ≡ Ok item.LoopEnd → Sorted row
  of_plain : eqb (at row 0) 48 ≡ false → eqb (at row 0) 49 ≡ false → eqb (at row 0) 50 ≡ false → item_of row ≡ Ok (item.Instruction (instruction_of (at row 0) (at row 1) (at row 2) (at row 3))) → Sorted row

sorted : (row : List ℕ) → Sorted row
unfolding item_of
sorted row = go (eqb (at row 0) 32) (eqb (at row 0) 33) (eqb (at row 0) 34) (eqb (at row 0) 48) (eqb (at row 0) 49) (eqb (at row 0) 50) (eqb (at row 0) 51) refl refl refl refl refl refl refl
  where
    go :
        (a b c d e f g : Bool) → eqb (at row 0) 32 ≡ a → eqb (at row 0) 33 ≡ b → eqb (at row 0) 34 ≡ c → eqb (at row 0) 48 ≡ d → eqb (at row 0) 49 ≡ e →
        eqb (at row 0) 50 ≡ f → eqb (at row 0) 51 ≡ g → Sorted row
    go true b c d e f g p q r s t u w = of_32 (eqb-true _ _ p) (rw p)
    go false true c d e f g p q r s t u w = of_33 (eqb-true _ _ q) (rw (p, q))
    go false false true d e f g p q r s t u w = of_34 (eqb-true _ _ r) (rw (p, q, r))
    go false false false true e f g p q r s t u w = of_48 (rw (p, q, r, s))
    go false false false false true f g p q r s t u w = of_49 (eqb-true _ _ t) (rw (p, q, r, s, t))
    go false false false false false true g p q r s t u w = of_50 (eqb-true _ _ u) (rw (p, q, r, s, t, u))
    go false false false false false false true p q r s t u w = of_51 (rw (p, q, r, s, t, u, w))
    go false false false false false false false p q r s t u w = of_plain s t u (rw (p, q, r, s, t, u, w))

-- a row that is read passes its check, and is its item
pub read-good : (c : Verdict) (r : Result (Item VisaInstruction) Refusal) (i : Item VisaInstruction) → after c r ≡ Ok i → (c ≡ Ok tt) × (r ≡ Ok i)
read-good (Ok _) r i e = (refl, e)
read-good (Err x) r i e = let z : ◌≡◌ {A = ℕ} 0 1 = cc in absurd (omega arith)

-- names matter to labels and labelled jumps alone
nameless : (row : List ℕ) (names : ℕ) → eqb (at row 0) 48 ≡ false → eqb (at row 0) 49 ≡ false → read_of row names ≡ read_of row 0
unfolding read_of check_of
nameless row names p q = rw (p, q)

-- kinds 32 to 34 give instructions and refusals alone
abbrev special : Result (Item VisaInstruction) Refusal → Bool
special (Ok (item.Instruction v)) = false
special (Ok (item.Label a b)) = true
special (Ok (item.Jump c a b)) = true
special (Ok (item.LoopBegin c m)) = true
special (Ok item.LoopEnd) = true
special (Err r) = false

of-made : (m : Result Compute Refusal) → special (compute_item m) ≡ false
of-made (Ok x) = refl
of-made (Err r) = refl

of_dual : (dm pm : DataAccess) (b : Result (Option Compute) Refusal) → special (dual_item dm pm b) ≡ false
of_dual dm pm (Ok x) = refl
of_dual dm pm (Err r) = refl

of-memory : (access : MemoryAccess) (b : Result (Option Compute) Refusal) → special (memory_item access b) ≡ false
of-memory access (Ok x) = refl
of-memory access (Err r) = refl

not_special : {i r : (Result (Item VisaInstruction) Refusal)} {x : (Result (Item VisaInstruction) Refusal)} → special x ≡ true → special r ≡ false → i ≡ r → i ≡ x → ⊥
not_special s n p q = true≢false (sym s ∙ ap special (sym q ∙ p) ∙ n)

module _ (row : List ℕ) (names : ℕ) where
  -- an instruction's row is read alike with any names
  pub instruction-row : (v : VisaInstruction) → read_of row names ≡ Ok (item.Instruction v) → read_of row 0 ≡ Ok (item.Instruction v)
  unfolding read_of
  instruction-row v e = go (sorted row) (read-good (check_of row names) (item_of row) (item.Instruction v) e).1
    where
      other : (k : ℕ) → at row 0 ≡ k → eqb k 48 ≡ false → eqb k 49 ≡ false → read_of row 0 ≡ Ok (item.Instruction v)
      other k p q r = sym (nameless row names (rw p q) (rw p r)) ∙ e

      go : Sorted row → item_of row ≡ Ok (item.Instruction v) → read_of row 0 ≡ Ok (item.Instruction v)
      go (of_32 p q) i = other 32 p refl refl
      go (of_33 p q) i = other 33 p refl refl
      go (of_34 p q) i = other 34 p refl refl
      go (of_48 q) i = let z : ◌≡◌ {A = ℕ} 0 1 = cc in absurd (omega arith)
      go (of_49 p q) i = let z : ◌≡◌ {A = ℕ} 0 1 = cc in absurd (omega arith)
      go (of_50 p q) i = other 50 p refl refl
      go (of_51 q) i = let z : ◌≡◌ {A = ℕ} 0 1 = cc in absurd (omega arith)
      go (of_plain p q r f) i = sym (nameless row names p q) ∙ e

  -- a row of kind 50 is no instruction's
  pub not_fifty : (v : VisaInstruction) → read_of row names ≡ Ok (item.Instruction v) → at row 0 ≡ 50 → ⊥
  unfolding read_of
  not_fifty v e k = go (sorted row) (read-good (check_of row names) (item_of row) (item.Instruction v) e).1
    where
      go : Sorted row → item_of row ≡ Ok (item.Instruction v) → ⊥
      go (of_32 p q) i = omega (arith, k, p)
      go (of_33 p q) i = omega (arith, k, p)
      go (of_34 p q) i = omega (arith, k, p)
      go (of_48 q) i = let z : ◌≡◌ {A = ℕ} 0 1 = cc in omega arith
      go (of_49 p q) i = omega (arith, k, p)
      go (of_50 p q) i = let z : ◌≡◌ {A = ℕ} 0 1 = cc in omega arith
      go (of_51 q) i = let z : ◌≡◌ {A = ℕ} 0 1 = cc in omega arith
      go (of_plain p q r f) i = eqb-false (at row 0) 50 r k

  -- a labelled jump's condition is the row's first field
  pub jump-row : (c : Condition) (a b : ℕ) → read_of row names ≡ Ok (item.Jump c a b) → (at row 0 ≡ 49) × (c ≡ condition_of (at row 1)) × (check_of row names ≡ Ok tt)
  unfolding read_of
  jump-row c a b e = let g = read-good (check_of row names) (item_of row) (item.Jump c a b) e in go (sorted row) g.0 g.1
    where
      go : Sorted row → check_of row names ≡ Ok tt → item_of row ≡ Ok (item.Jump c a b) → (at row 0 ≡ 49) × (c ≡ condition_of (at row 1)) × (check_of row names ≡ Ok tt)
      go (of_32 p q) x i = absurd (not_special refl (of-made (compute_of row)) q i)
      go (of_33 p q) x i = absurd (not_special refl (of_dual (dm_of row) (pm_of row) (beside_of row)) q i)
      go (of_34 p q) x i = absurd (not_special refl (of-memory (access_of row) (beside_of row)) q i)
      go (of_48 q) x i = let z : ◌≡◌ {A = ℕ} 0 1 = cc in absurd (omega arith)
      go (of_49 p q) x i = (p, (let y : c ≡ condition_of (at row 1) = cc in y), x)
      go (of_50 p q) x i = let z : ◌≡◌ {A = ℕ} 0 1 = cc in absurd (omega arith)
      go (of_51 q) x i = let z : ◌≡◌ {A = ℕ} 0 1 = cc in absurd (omega arith)
      go (of_plain p q r f) x i = let z : ◌≡◌ {A = ℕ} 0 1 = cc in absurd (omega arith)

  -- a loop start's count and mode are the row's fields
  pub loop-row :
      (c : LoopCount) (m : LoopMode) → read_of row names ≡ Ok (item.LoopBegin c m) →
      (at row 0 ≡ 50) × (c ≡ count_of (at row 1) (at row 2)) × (m ≡ mode_of (at row 3)) × (check_of row names ≡ Ok tt) × (read_of row 0 ≡ Ok (item.LoopBegin c m))
  unfolding read_of
  loop-row c m e = let g = read-good (check_of row names) (item_of row) (item.LoopBegin c m) e in go (sorted row) g.0 g.1
    where
      go :
          Sorted row → check_of row names ≡ Ok tt → item_of row ≡ Ok (item.LoopBegin c m) →
          (at row 0 ≡ 50) × (c ≡ count_of (at row 1) (at row 2)) × (m ≡ mode_of (at row 3)) × (check_of row names ≡ Ok tt) × (read_of row 0 ≡ Ok (item.LoopBegin c m))
      go (of_32 p q) x i = absurd (not_special refl (of-made (compute_of row)) q i)
      go (of_33 p q) x i = absurd (not_special refl (of_dual (dm_of row) (pm_of row) (beside_of row)) q i)
      go (of_34 p q) x i = absurd (not_special refl (of-memory (access_of row) (beside_of row)) q i)
      go (of_48 q) x i = let z : ◌≡◌ {A = ℕ} 0 1 = cc in absurd (omega arith)
      go (of_49 p q) x i = let z : ◌≡◌ {A = ℕ} 0 1 = cc in absurd (omega arith)
      go (of_50 p q) x i = (
        p,
        (let y : c ≡ count_of (at row 1) (at row 2) = cc in y),
        (let y : m ≡ mode_of (at row 3) = cc in y),
        x,
        sym (nameless row names (rw p refl) (rw p refl)) ∙ e,
      )
      go (of_51 q) x i = let z : ◌≡◌ {A = ℕ} 0 1 = cc in absurd (omega arith)
      go (of_plain p q r f) x i = let z : ◌≡◌ {A = ℕ} 0 1 = cc in absurd (omega arith)
