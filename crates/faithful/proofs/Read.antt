-- From a row that is read to its kind, its fields and its item.
use Prim.Native.Nat.{ℕ, ◌%◌, ◌<◌}
use native.Mathlib.Omega.{arith}
use mathlib.Core.Path.{◌≡◌, refl}
use mathlib.Core.Bool.{Bool, true, false, cond}
use mathlib.Core.List.{List, [], ◌∷◌}
use lib.Dec.{eqb}
use borrow.Author.Tests.{eqb-true, eqb-false}
use Rattle.std.specs.Prelude.{Ok, Err, Result, Option}
use Rattle.refusals.specs.Answers.{Verdict}
use Rattle.items.specs.declared.Item.{Item}
use Rattle.items.specs.declared.Compute.{Compute}
use Rattle.refusals.specs.declared.Refusal.{Refusal}
use Rattle.items.specs.declared.VisaInstruction.{VisaInstruction}
use Rattle.items.specs.declared.DataAccess.{DataAccess}
use Rattle.items.specs.declared.MemoryAccess.{MemoryAccess}
use Rattle.items.specs.declared.Condition.{Condition}
use Rattle.items.specs.declared.LoopCount.{LoopCount}
use Rattle.items.specs.declared.LoopCount.TheVariants as count
use Rattle.items.specs.declared.LoopMode.{LoopMode}
use Rattle.items.specs.declared.Item.TheVariants as item
use Rattle.computes.proofs.Ranged.{RangedCount}
use Rattle.bounds.specs.Tables.{lookup}
use Rattle.bounds.specs.Bounds.{never, filled, fields, bounds_of}
use Rattle.bounds.specs.Checks.{check_of}
use Rattle.rows.specs.Fields.{instruction_of, count_of, code}
use Rattle.rows.specs.Rows.{item_of, after, read_of, compute_item, dual_item, memory_item, compute_of, beside_of, dm_of, pm_of, access_of}
use Rattle.rows.specs.Kept.{Below}
use Rattle.rows.proofs.Kept.{within-bounds}
use Rattle.faithful.proofs.Lines.{◌&◌, Inside}

-- a row that is read is within its bounds
pub read-good : (c : Verdict) (r : Result (Item VisaInstruction) Refusal) (i : Item VisaInstruction) → after c r ≡ Ok i → (c ≡ Ok tt) × (r ≡ Ok i)
read-good (Ok _) r i e = (refl, e)
read-good (Err x) r i e = let z : ◌≡◌ {A = ℕ} 0 1 = cc in absurd (omega arith)

-- the first three places of a line
front : (l vs : List ℕ) (a b c : ℕ) → Below (filled 16 l) (a ∷ b ∷ c ∷ vs) → Below (filled 3 l) (a ∷ b ∷ c ∷ [])
front [] vs a b c h = h.0 & h.1.0 & h.1.1.0 & tt
front (x ∷ []) vs a b c h = h.0 & h.1.0 & h.1.1.0 & tt
front (x ∷ y ∷ []) vs a b c h = h.0 & h.1.0 & h.1.1.0 & tt
front (x ∷ y ∷ z ∷ l) vs a b c h = h.0 & h.1.0 & h.1.1.0 & tt

-- which line of the table of items a row takes that is read as an instruction
pub data Which (k : ℕ) (v plain : VisaInstruction) (compute dual memory : Result (Item VisaInstruction) Refusal) : Type 0 where
  is_plain : eqb k 32 ≡ false → eqb k 33 ≡ false → eqb k 34 ≡ false → eqb k 50 ≡ false → v ≡ plain → Which k v plain compute dual memory
  is-compute : k ≡ 32 → compute ≡ Ok (item.Instruction v) → Which k v plain compute dual memory
  is_dual : k ≡ 33 → dual ≡ Ok (item.Instruction v) → Which k v plain compute dual memory
  is-memory : k ≡ 34 → memory ≡ Ok (item.Instruction v) → Which k v plain compute dual memory

module _ (k : ℕ) (v plain : VisaInstruction) (compute dual memory : Result (Item VisaInstruction) Refusal) (x y s m : ℕ) (condition : Condition) (count : LoopCount) (mode : LoopMode) where
  which :
      (t32 t33 t34 t48 t49 t50 t51 : Bool) → eqb k 32 ≡ t32 → eqb k 33 ≡ t33 → eqb k 34 ≡ t34 → eqb k 50 ≡ t50 →
      cond t32 compute (cond t33 dual (cond t34 memory (cond t48 (Ok (item.Label x y)) (cond t49 (Ok (item.Jump condition s m))
      (cond t50 (Ok (item.LoopBegin count mode)) (cond t51 (Ok item.LoopEnd) (Ok (item.Instruction plain)))))))) ≡ Ok (item.Instruction v) →
      Which k v plain compute dual memory
  which true t33 t34 t48 t49 t50 t51 a b c d e = is-compute (eqb-true k 32 a) e
  which false true t34 t48 t49 t50 t51 a b c d e = is_dual (eqb-true k 33 b) e
  which false false true t48 t49 t50 t51 a b c d e = is-memory (eqb-true k 34 c) e
  which false false false true t49 t50 t51 a b c d e = let z : ◌≡◌ {A = ℕ} 0 1 = cc in absurd (omega arith)
  which false false false false true t50 t51 a b c d e = let z : ◌≡◌ {A = ℕ} 0 1 = cc in absurd (omega arith)
  which false false false false false true t51 a b c d e = let z : ◌≡◌ {A = ℕ} 0 1 = cc in absurd (omega arith)
  which false false false false false false true a b c d e = let z : ◌≡◌ {A = ℕ} 0 1 = cc in absurd (omega arith)
  which false false false false false false false a b c d e = is_plain a b c d (let q : v ≡ plain = cc in q)

-- what is known of a row that is read as an instruction
pub record Known (k a b c : ℕ) (vs : List ℕ) (v : VisaInstruction) : Type 0 where
  pub bounds : Below (bounds_of (k ∷ a ∷ b ∷ c ∷ vs)) (a ∷ b ∷ c ∷ vs)
  pub kind : Which k v (instruction_of k a b c) (compute_item (compute_of (k ∷ a ∷ b ∷ c ∷ vs)))
      (dual_item (dm_of (k ∷ a ∷ b ∷ c ∷ vs)) (pm_of (k ∷ a ∷ b ∷ c ∷ vs)) (beside_of (k ∷ a ∷ b ∷ c ∷ vs)))
      (memory_item (access_of (k ∷ a ∷ b ∷ c ∷ vs)) (beside_of (k ∷ a ∷ b ∷ c ∷ vs)))

pub known : (k a b c : ℕ) (vs : List ℕ) (names : ℕ) (v : VisaInstruction) → read_of (k ∷ a ∷ b ∷ c ∷ vs) names ≡ Ok (item.Instruction v) → Known k a b c vs v
unfolding read_of item_of
known k a b c vs names v e =
    let row = k ∷ a ∷ b ∷ c ∷ vs in
    let g = read-good (check_of row names) (item_of row) (item.Instruction v) e in record {
      bounds = within-bounds row names g.0;
      kind = which k v (instruction_of k a b c) _ _ _ _ _ _ _ _ _ _ (eqb k 32) (eqb k 33) (eqb k 34) (eqb k 48) (eqb k 49) (eqb k 50) (eqb k 51) refl refl refl refl g.1;
    }

-- the three fields of a kind without a compute lie within the kind's bounds
module _ (k a b c : ℕ) (vs : List ℕ) (h32 : eqb k 32 ≡ false) (h33 : eqb k 33 ≡ false) (h34 : eqb k 34 ≡ false) (h50 : eqb k 50 ≡ false) where
  pub line-bounds : Below (bounds_of (k ∷ a ∷ b ∷ c ∷ vs)) (a ∷ b ∷ c ∷ vs) → Below (filled 16 (lookup k fields (never ∷ []))) (a ∷ b ∷ c ∷ vs)
  unfolding bounds_of
  line-bounds h = rw (h32, h33, h34, h50) at h

  pub inside : Below (bounds_of (k ∷ a ∷ b ∷ c ∷ vs)) (a ∷ b ∷ c ∷ vs) → Inside k a b c
  inside h = front (lookup k fields (never ∷ [])) vs a b c (line-bounds h)

-- ---- a loop start
no-compute : (m : Result Compute Refusal) (c : LoopCount) (o : LoopMode) → compute_item m ≡ Ok (item.LoopBegin c o) → ⊥
no-compute (Ok x) c o e = let z : ◌≡◌ {A = ℕ} 0 1 = cc in omega arith
no-compute (Err r) c o e = let z : ◌≡◌ {A = ℕ} 0 1 = cc in omega arith

no_dual : (dm pm : DataAccess) (b : Result (Option Compute) Refusal) (c : LoopCount) (o : LoopMode) → dual_item dm pm b ≡ Ok (item.LoopBegin c o) → ⊥
no_dual dm pm (Ok x) c o e = let z : ◌≡◌ {A = ℕ} 0 1 = cc in omega arith
no_dual dm pm (Err r) c o e = let z : ◌≡◌ {A = ℕ} 0 1 = cc in omega arith

no-memory : (access : MemoryAccess) (b : Result (Option Compute) Refusal) (c : LoopCount) (o : LoopMode) → memory_item access b ≡ Ok (item.LoopBegin c o) → ⊥
no-memory access (Ok x) c o e = let z : ◌≡◌ {A = ℕ} 0 1 = cc in omega arith
no-memory access (Err r) c o e = let z : ◌≡◌ {A = ℕ} 0 1 = cc in omega arith

module _ (row : List ℕ) (c : LoopCount) (o : LoopMode) (plain : VisaInstruction) (x y s m : ℕ) (condition : Condition) (count : LoopCount) (mode : LoopMode) where
  loop-item :
      (t32 t33 t34 t48 t49 t50 t51 : Bool) →
      cond t32 (compute_item (compute_of row)) (cond t33 (dual_item (dm_of row) (pm_of row) (beside_of row)) (cond t34 (memory_item (access_of row) (beside_of row))
      (cond t48 (Ok (item.Label x y)) (cond t49 (Ok (item.Jump condition s m))
      (cond t50 (Ok (item.LoopBegin count mode)) (cond t51 (Ok item.LoopEnd) (Ok (item.Instruction plain)))))))) ≡ Ok (item.LoopBegin c o) →
      (t32 ≡ false) × (t33 ≡ false) × (t34 ≡ false) × (t50 ≡ true) × (c ≡ count)
  loop-item true t33 t34 t48 t49 t50 t51 e = absurd (no-compute (compute_of row) c o e)
  loop-item false true t34 t48 t49 t50 t51 e = absurd (no_dual (dm_of row) (pm_of row) (beside_of row) c o e)
  loop-item false false true t48 t49 t50 t51 e = absurd (no-memory (access_of row) (beside_of row) c o e)
  loop-item false false false true t49 t50 t51 e = let z : ◌≡◌ {A = ℕ} 0 1 = cc in absurd (omega arith)
  loop-item false false false false true t50 t51 e = let z : ◌≡◌ {A = ℕ} 0 1 = cc in absurd (omega arith)
  loop-item false false false false false true t51 e = (refl, refl, refl, refl, let q : c ≡ count = cc in q)
  loop-item false false false false false false true e = let z : ◌≡◌ {A = ℕ} 0 1 = cc in absurd (omega arith)
  loop-item false false false false false false false e = let z : ◌≡◌ {A = ℕ} 0 1 = cc in absurd (omega arith)

counted : (a b : ℕ) (t0 t1 : Bool) → eqb a 0 ≡ t0 → eqb a 1 ≡ t1 → a < 2 → b < cond t1 0x60 65536 →
    RangedCount (cond t0 (count.Immediate (b % 65536)) (cond t1 (count.Register (code b)) (count.Register (code b))))
counted a b true t1 e f h g = omega arith
counted a b false true e f h g = omega arith
counted a b false false e f h g =
    let p = eqb-false a 0 e in
    let q = eqb-false a 1 f in
    absurd (omega arith)

pub loop-ranged : (k a b d : ℕ) (vs : List ℕ) (names : ℕ) (c : LoopCount) (o : LoopMode) → read_of (k ∷ a ∷ b ∷ d ∷ vs) names ≡ Ok (item.LoopBegin c o) → RangedCount c
unfolding read_of item_of bounds_of count_of
loop-ranged k a b d vs names c o e =
    let row = k ∷ a ∷ b ∷ d ∷ vs in
    let g = read-good (check_of row names) (item_of row) (item.LoopBegin c o) e in
    let i = loop-item row c o (instruction_of k a b d) _ _ _ _ _ _ _ (eqb k 32) (eqb k 33) (eqb k 34) (eqb k 48) (eqb k 49) (eqb k 50) (eqb k 51) g.1 in
    let w = rw (i.0, i.1, i.2, i.3) at (within-bounds row names g.0) in
    rw i.4 (counted a b (eqb a 0) (eqb a 1) refl refl w.0 w.1.0)
