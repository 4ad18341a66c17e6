-- What a row counts for that is read is told by its kind.
use mathlib.Core.Path.{◌≡◌, refl, sym, ap, ◌∙◌, subst}
use mathlib.Core.Bool.{Bool, true, false, false≢true, ◌||◌}
use mathlib.Core.List.{List, [], ◌∷◌}
use Prim.Native.Nat.{ℕ, ◌*◌, ◌≤◌}
use native.Mathlib.Omega.{arith}
use lib.ListN.{length, get_or}
use lib.Dec.{eqb}
use borrow.Author.Tests.{eqb-true}
use Rattle.std.specs.Prelude.{Ok, Err, Result, Option}
use Rattle.refusals.specs.Answers.{Verdict}
use Rattle.items.specs.declared.Compute.{Compute}
use Rattle.refusals.specs.declared.Refusal.{Refusal}
use Rattle.items.specs.declared.Item.{Item}
use Rattle.items.specs.declared.VisaInstruction.{VisaInstruction}
use Rattle.coded.specs.Coded.{Coded, coded_of, read_verdict}
use Rattle.refusals.proofs.Order.{refused-good}
use Rattle.items.specs.declared.DataAccess.{DataAccess}
use Rattle.items.specs.declared.MemoryAccess.{MemoryAccess}
use Rattle.bounds.specs.Tables.{at}
use Rattle.bounds.specs.Checks.{check_of}
use Rattle.rows.specs.Rows.{row_width, after, read_of, item_of, compute_item, dual_item, memory_item, compute_of, beside_of, dm_of, pm_of, access_of}
use Rattle.places.specs.Items.{row_at, about}
use Rattle.widening.specs.declared.tails.Counted.{Counted}
use Rattle.widening.specs.Widening.{has_twin, row_of}
use Rattle.widening.specs.Walks.{mark, mark_of}
use Rattle.widening.proofs.Cells.{kind-cell}

-- an item counts for this
pub record Marked (m : Counted) (x : Coded) : Type 0 where
  pub entry : (about x).entry ≡ m.entry
  pub opens : (about x).opens ≡ m.opens
  pub closes : (about x).closes ≡ m.closes

-- what is read counts for this
abbrev Reads : Counted → Result (Item VisaInstruction) Refusal → Type 0
Reads m r = read_verdict (coded_of r) ≡ Ok tt → Marked m (coded_of r)

-- an instruction
entry : {x : Coded} → (about x).entry ≡ 1 → (about x).opens ≡ 0 → (about x).closes ≡ 0 → Marked (mark 1 0 0) x
entry e o c = record { entry = e; opens = o; closes = c }

of-compute : (m : Result Compute Refusal) → Reads (mark 1 0 0) (compute_item m)
of-compute (Ok x) e = entry refl refl refl
of-compute (Err r) e = absurd (refused-good r e)

of_dual : (dm pm : DataAccess) (b : Result (Option Compute) Refusal) → Reads (mark 1 0 0) (dual_item dm pm b)
of_dual dm pm (Ok x) e = entry refl refl refl
of_dual dm pm (Err r) e = absurd (refused-good r e)

of-memory : (access : MemoryAccess) (b : Result (Option Compute) Refusal) → Reads (mark 1 0 0) (memory_item access b)
of-memory access (Ok x) e = entry refl refl refl
of-memory access (Err r) e = absurd (refused-good r e)

-- kinds 32, 33 and 34, 48 to 51, and every other
item-marked : (row : List ℕ) → Reads (mark_of (at row 0)) (item_of row)
unfolding item_of mark_of
item-marked row = go (eqb (at row 0) 32) (eqb (at row 0) 33) (eqb (at row 0) 34) (eqb (at row 0) 48) (eqb (at row 0) 49) (eqb (at row 0) 50) (eqb (at row 0) 51) refl refl refl refl refl refl refl
  where
    go :
        (a b c d e f g : Bool) → eqb (at row 0) 32 ≡ a → eqb (at row 0) 33 ≡ b → eqb (at row 0) 34 ≡ c → eqb (at row 0) 48 ≡ d → eqb (at row 0) 49 ≡ e →
        eqb (at row 0) 50 ≡ f → eqb (at row 0) 51 ≡ g → Reads (mark_of (at row 0)) (item_of row)
    go true b c d e f g p q r s t u w = let k = eqb-true (at row 0) 32 p in rw (k) (of-compute (compute_of row))
    go false true c d e f g p q r s t u w = let k = eqb-true (at row 0) 33 q in rw (k) (of_dual (dm_of row) (pm_of row) (beside_of row))
    go false false true d e f g p q r s t u w = let k = eqb-true (at row 0) 34 r in rw (k) (of-memory (access_of row) (beside_of row))
    go false false false true e f g p q r s t u w = rw (p, q, r, s) (λ z. record { entry = refl; opens = refl; closes = refl })
    go false false false false true f g p q r s t u w = let k = eqb-true (at row 0) 49 t in rw (k) (λ z. record { entry = refl; opens = refl; closes = refl })
    go false false false false false true g p q r s t u w = rw (p, q, r, s, t, u) (λ z. record { entry = refl; opens = refl; closes = refl })
    go false false false false false false true p q r s t u w = rw (p, q, r, s, t, u, w) (λ z. record { entry = refl; opens = refl; closes = refl })
    go false false false false false false false p q r s t u w = rw (p, q, r, s, t, u, w) (λ z. record { entry = refl; opens = refl; closes = refl })

checked_marked : (c : Verdict) (row : List ℕ) → Reads (mark_of (at row 0)) (after c (item_of row))
checked_marked (Ok _) row e = item-marked row e
checked_marked (Err r) row e = absurd (refused-good r e)

-- row i, where its kind stands in the rows
pub row-marked : (rows names : List ℕ) (i : ℕ) → read_verdict (row_at rows names i) ≡ Ok tt → Marked (mark_of (get_or rows (i * row_width) 0)) (row_at rows names i)
unfolding read_of
row-marked rows names i e =
    subst (λ (k : ℕ). Marked (mark_of k) (row_at rows names i)) (kind-cell rows i) (checked_marked (check_of (row_of rows i) (length names)) (row_of rows i) e)

-- ---- the marks themselves
pub record Small (m : Counted) : Type 0 where
  pub entry : m.entry ≤ 1
  pub opens : m.opens ≤ 1

pub mark-small : (k : ℕ) → Small (mark_of k)
unfolding mark_of
mark-small k = go (eqb k 48) (eqb k 50) (eqb k 51) refl refl refl
  where
    go : (a b c : Bool) → eqb k 48 ≡ a → eqb k 50 ≡ b → eqb k 51 ≡ c → Small (mark_of k)
    go true b c p q r = rw (p) (record { entry = omega arith; opens = omega arith })
    go false true c p q r = rw (p, q) (record { entry = omega arith; opens = omega arith })
    go false false true p q r = rw (p, q, r) (record { entry = omega arith; opens = omega arith })
    go false false false p q r = rw (p, q, r) (record { entry = omega arith; opens = omega arith })

-- a kind that has a twin is an instruction's
pub twin-mark : (k : ℕ) → has_twin (k ∷ []) ≡ true → mark_of k ≡ mark 1 0 0
unfolding mark_of
twin-mark k = go (eqb k 19) (eqb k 20) (eqb k 21) (eqb k 22) (eqb k 38) refl refl refl refl refl
  where
    go : (a b c d e : Bool) → eqb k 19 ≡ a → eqb k 20 ≡ b → eqb k 21 ≡ c → eqb k 22 ≡ d → eqb k 38 ≡ e → (a || (b || (c || (d || (e || false))))) ≡ true → mark_of k ≡ mark 1 0 0
    go true b c d e p q r s t h = rw (eqb-true k 19 p)
    go false true c d e p q r s t h = rw (eqb-true k 20 q)
    go false false true d e p q r s t h = rw (eqb-true k 21 r)
    go false false false true e p q r s t h = rw (eqb-true k 22 s)
    go false false false false true p q r s t h = rw (eqb-true k 38 t)
    go false false false false false p q r s t h = absurd (false≢true h)

pub twin-marked : (rows names : List ℕ) (i : ℕ) → read_verdict (row_at rows names i) ≡ Ok tt → has_twin (row_of rows i) ≡ true → Marked (mark 1 0 0) (row_at rows names i)
twin-marked rows names i e h =
    subst (λ (m : Counted). Marked m (row_at rows names i)) (ap mark_of (sym (kind-cell rows i)) ∙ twin-mark (at (row_of rows i) 0) h) (row-marked rows names i e)
