-- What an item counts for, by its kind.
use Prim.Native.Nat.{ℕ, ◌+◌, ◌≤◌}
use native.Mathlib.Omega.{arith}
use mathlib.Core.Path.{◌≡◌, refl}
use mathlib.Core.Bool.{Bool, true, false, cond}
use lib.Dec.{eqb}
use borrow.Author.Tests.{eqb-true, eqb-false}
use Rattle.items.specs.declared.LoopCount.{LoopCount}
use Rattle.items.specs.declared.LoopMode.{LoopMode}
use Rattle.items.specs.declared.Item.TheVariants.{Instruction, Label, Jump, LoopBegin, LoopEnd}
use Rattle.std.specs.Prelude.{Ok, Err}
use Rattle.coded.specs.Coded.{Coded}
use Rattle.places.specs.Items.{size_of, about, size, is_entry}

pub entry-bit : (x : Coded) → is_entry x ≤ 1
entry-bit (Ok (Instruction v)) = omega arith
entry-bit (Ok (Label a b)) = omega arith
entry-bit (Ok (Jump c a b)) = omega arith
entry-bit (Ok (LoopBegin c m)) = omega arith
entry-bit (Ok LoopEnd) = omega arith
entry-bit (Err r) = omega arith

-- no item is a loop start and a loop end
pub one_way : (x : Coded) → (about x).opens + (about x).closes ≤ 1
one_way (Ok (Instruction v)) = omega arith
one_way (Ok (Label a b)) = omega arith
one_way (Ok (Jump c a b)) = omega arith
one_way (Ok (LoopBegin c m)) = omega arith
one_way (Ok LoopEnd) = omega arith
one_way (Err r) = omega arith

pub opens_begin : (x : Coded) → (about x).opens ≡ 1 → (c : LoopCount) × (m : LoopMode) × (x ≡ Ok (LoopBegin c m))
opens_begin (Ok (Instruction v)) e = absurd (omega arith)
opens_begin (Ok (Label a b)) e = absurd (omega arith)
opens_begin (Ok (Jump c a b)) e = absurd (omega arith)
opens_begin (Ok (LoopBegin c m)) e = (c, m, refl)
opens_begin (Ok LoopEnd) e = absurd (omega arith)
opens_begin (Err r) e = absurd (omega arith)

pub opens-entry : (x : Coded) → (about x).opens ≡ 1 → is_entry x ≡ 1
opens-entry x e = let b = opens_begin x e in rw b.2

pub closes-end : (x : Coded) → (about x).closes ≡ 1 → x ≡ Ok LoopEnd
closes-end (Ok (Instruction v)) e = absurd (omega arith)
closes-end (Ok (Label a b)) e = absurd (omega arith)
closes-end (Ok (Jump c a b)) e = absurd (omega arith)
closes-end (Ok (LoopBegin c m)) e = absurd (omega arith)
closes-end (Ok LoopEnd) e = refl
closes-end (Err r) e = absurd (omega arith)

-- ---- a short instruction does not take three parcels, and each other entry does
not_three : (n : ℕ) (t : Bool) → eqb n 3 ≡ t → ◌≡◌ {A = ℕ} (cond t 0 1) 1 → n ≡ 3 → ⊥
not_three n true e f q = omega arith
not_three n false e f q = eqb-false n 3 e q

three : (n : ℕ) (t : Bool) → eqb n 3 ≡ t → (◌≡◌ {A = ℕ} (cond t 0 1) 1 → ⊥) → n ≡ 3
three n true e f = eqb-true n 3 e
three n false e f = absurd (f refl)

pub short-entry : (x : Coded) → (about x).short ≡ 1 → (is_entry x ≡ 1) × (size x ≡ 3 → ⊥)
short-entry (Ok (Instruction v)) e = (refl, not_three (size_of v.form) (eqb (size_of v.form) 3) refl e)
short-entry (Ok (Label a b)) e = absurd (omega arith)
short-entry (Ok (Jump c a b)) e = absurd (omega arith)
short-entry (Ok (LoopBegin c m)) e = absurd (omega arith)
short-entry (Ok LoopEnd) e = absurd (omega arith)
short-entry (Err r) e = absurd (omega arith)

pub wide-entry : (x : Coded) → is_entry x ≡ 1 → ((about x).short ≡ 1 → ⊥) → size x ≡ 3
wide-entry (Ok (Instruction v)) e f = three (size_of v.form) (eqb (size_of v.form) 3) refl f
wide-entry (Ok (Label a b)) e f = absurd (omega arith)
wide-entry (Ok (Jump c a b)) e f = refl
wide-entry (Ok (LoopBegin c m)) e f = refl
wide-entry (Ok LoopEnd) e f = absurd (omega arith)
wide-entry (Err r) e f = absurd (omega arith)
