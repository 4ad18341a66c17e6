-- What is no label and no refusal is read; what stands in a slot, and a label, has no slots.
use mathlib.Core.Path.{◌≡◌, refl, sym}
use mathlib.Core.Bool.{Bool, true, false, true≢false, not}
use Prim.Native.Nat.{ℕ}
use Rattle.std.specs.Prelude.{Ok, Err}
use Rattle.refusals.specs.declared.Refusal.{Refusal}
use Rattle.coded.specs.Coded.{Coded, read_verdict}
use Rattle.items.specs.Kinds.{is_branch}
use Rattle.items.proofs.Branches.{no_branch_no_slots}
use Rattle.items.specs.declared.Item.TheVariants.{Instruction, Label, Jump, LoopBegin, LoopEnd}
use Rattle.slots.specs.Slots.{opens, fills, label}

pub is_read :
    (x : Coded)
    → ((start n : ℕ) → x ≡ Ok (Label start n) → ⊥)
    → ((why : Refusal) → x ≡ Err why → ⊥)
    → (read_verdict x ≡ Ok tt) × (label x ≡ false)
is_read (Ok (Instruction y)) l r = (refl, refl)
is_read (Ok (Label a b)) l r = absurd (l a b refl)
is_read (Ok (Jump c a b)) l r = (refl, refl)
is_read (Ok (LoopBegin c m)) l r = (refl, refl)
is_read (Ok LoopEnd) l r = (refl, refl)
is_read (Err why) l r = absurd (r why refl)

pub label-reads : (x : Coded) → label x ≡ true → (read_verdict x ≡ Ok tt) × (opens x ≡ false)
label-reads (Ok (Instruction y)) e = absurd (true≢false (sym e))
label-reads (Ok (Label a b)) e = (refl, refl)
label-reads (Ok (Jump c a b)) e = absurd (true≢false (sym e))
label-reads (Ok (LoopBegin c m)) e = absurd (true≢false (sym e))
label-reads (Ok LoopEnd) e = absurd (true≢false (sym e))
label-reads (Err r) e = absurd (true≢false (sym e))

not_so : (b : Bool) → not b ≡ true → b ≡ false
not_so true e = absurd (true≢false (sym e))
not_so false e = refl

pub fills-opens : (x : Coded) → fills x ≡ true → opens x ≡ false
fills-opens (Ok (Instruction y)) e = no_branch_no_slots y.kind (not_so (is_branch y.kind) e)
fills-opens (Ok (Label a b)) e = refl
fills-opens (Ok (Jump c a b)) e = refl
fills-opens (Ok (LoopBegin c m)) e = refl
fills-opens (Ok LoopEnd) e = refl
fills-opens (Err r) e = refl
