-- When a jump's and a loop start's word can be made: its offset lies in reach, and an immediate count is not 0.
-- The difference of two places is tested as a signed number; its two ends are said of the places.
use Prim.Native.Nat.{ℕ, zero, suc, ◌+◌, ◌-◌, ◌≤◌, ◌<◌}
use native.Mathlib.Omega.{arith}
use mathlib.Core.Path.{◌≡◌, refl}
use mathlib.Core.Logic.{◌↔◌}
use mathlib.Core.Bool.{Bool, true, false, not, ◌&&◌}
use lib.IntN.{ℤ, pos, negsuc, ◌-ℤ◌}
use lib.Dec.{ltb, leb}
use borrow.Author.Tests.{ltb-true, ltb-false, leb-true, le-leb, eqb-false, ne_eqb, not-false}
use Rattle.signs.specs.Signs.{within}
use Rattle.items.specs.declared.Condition.{Condition}
use Rattle.items.specs.declared.LoopCount.{LoopCount}
use Rattle.items.specs.declared.LoopCount.TheVariants.{Immediate, Register}
use Rattle.items.specs.declared.LoopMode.{LoopMode}
use Rattle.std.specs.Prelude.{Ok}
use Rattle.encode.specs.declared.Form.TheVariants.{Word}
use Rattle.encode.specs.Layouts.{jump_layout, loop_layout}
use Rattle.encode.specs.Encoding.{form_verdict, jump_form, loop_form}
use Rattle.refusals.proofs.Order.{when-good, good-when}
use Rattle.encode.proofs.Passed.{good-passed, good-word, passed-good}

-- ---- a difference of two places, from -(h + 1) to h
and_true : (t : Bool) → (t && true) ≡ t
and_true true = refl
and_true false = refl

below : (h k : ℕ) → within (negsuc h) (pos h) (negsuc k) ≡ leb k h
below h k = and_true (leb k h)

pub within-apart : (h a b : ℕ) → within (negsuc h) (pos h) (pos a -ℤ pos b) ≡ true ↔ ((b ≤ a + suc h) × (a ≤ b + h))
within-apart h a zero = ((λ e. let l : a + 0 ≤ h = leb-true (a + 0) h e in omega arith), (λ r. le-leb (a + 0) h (let u = r.1 in omega arith)))
within-apart h a (suc b) = go (ltb a (suc b)) refl
  where
    go : (t : Bool) → ltb a (suc b) ≡ t → within (negsuc h) (pos h) (pos a -ℤ pos (suc b)) ≡ true ↔ ((suc b ≤ a + suc h) × (a ≤ suc b + h))
    go true e =
        let l = ltb-true a (suc b) e in
        rw (e, below h (suc b - suc a))
        ((λ t. let u = leb-true (suc b - suc a) h t in omega arith), (λ r. le-leb (suc b - suc a) h (let u = r.0 in omega arith)))
    go false e =
        let l = ltb-false a (suc b) e in
        rw e ((λ t. let u = leb-true (a - suc b) h t in omega arith), (λ r. le-leb (a - suc b) h (let u = r.1 in omega arith)))

no_not : (t : Bool) → t ≡ true → not t ≡ false
no_not t e = rw e

-- a jump's offset, label minus jump start, from -0x800000 to 0x7fffff
pub jump-reach : (c : Condition) (a b : ℕ) (d : Bool) → form_verdict (jump_form c (pos a -ℤ pos b) d) ≡ Ok tt ↔ ((b ≤ a + 0x80_0000) × (a < b + 0x80_0000))
unfolding jump_form
jump-reach c a b d =
    let l = jump_layout c (pos a -ℤ pos b) d in
    let w = within-apart 0x7f_ffff a b in (
      (λ e. let r = w.0 (not-false _ (when-good _ _ (good-passed l e).0)) in omega arith),
      (λ r. passed-good l (good-when _ _ (no_not _ (w.1 (omega arith))), tt)),
    )

pub jump-word : (c : Condition) (z : ℤ) (d : Bool) → form_verdict (jump_form c z d) ≡ Ok tt → (w : ℕ) × (jump_form c z d ≡ Ok (Word w))
unfolding jump_form
jump-word c z d e = (_, good-word (jump_layout c z d) e)

-- a loop's offset, from -0x400000 to 0x3fffff, and its count
pub loop-reach : (c : LoopCount) (m : LoopMode) (a b : ℕ) → form_verdict (loop_form c m (pos a -ℤ pos b)) ≡ Ok tt ↔ ((b ≤ a + 0x40_0000) × (a < b + 0x40_0000) × (c ≡ Immediate 0 → ⊥))
unfolding loop_form
loop-reach (Immediate n) m a b =
    let l = loop_layout (Immediate n) m (pos a -ℤ pos b) in
    let w = within-apart 0x3f_ffff a b in (
      (λ e.
          let p = good-passed l e in
          let r = w.0 (not-false _ (when-good _ _ p.0)) in
          (omega arith, omega arith, λ z. eqb-false n 0 (when-good _ _ p.1.0) (let y : n ≡ 0 = cc in y))),
      (λ r. passed-good l (good-when _ _ (no_not _ (w.1 (let u = r.0 in let v = r.1 in omega arith))), (good-when _ _ (ne_eqb n 0 (λ z. r.2 (rw z))), tt))),
    )
loop-reach (Register u) m a b =
    let l = loop_layout (Register u) m (pos a -ℤ pos b) in
    let w = within-apart 0x3f_ffff a b in (
      (λ e. let r = w.0 (not-false _ (when-good _ _ (good-passed l e).0)) in (omega arith, omega arith, λ z. let y : ◌≡◌ {A = ℕ} 0 1 = cc in omega arith)),
      (λ r. passed-good l (good-when _ _ (no_not _ (w.1 (let u = r.0 in let v = r.1 in omega arith))), (refl, tt))),
    )

pub loop-word : (c : LoopCount) (m : LoopMode) (z : ℤ) → form_verdict (loop_form c m z) ≡ Ok tt → (w : ℕ) × (loop_form c m z ≡ Ok (Word w))
unfolding loop_form
loop-word (Immediate n) m z e = (_, good-word (loop_layout (Immediate n) m z) e)
loop-word (Register r) m z e = (_, good-word (loop_layout (Register r) m z) e)
