-- The word of a jump and of a loop start that encodes: faithful to its fields; its lowest 24 (23) bits are the folded offset, and hold the signed one.
use Prim.Native.Nat.{ℕ, ◌^◌, ◌<◌}
use native.Mathlib.Omega.{arith}
use mathlib.Core.Path.{◌≡◌, refl, sym, ap, ◌∙◌}
use mathlib.Core.Bool.{Bool, true}
use lib.IntN.{ℤ, pos, negsuc}
use borrow.Author.Tests.{not-false}
use Rattle.fields.specs.Pack.{pack, field}
use Rattle.fields.specs.Faithful.{Faithful}
use Rattle.fields.proofs.Packed.{faithful}
use Rattle.signs.specs.Signs.{folded, signed_in, within}
use Rattle.signs.proofs.Ints.{folded_back}
use Rattle.std.specs.Prelude.{Ok, Result}
use Rattle.items.specs.declared.Condition.{Condition}
use Rattle.items.specs.declared.LoopCount.{LoopCount}
use Rattle.items.specs.declared.LoopCount.TheVariants.{Immediate, Register}
use Rattle.items.specs.declared.LoopMode.{LoopMode}
use Rattle.computes.proofs.Ranged.{RangedCount}
use Rattle.words.specs.Forms.{bit_of, condition_code, is_f1, jump8a, loop12a, register_loop12a}
use Rattle.words.proofs.Tiling.{tiles_8a, tiles_12a, tiles_12a_register}
use Rattle.refusals.specs.declared.Refusal.{Refusal}
use Rattle.encode.specs.declared.Form.{Form}
use Rattle.encode.specs.declared.Form.TheVariants.{Word}
use Rattle.encode.specs.Layouts.{jump_layout, loop_layout}
use Rattle.encode.specs.Encoding.{form_verdict, jump_form, loop_form}
use Rattle.refusals.proofs.Order.{when-good}
use Rattle.encode.proofs.Passed.{good-passed, good-word}
use Rattle.encode.proofs.Fitting.{bit-small, code-small, tested_fits}

-- ---- the offset was tested
jump-within : (c : Condition) (z : ℤ) (d : Bool) → form_verdict (jump_form c z d) ≡ Ok tt → within (negsuc 0x7f_ffff) (pos 0x7f_ffff) z ≡ true
unfolding jump_form
jump-within c z d g = not-false _ (when-good _ _ (good-passed (jump_layout c z d) g).0)

loop-within : (c : LoopCount) (m : LoopMode) (z : ℤ) → form_verdict (loop_form c m z) ≡ Ok tt → within (negsuc 0x3f_ffff) (pos 0x3f_ffff) z ≡ true
unfolding loop_form
loop-within (Immediate n) m z g = not-false _ (when-good _ _ (good-passed (loop_layout (Immediate n) m z) g).0)
loop-within (Register r) m z g = not-false _ (when-good _ _ (good-passed (loop_layout (Register r) m z) g).0)

-- ---- THE THEOREMS of jumps and loop starts
pub jump-faithful : (c : Condition) (z : ℤ) (d : Bool) → form_verdict (jump_form c z d) ≡ Ok tt → Faithful 48 (jump_layout c z d).fields
jump-faithful c z d g =
    faithful 48 (jump_layout c z d).fields (tiles_8a 0 0 0) (omega (arith, code-small c, bit-small d, tested_fits 24 0x7f_ffff z refl (jump-within c z d g)))

pub loop-faithful : (c : LoopCount) (m : LoopMode) (z : ℤ) → RangedCount c → form_verdict (loop_form c m z) ≡ Ok tt → Faithful 48 (loop_layout c m z).fields
loop-faithful (Immediate n) m z h g =
    faithful 48 (loop_layout (Immediate n) m z).fields (tiles_12a 0 0 0) (omega (arith, bit-small (is_f1 m), tested_fits 23 0x3f_ffff z refl (loop-within (Immediate n) m z g)))
loop-faithful (Register r) m z h g =
    faithful 48 (loop_layout (Register r) m z).fields (tiles_12a_register 0 0 0) (omega (arith, bit-small (is_f1 m), tested_fits 23 0x3f_ffff z refl (loop-within (Register r) m z g)))

-- what encodes is the word of its fields
pub jump-is : (c : Condition) (z : ℤ) (d : Bool) → form_verdict (jump_form c z d) ≡ Ok tt → jump_form c z d ≡ Ok (Word (pack (jump_layout c z d).fields))
unfolding jump_form
jump-is c z d g = good-word (jump_layout c z d) g

pub loop-is : (c : LoopCount) (m : LoopMode) (z : ℤ) → form_verdict (loop_form c m z) ≡ Ok tt → loop_form c m z ≡ Ok (Word (pack (loop_layout c m z).fields))
unfolding loop_form
loop-is (Immediate n) m z g = good-word (loop_layout (Immediate n) m z) g
loop-is (Register r) m z g = good-word (loop_layout (Register r) m z) g

-- ---- what the lowest bits hold, whatever stands over them
jump_low : (c d o : ℕ) → o < 2 ^ 24 → field 23 0 (pack (jump8a c d o)) ≡ o
jump_low c d o h = omega arith

count_low : (n f o : ℕ) → o < 2 ^ 23 → field 22 0 (pack (loop12a n f o)) ≡ o
count_low n f o h = omega arith

register-low : (r f o : ℕ) → o < 2 ^ 23 → field 22 0 (pack (register_loop12a r f o)) ≡ o
register-low r f o h = omega arith

same_word : {v w : ℕ} → (let f : Result Form Refusal = Ok (Word v) in f ≡ Ok (Word w)) → v ≡ w
same_word e = cc

-- the bits 23:0 of a jump's word, 22:0 of a loop start's
loop-low : (c : LoopCount) (m : LoopMode) (z : ℤ) → folded 23 z < 2 ^ 23 → field 22 0 (pack (loop_layout c m z).fields) ≡ folded 23 z
loop-low (Immediate n) m z h = count_low n (bit_of (is_f1 m)) (folded 23 z) h
loop-low (Register r) m z h = register-low r.0 (bit_of (is_f1 m)) (folded 23 z) h

pub jump-holds : (c : Condition) (z : ℤ) (d : Bool) (w : ℕ) → jump_form c z d ≡ Ok (Word w) → field 23 0 w ≡ folded 24 z
jump-holds c z d w e =
    let g : form_verdict (jump_form c z d) ≡ Ok tt = rw e in
    ap (field 23 0) (same_word (sym e ∙ jump-is c z d g)) ∙ jump_low (condition_code c) (bit_of d) (folded 24 z) (tested_fits 24 0x7f_ffff z refl (jump-within c z d g))

pub loop-holds : (c : LoopCount) (m : LoopMode) (z : ℤ) (w : ℕ) → loop_form c m z ≡ Ok (Word w) → field 22 0 w ≡ folded 23 z
loop-holds c m z w e =
    let g : form_verdict (loop_form c m z) ≡ Ok tt = rw e in
    ap (field 22 0) (same_word (sym e ∙ loop-is c m z g)) ∙ loop-low c m z (tested_fits 23 0x3f_ffff z refl (loop-within c m z g))

-- and read as a signed number they are the offset
pub jump-carries : (c : Condition) (z : ℤ) (d : Bool) (w : ℕ) → jump_form c z d ≡ Ok (Word w) → signed_in 24 (field 23 0 w) ≡ z
jump-carries c z d w e = ap (signed_in 24) (jump-holds c z d w e) ∙ folded_back 23 z (jump-within c z d (rw e))

pub loop-carries : (c : LoopCount) (m : LoopMode) (z : ℤ) (w : ℕ) → loop_form c m z ≡ Ok (Word w) → signed_in 23 (field 22 0 w) ≡ z
loop-carries c m z w e = ap (signed_in 23) (loop-holds c m z w e) ∙ folded_back 22 z (loop-within c m z (rw e))
