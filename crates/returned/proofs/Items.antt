-- Each item of an accepted kernel at the front of what stands from its place on: an instruction, a jump to its label, a loop start.
use Prim.Native.Nat.{ℕ, zero, suc, ◌+◌, ◌-◌, ◌^◌, ◌≤◌, ◌<◌}
use native.Mathlib.Omega.{arith}
use mathlib.Core.Path.{◌≡◌, refl, sym, ap, ap₂, ◌∙◌}
use mathlib.Core.Bool.{false}
use mathlib.Core.List.{List, [], ◌∷◌}
use lib.ListN.{length, take, replicate}
use lib.IntN.{ℤ, pos, ◌-ℤ◌}
use mir.Syntax.{w32}
use mir.Val.{of_z, SFits}
use mir.Facts.{to_z-of_z, Fits-of_z}
use borrow.Author.Tests.{le-ltb, lt-ltb}
use Rattle.fields.specs.Parcels.{cut}
use Rattle.std.specs.Prelude.{Ok}
use Rattle.items.specs.declared.LoopCount.{LoopCount}
use Rattle.items.specs.declared.LoopMode.{LoopMode}
use Rattle.items.specs.declared.VisaInstruction.{VisaInstruction}
use Rattle.items.specs.declared.VisaInstruction.TheVariants as Visa
use Rattle.items.specs.declared.Item.TheVariants as item
use Rattle.encode.specs.declared.Form.TheVariants.{Word}
use Rattle.encode.specs.Layouts.{layout_of}
use Rattle.encode.specs.Encoding.{form_of, parcels_of, verdict_of, jump_form, loop_form, form_parcels, form_verdict}
use Rattle.encode.proofs.Reach.{loop-reach}
use Rattle.bounds.specs.Tables.{at}
use Rattle.bounds.specs.Bounds.{spare, fields, bounds_of}
use Rattle.bounds.specs.Checks.{said, places_of, check_of}
use Rattle.rows.specs.Fields.{condition_of, count_of, mode_of, signed, instruction_of}
use Rattle.rows.specs.Fields as row_fields
use Rattle.rows.specs.Rows.{row_width, read_of, item_of}
use Rattle.rows.specs.Kept.{Below}
use Rattle.rows.proofs.Kept.{within-bounds}
use Rattle.coded.specs.declared.Coding.{Coding}
use Rattle.coded.specs.Coded.{coding_of}
use Rattle.known.specs.Front.{EncodesTo, StartsLoop}
use Rattle.inverse.proofs.Sorted.{instruction-row, loop-row}

-- ---- spare places hold 0
pub spare_zero : (n : ℕ) (vs : List ℕ) → length vs ≡ n → Below (replicate n spare) vs → vs ≡ replicate n 0
spare_zero zero [] e h = refl
spare_zero zero (v ∷ vs) e h = absurd (omega arith)
spare_zero (suc n) [] e h = absurd (omega arith)
spare_zero (suc n) (v ∷ vs) e h = ap₂ ◌∷◌ (let l = h.0 in omega arith) (spare_zero n vs (omega arith) h.1)

-- a loop start's row is its kind, its three fields and zeros
four : (k a b c : ℕ) (vs : List ℕ) (names : ℕ) → length vs ≡ 13 → k ≡ 50 → check_of (k ∷ a ∷ b ∷ c ∷ vs) names ≡ Ok tt → k ∷ a ∷ b ∷ c ∷ vs ≡ 50 ∷ a ∷ b ∷ c ∷ replicate 13 0
unfolding bounds_of
four k a b c vs names n e g =
    let w : Below (bounds_of (50 ∷ a ∷ b ∷ c ∷ vs)) (a ∷ b ∷ c ∷ vs) = rw e at (within-bounds (k ∷ a ∷ b ∷ c ∷ vs) names g) in
    ap₂ (λ (x : ℕ) (l : List ℕ). x ∷ a ∷ b ∷ c ∷ l) e (spare_zero 13 vs n w.1.1.1)

pub loop-numbers : (row : List ℕ) (names : ℕ) → length row ≡ 17 → at row 0 ≡ 50 → check_of row names ≡ Ok tt → row ≡ 50 ∷ at row 1 ∷ at row 2 ∷ at row 3 ∷ replicate 13 0
loop-numbers [] names n e g = absurd (omega arith)
loop-numbers (k ∷ []) names n e g = absurd (omega arith)
loop-numbers (k ∷ a ∷ []) names n e g = absurd (omega arith)
loop-numbers (k ∷ a ∷ b ∷ []) names n e g = absurd (omega arith)
loop-numbers (k ∷ a ∷ b ∷ c ∷ vs) names n e g = four k a b c vs names (omega arith) e g

-- a labelled jump's condition is one
first_below : (k a : ℕ) (vs : List ℕ) (names : ℕ) → k ≡ 49 → check_of (k ∷ a ∷ vs) names ≡ Ok tt → a < 7
unfolding bounds_of fields
first_below k a vs names e g = let w : Below (bounds_of (49 ∷ a ∷ vs)) (a ∷ vs) = rw e at (within-bounds (k ∷ a ∷ vs) names g) in w.0

pub jump-condition : (row : List ℕ) (names : ℕ) → at row 0 ≡ 49 → check_of row names ≡ Ok tt → at row 1 < 7
jump-condition [] names e g = omega arith
jump-condition (k ∷ []) names e g = omega arith
jump-condition (k ∷ a ∷ vs) names e g = first_below k a vs names e g

-- ---- an instruction's row encodes to its parcels
pub instruction-encodes :
    (row : List ℕ) (names : ℕ) (c : Coding) (v : VisaInstruction) → length row ≡ row_width → read_of row names ≡ Ok (item.Instruction v) → c ≡ coding_of v →
    form_verdict c.form ≡ Ok tt → EncodesTo (form_parcels c.form) row
unfolding parcels_of verdict_of
instruction-encodes row names c v n r e g =
    let f : c.form ≡ form_of v = ap (λ (x : Coding). x.form) e in
    record { whole = n; instruction = v; reads = instruction-row row names v r; good = ap form_verdict (sym f) ∙ g; same = ap form_parcels (sym f) }

-- ---- a jump over an offset is an instruction of kind 28
jump-read : (a b : ℕ) → a < 7 → b < 2 ^ 32 → read_of (28 ∷ a ∷ b ∷ 0 ∷ replicate 13 0) 0 ≡ Ok (item.Instruction (Visa.JumpRelative (condition_of a) (signed b) false))
unfolding read_of check_of places_of bounds_of fields said item_of instruction_of row_fields.others
jump-read a b h l = rw (lt-ltb a 7 h, lt-ltb b (2 ^ 32) l)

pub jump-encodes :
    (a : ℕ) (z : ℤ) (w : ℕ) → a < 7 → SFits w32 z → jump_form (condition_of a) z false ≡ Ok (Word w) → EncodesTo (cut 3 w) (28 ∷ a ∷ of_z w32 z ∷ 0 ∷ replicate 13 0)
unfolding parcels_of verdict_of form_of layout_of jump_form
jump-encodes a z w h s e =
    let b = to_z-of_z s in
    record {
      whole = refl;
      instruction = Visa.JumpRelative (condition_of a) (signed (of_z w32 z)) false;
      reads = jump-read a (of_z w32 z) h (Fits-of_z s).fits;
      good = rw (b, e);
      same = rw (b, e);
    }

-- ---- a loop start over the place of its last instruction
pub pos_apart : (a b : ℕ) → b ≤ a → pos a -ℤ pos b ≡ pos (a - b)
pos_apart a zero h = ap pos (omega arith)
pos_apart a (suc b) h = rw (le-ltb a (suc b) h)

pub loop-starts :
    (ps row : List ℕ) (names : ℕ) (c : LoopCount) (m : LoopMode) (a b w : ℕ) → length row ≡ row_width → read_of row names ≡ Ok (item.LoopBegin c m) → b + 3 ≤ a →
    loop_form c m (pos a -ℤ pos b) ≡ Ok (Word w) → 3 ≤ length ps → take 3 ps ≡ cut 3 w → StartsLoop ps row
loop-starts ps row names c m a b w n r h f l s =
    let x = loop-row row names c m r in
    let o = pos_apart a b (omega arith) in
    let e : loop_form (count_of (at row 1) (at row 2)) (mode_of (at row 3)) (pos (a - b)) ≡ (Ok (Word w)) =
    ap₂ (λ (p : LoopCount) (q : LoopMode). loop_form p q (pos (a - b))) (sym x.1) (sym x.2) ∙ ap (loop_form c m) (sym o) ∙ f in
    let reach = (loop-reach c m a b).0 (ap form_verdict f) in
    record {
      choice = at row 1;
      count = at row 2;
      mode = at row 3;
      offset = a - b;
      numbers = loop-numbers row names n x.0 x.3;
      reads = x.4 ∙ ap₂ (λ (p : LoopCount) (q : LoopMode). Ok (item.LoopBegin p q)) x.1 x.2;
      low = omega arith;
      high = let u = reach.1 in omega arith;
      good = ap form_verdict e;
      within = l;
      same = ap form_parcels e ∙ sym s;
    }
