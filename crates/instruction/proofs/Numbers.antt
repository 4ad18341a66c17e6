-- What the one-instruction call tells: 0 exactly where the row holds an instruction that encodes; else 1, a row refusal, or the encoding's.
use mathlib.Core.Path.{◌≡◌, refl, sym, ap, ◌∙◌}
use mathlib.Core.Bool.{Bool, true, false, cond}
use mathlib.Core.List.{List}
use mathlib.Core.Logic.{◌↔◌}
use Prim.Native.Nat.{ℕ}
use native.Mathlib.Omega.{arith}
use lib.Dec.{eqb}
use lib.ListN.{length}
use lib.IntN.{pos}
use Rattle.refusals.specs.declared.Refusal.{Refusal}
use Rattle.refusals.specs.declared.Refusal.TheVariants.{RowSlice, Row}
use Rattle.std.specs.Prelude.{Ok, Err, Result}
use Rattle.refusals.specs.Answers.{Verdict}
use Rattle.encode.specs.declared.Form.{Form}
use Rattle.items.specs.declared.Item.{Item}
use Rattle.items.specs.declared.VisaInstruction.{VisaInstruction}
use Rattle.coded.specs.Coded.{Coded, coded_of, read_verdict, encodes}
use Rattle.refusals.specs.declared.Told.{Told}
use Rattle.refusals.specs.Numbers.{answer_in, answered}
use Rattle.refusals.specs.Calls.{reading, encoding, one_instruction, numbers_of, Listed}
use Rattle.refusals.proofs.Numbered.{answers_zero}
use Rattle.refusals.proofs.Within.{Tells, tells-wider}
use Rattle.refusals.proofs.Calls.{answer-listed}
use Rattle.items.specs.declared.Item.TheVariants as item
use Rattle.encode.specs.Encoding.{form_parcels, form_verdict, verdict_of}
use Rattle.bounds.specs.Tables.{at}
use Rattle.rows.specs.Rows.{row_width, read_of}
use Rattle.coded.proofs.Numbers.{row-tells, encodes-tells}
use Rattle.instruction.specs.Instruction.{held_form, is_mark, form_at, Accepted, Encodes}

-- ---- the numbers
abbrev instruction_numbers : List ℕ
instruction_numbers = numbers_of one_instruction

abbrev FormTells : Result Form Refusal → Type 0
FormTells f = Tells instruction_numbers (form_verdict f)

held_tells : (x : Coded) → Tells reading (read_verdict x) → Tells encoding (encodes x) → FormTells (held_form x)
held_tells (Ok (item.Instruction y)) r e = tells-wider encoding instruction_numbers (form_verdict y.form) refl e
held_tells (Ok (item.Label a b)) r e = refl
held_tells (Ok (item.Jump c a b)) r e = refl
held_tells (Ok (item.LoopBegin c m)) r e = refl
held_tells (Ok item.LoopEnd) r e = refl
held_tells (Err why) r e = tells-wider reading instruction_numbers (Err why) refl r

either : (t : Bool) (f g : Result Form Refusal) → FormTells f → FormTells g → FormTells (cond t f g)
either true f g hf hg = hf
either false f g hf hg = hg

form-tells : (row : List ℕ) → FormTells (form_at row)
unfolding form_at
form-tells row =
    let held = held_tells (coded_of (read_of row 0)) (row-tells row 0) (encodes-tells row 0) in
    either (eqb (length row) row_width) _ _ (either (is_mark (at row 0)) _ _ refl held) refl

-- ---- no row is named
row_zero : (v : Verdict) (n : ℕ) → (answered (answer_in 0 v n)).third ≡ pos 0
row_zero (Ok _) n = refl
row_zero (Err r) n = refl

-- ---- accepted: the row holds an instruction, and it encodes
refused-good : {A : Type 0} (r : Refusal) → form_verdict (Err r) ≡ Ok tt → A
refused-good r e = let z : ◌≡◌ {A = ℕ} 0 1 = cc in absurd (omega arith)

module _ (row : List ℕ) where
  by_read : eqb (length row) row_width ≡ true → is_mark (at row 0) ≡ false → (r : Result (Item VisaInstruction) Refusal) → read_of row 0 ≡ r → form_verdict (held_form (coded_of r)) ≡ Ok tt → Accepted row
  unfolding verdict_of
  by_read l m (Ok (item.Instruction v)) e g = record { long = l; no_mark = m; instruction = v; read = e; encodes = g }
  by_read l m (Ok (item.Label a b)) e g = refused-good Row g
  by_read l m (Ok (item.Jump c a b)) e g = refused-good Row g
  by_read l m (Ok (item.LoopBegin c n)) e g = refused-good Row g
  by_read l m (Ok item.LoopEnd) e g = refused-good Row g
  by_read l m (Err why) e g = refused-good why g

  by_tests :
      (l m : Bool) → eqb (length row) row_width ≡ l → is_mark (at row 0) ≡ m →
      form_verdict (cond l (cond m (Err Row) (held_form (coded_of (read_of row 0)))) (Err RowSlice)) ≡ Ok tt → Accepted row
  by_tests true true l m g = refused-good Row g
  by_tests true false l m g = by_read l m (read_of row 0) refl g
  by_tests false b l m g = refused-good RowSlice g

  good-accepted : (form_verdict (form_at row) ≡ Ok tt) ↔ Accepted row
  unfolding form_at verdict_of
  good-accepted = (by_tests (eqb (length row) row_width) (is_mark (at row 0)) refl refl, (λ a. rw (a.long, a.no_mark, a.read) a.encodes))

  -- ---- THE THEOREMS
  module _ {told : Told} {places : List ℕ} (c : Encodes row told places) where
    pub instruction_zero : (told.number ≡ 0) ↔ Accepted row
    instruction_zero =
        let z = answers_zero 0 (form_verdict (form_at row)) (length (form_parcels (form_at row))) in
        let e = ap (λ (t : Told). t.number) c.0 in
        ((λ h. good-accepted.0 (z.0 (sym e ∙ h))), (λ h. e ∙ z.1 (good-accepted.1 h)))

    pub instruction-numbers : Listed one_instruction told.number
    instruction-numbers =
        answer-listed one_instruction 0 (form_verdict (form_at row)) (length (form_parcels (form_at row))) c.0 (form-tells row)

    -- "One-instruction calls give 0" for the row
    pub instruction_no_row : told.third ≡ pos 0
    instruction_no_row = ap (λ (t : Told). t.third) c.0 ∙ row_zero (form_verdict (form_at row)) (length (form_parcels (form_at row)))
