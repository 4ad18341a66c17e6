-- Document 01, "Rooms and what is left": one instruction's parcels.
use Rattle.std.specs.Prelude.{ℕ, ◌≡◌, List, Bool, true, false, cond, ◌&&◌, eqb, leb, length, Ok, Err, Result}
use Rattle.refusals.specs.declared.Refusal.TheVariants.{RowSlice, Row}
use Rattle.refusals.specs.declared.Told.{Told}
use Rattle.encode.specs.declared.Form.{Form}
use Rattle.refusals.specs.declared.Refusal.{Refusal}
use Rattle.coded.specs.Coded.{Coded, coded_of, of_instruction, of_refused}
use Rattle.refusals.specs.Numbers.{answer_in, answered}
use Rattle.items.specs.declared.VisaInstruction.{VisaInstruction}
use Rattle.items.specs.declared.Item.TheVariants as item
use Rattle.encode.specs.Encoding.{form_parcels, form_verdict, verdict_of, padded}
use Rattle.bounds.specs.Tables.{at}
use Rattle.rows.specs.Rows.{row_width, read_of}
use Rattle.instruction.specs.declared.Parcels.{Parcels}

-- the form of an instruction; any other item is 2
abbrev pub held_form : Coded → Result Form Refusal
held_form x = of_instruction (λ y. y.form) (of_refused Err (Err Row) x) x

-- labels, jumps, loop starts and loop ends
abbrev pub is_mark : ℕ → Bool
is_mark kind = leb 48 kind && leb kind 51

-- "a slice that isn't 17 long is refusal 1, kinds 48 to 51 are 2"
unfoldable pub form_at : List ℕ → Result Form Refusal
form_at row =
    cond (eqb (length row) row_width) (cond (is_mark (at row 0)) (Err Row) (held_form (coded_of (read_of row 0)))) (Err RowSlice)

-- a row that holds an instruction that encodes
pub record Accepted (row : List ℕ) : Type 0 where
  pub long : eqb (length row) row_width ≡ true
  pub no_mark : is_mark (at row 0) ≡ false
  pub instruction : VisaInstruction
  pub read : read_of row 0 ≡ Ok (item.Instruction instruction)
  pub encodes : verdict_of instruction ≡ Ok tt

-- "count and six places, unused ones zero; refused: all zero"; "One-instruction calls give 0" for the row
abbrev pub form_answer : Result Form Refusal → Parcels
form_answer f = record { told = answered (answer_in 0 (form_verdict f) (length (form_parcels f))); places = padded (form_parcels f) }

-- THE CONTRACT of one instruction: what is told of a row, in document 01's numbers, and the six places
abbrev pub Encodes : List ℕ → Told → List ℕ → Type 0
Encodes row told places = (told ≡ (form_answer (form_at row)).told) × (places ≡ (form_answer (form_at row)).places)
