-- An instrument of one instruction's proof: what the short way gives.
use Rattle.std.specs.Prelude.{◌≡◌, List, ℕ, length, Option, Some, None, Ok, Result}
use Rattle.std.proofs.lemmas.List.Edits.{sets}
use Rattle.encode.specs.declared.Form.{Form}
use Rattle.refusals.specs.declared.Refusal.{Refusal}
use Rattle.encode.specs.Encoding.{form_parcels, form_verdict}
use Rattle.instruction.specs.Instruction.{form_at}

-- the parcels of the row's form, which encodes
pub record Shown (row p : List ℕ) (count : ℕ) (q : List ℕ) : Type 0 where
  pub form : Result Form Refusal
  pub form_is : form_at row ≡ form
  pub encodes : form_verdict form ≡ Ok tt
  pub counted : count ≡ length (form_parcels form)
  pub places : q ≡ sets p 0 (form_parcels form)

-- or nothing is said
abbrev pub ShortWay : List ℕ → List ℕ → Option ℕ → List ℕ → Type 0
ShortWay row p (Some count) q = Shown row p count q
ShortWay row p None q = Unit
