-- A refused form has no parcels.
use Rattle.std.proofs.Common.{◌≡◌, ℕ, sym, ap, ◌∙◌, Result, Ok, Err, arith}
use Rattle.refusals.specs.declared.Refusal.{Refusal}
use Rattle.encode.specs.declared.Encoded.{Encoded}
use Rattle.encode.specs.declared.Form.{Form}
use Rattle.encode.specs.Encoding.{form_encoded}
use Rattle.instruction.specs.Instruction.{form_answer}
use Rattle.instruction.proofs.form_answer.Goals as goal

none : (e : Encoded) (why : Refusal) → (let r : Result Encoded Refusal = Ok e in r ≡ Err why) → ⊥
none e why h = let z : ◌≡◌ {A = ℕ} 0 1 = cc in omega arith

same : (r why : Refusal) → (let e : Result Encoded Refusal = Err r in e ≡ Err why) → r ≡ why
same r why h = cc

refused : (f : Result Form Refusal) (why : Refusal) → form_encoded f ≡ Err why → form_answer (Err why) ≡ form_answer f
refused (Ok f) why e = absurd (none _ why e)
refused (Err r) why e = ap (λ (r : Refusal). form_answer (Err r)) (sym (same r why e))

pub returns-in-Err : goal.returns-in-Err
returns-in-Err c = rw (c.answered-in-Err.ensures, c.at.ensures) (refused c.args.f _ (sym c.cut_form.ensures ∙ c.in-Err.is))
