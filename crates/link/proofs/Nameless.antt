-- No answer of the one-instruction call has a name, so the struct without a name's range tells all of it.
use mathlib.Core.Path.{◌≡◌, refl, sym, subst, ◌∙◌}
use mathlib.Core.Bool.{false}
use mathlib.Core.List.{List, ◌∷◌}
use Prim.Native.Nat.{ℕ}
use lib.ListN.{length}
use Rattle.refusals.specs.declared.Told.{Told}
use Rattle.refusals.specs.Numbers.{among, answer_in, naming}
use Rattle.refusals.specs.Calls.{one_instruction, numbers_of}
use Rattle.refusals.proofs.Numbered.{unnamed-answer}
use Rattle.refusals.proofs.Within.{other}
use Rattle.encode.specs.Encoding.{form_parcels, form_verdict}
use Rattle.instruction.specs.Instruction.{form_at, Encodes}
use Rattle.instruction.proofs.Numbers.{instruction-numbers}
use Rattle.link.specs.declared.One.{One}
use Rattle.link.specs.One.{one_of, told_in}

abbrev Ranged : Told → Type 0
Ranged t = among naming t.number ≡ false → (t.start ≡ 0) × (t.length ≡ 0)

module _ (row : List ℕ) {t : Told} {places : List ℕ} (c : Encodes row t places) where
  pub nameless : (t.start ≡ 0) × (t.length ≡ 0)
  nameless =
      subst Ranged (sym c.0) (unnamed-answer (answer_in 0 (form_verdict (form_at row)) (length (form_parcels (form_at row)))))
      (other (0 ∷ numbers_of one_instruction) naming t.number refl (instruction-numbers row c))

  told-one : told_in (one_of t places) ≡ t
  told-one = λ i. record { number = t.number; count = t.count; first = t.first; second = t.second; third = t.third; start = sym nameless.0 i; length = sym nameless.1 i }

  pub encodes_one : {r : One} → r ≡ one_of t places → Encodes row (told_in r) r.places
  encodes_one e = subst (λ (o : One). Encodes row (told_in o) o.places) (sym e) (told-one ∙ c.0, c.1)
