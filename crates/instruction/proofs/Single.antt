-- No second answer fits the contract of `instruction`.
use mathlib.Core.List.{List}
use mathlib.Core.Path.{◌≡◌, sym, ◌∙◌}
use Prim.Native.Nat.{ℕ}
use Rattle.refusals.specs.declared.Told.{Told}
use Rattle.instruction.specs.Instruction.{Encodes}

pub no_second_answer : (row : List ℕ) {t s : Told} {p q : List ℕ} → Encodes row t p → Encodes row s q → (t ≡ s) × (p ≡ q)
no_second_answer row x y = (x.0 ∙ sym y.0, x.1 ∙ sym y.1)
