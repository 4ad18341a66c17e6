-- Two answers that fit are both what the contract says, and so is what they leave.
use mathlib.Core.Path.{◌≡◌, sym, ◌∙◌}
use mathlib.Core.List.{List}
use Prim.Native.Nat.{ℕ}
use Rattle.widening.specs.declared.ToldWidened.{ToldWidened}
use Rattle.widening.specs.Widening.{Widens}

pub no_second_widening : (rows names copy list : List ℕ) {t t' : ToldWidened} {c c' l l' : List ℕ} → Widens rows names copy list t c l → Widens rows names copy list t' c' l'
    → (t ≡ t') × (c ≡ c') × (l ≡ l')
no_second_widening rows names copy list x y = (x.answer ∙ sym y.answer, x.copy_left ∙ sym y.copy_left, x.list_left ∙ sym y.list_left)
