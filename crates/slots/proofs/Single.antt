-- Two verdicts that fit both tell what the definition tells.
use mathlib.Core.Path.{◌≡◌, sym, ◌∙◌}
use mathlib.Core.List.{List}
use Prim.Native.Nat.{ℕ}
use Rattle.refusals.specs.declared.Told.{Told}
use Rattle.slots.specs.Slots.{Checks}

pub no_second_verdict : (rows names : List ℕ) {t s : Told} → Checks rows names t → Checks rows names s → t ≡ s
no_second_verdict rows names x y = x ∙ sym y
