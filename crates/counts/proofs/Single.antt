-- Two counts that fit are both what the definition tells.
use mathlib.Core.Path.{◌≡◌, sym, ◌∙◌}
use mathlib.Core.List.{List}
use Prim.Native.Nat.{ℕ}
use Rattle.refusals.specs.declared.Told.{Told}
use Rattle.counts.specs.declared.Counting.{Counting}
use Rattle.counts.specs.Counts.{Counts}

pub no_second_count : (what : Counting) (rows names : List ℕ) {t s : Told} → Counts what rows names t → Counts what rows names s → t ≡ s
no_second_count what rows names x y = x ∙ sym y
