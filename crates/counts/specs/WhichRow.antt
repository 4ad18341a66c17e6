-- Document 02, wish 3, "which item": what is told of a list names the first row at fault.
use Rattle.std.specs.Prelude.{◌≡◌, ℕ}
use Rattle.refusals.specs.declared.Refusal.{Refusal}
use Rattle.refusals.specs.Answers.{Verdict}
use Rattle.refusals.specs.declared.Told.{Told}
use Rattle.refusals.specs.Numbers.{alone, told_of, in_row}
use Rattle.refusals.specs.Order.{FirstAt}

-- a row is the first of n rows that is refused, and what is told is why, with that row as third detail
pub record NamesFirst (f : ℕ → Verdict) (n : ℕ) (told : Told) : Type 0 where
  pub row : ℕ
  pub why : Refusal
  pub first : FirstAt f n why row
  pub said : told ≡ in_row row (told_of why)

-- "Every refusal except 1": 1 names no row; any other refusal names the first row at fault
pub record NamesRow (f : ℕ → Verdict) (n : ℕ) (told : Told) : Type 0 where
  pub none : told.number ≡ 1 → told ≡ alone 1
  pub named : (told.number ≡ 0 → ⊥) → (told.number ≡ 1 → ⊥) → NamesFirst f n told
