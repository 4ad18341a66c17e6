-- The answers, under the names that the code gives them: whether something is in order, or why not; a count, or why a list is refused, and
-- the row that this names. And a verdict with the row that it names if it is a refusal.
use Rattle.std.specs.Prelude.{ℕ, Result}
use Rattle.refusals.specs.declared.Refusal.{Refusal}
use Rattle.refusals.specs.declared.Refused.{Refused}

abbrev pub Verdict : Type 0
Verdict = Result (Unit {0}) Refusal

abbrev pub Answer : Type 0
Answer = Result ℕ Refused

pub record Judged : Type 0 where
  pub verdict : Verdict
  pub row : ℕ
