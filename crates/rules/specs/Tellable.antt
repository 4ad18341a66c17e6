-- Demand 1: what a build may tell: 0 or a number of its list, and a name in the lent names, of 11, 12 and 28 alone.
use Rattle.std.specs.Prelude.{ℕ, ◌+◌, ◌≤◌, ◌≡◌, false, List, length}
use Rattle.refusals.specs.declared.Told.{Told}
use Rattle.refusals.specs.Numbers.{among, naming}
use Rattle.refusals.specs.Calls.{build, Listed}

pub record Tellable (names : List ℕ) (t : Told) : Type 0 where
  pub number : Listed build t.number
  pub within : t.start + t.length ≤ length names
  pub unnamed : among naming t.number ≡ false → (t.start ≡ 0) × (t.length ≡ 0)
