-- An instrument: what a lent slice holds that is written from its front on.
use Rattle.std.specs.Prelude.{◌≡◌, List, ◌++◌, ℕ, ◌≤◌, length, drop}

-- a lent slice begins with these n numbers, and after them is as it was
pub record Begins (old front : List ℕ) (n : ℕ) (new : List ℕ) : Type 0 where
  pub long : length front ≡ n
  pub fits : n ≤ length old
  pub here : new ≡ front ++ drop n old
  pub same : length new ≡ length old
