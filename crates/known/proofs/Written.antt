-- A register that a compute does not write is 16 in the instruction, which is no register.
use Prim.Native.Nat.{ℕ, ◌<◌}
use native.Mathlib.Omega.{arith}
use mathlib.Core.Path.{◌≡◌, refl, sym}
use lib.Dec.{eqb}
use borrow.Author.Tests.{ne_eqb}
use Rattle.std.specs.Prelude.{Option, Some, None, unwrap_or}
use Rattle.std.specs.Option.{option_eq}

pub written : (o : Option ℕ) (r : ℕ) → r < 16 → option_eq eqb o (Some r) ≡ eqb (unwrap_or o 16) r
written None r l = sym (ne_eqb 16 r (λ e. omega arith))
written (Some n) r l = refl
