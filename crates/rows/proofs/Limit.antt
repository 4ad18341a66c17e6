-- A well-formed slice holds at most 4,194,304 rows.
use Prim.Native.Nat.{ℕ, ◌*◌, ◌/◌, ◌%◌, ◌≤◌}
use mathlib.Core.Bool.{Bool, true, false, ◌&&◌}
use mathlib.Core.Path.{◌≡◌}
use native.Mathlib.Omega.{arith}
use borrow.Author.Tests.{leb-true}
use lib.Dec.{eqb, leb}
use Rattle.rows.specs.Rows.{well_formed}

second-test : (a : Bool) (m k : ℕ) → (a && leb m k) ≡ true → m ≤ k
second-test true m k e = leb-true m k e
second-test false m k e = let z : ◌≡◌ {A = ℕ} 0 1 = cc in absurd (omega arith)

pub rows_few : (n : ℕ) → well_formed n ≡ true → n / 17 ≤ 4194304
rows_few n e = omega (arith, second-test (eqb (n % 17) 0) n (4194304 * 17) e)
