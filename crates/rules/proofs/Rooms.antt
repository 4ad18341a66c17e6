-- Rule 6: rows that each find room make totals that fit, and totals that fit leave room for each row.
use Prim.Native.Nat.{ℕ, suc, ◌+◌, ◌≤◌, ◌<◌}
use native.Mathlib.Omega.{arith}
use mathlib.Core.Path.{◌≡◌}
use mathlib.Core.Bool.{false}
use lib.Dec.{ltb}
use borrow.Author.Tests.{le-ltb}
use Rattle.coded.specs.Coded.{Coded}
use Rattle.places.specs.declared.Rooms.{Rooms}
use Rattle.places.specs.Items.{Kernel, total}
use Rattle.prefixes.proofs.Totals.{total-up}
use Rattle.prefixes.proofs.Passing.{Fits, fits}
use Rattle.rules.specs.Rules.{Rule6}
use Rattle.rules.specs.WhichRow.{RowsPass}

module _ (k : Kernel) (r : Rooms) (rows : RowsPass k r) where
  open k use {it, n}

  fit : (i : ℕ) → i ≤ n → Fits it r i
  fit i h = fits k r i (λ q u. rows q (omega arith))

  pub rule6 : Rule6 k r
  rule6 =
      let f = fit n (omega arith) in
      record { parcels = omega (arith, f.parcels); labels = f.labels; jumps = f.jumps; loops = λ i h. (fit i h).loops }

-- where the total of all fits, row i finds room
pub room : (it : ℕ → Coded) (n : ℕ) (f : Coded → ℕ) (i m k : ℕ) → i < n → total f it n ≤ m → f (it i) ≡ k → ltb m (total f it i + k) ≡ false
room it n f i m k h l e = le-ltb m (total f it i + k) (let w = total-up f it (suc i) n h in omega arith)
