-- The fold over the rows is the memory along them.
use mathlib.Core.Path.{◌≡◌, refl, ap}
use Prim.Native.Nat.{ℕ, zero, suc}
use Rattle.places.specs.declared.Rooms.{Rooms}
use Rattle.places.specs.Items.{Kernel}
use Rattle.machine.specs.Machine.{Mem, check}
use Rattle.refusals.specs.Scan.{scan_at}
use Rattle.machine.specs.Fold.{row_chk, mem_at, row_next_mem}

module _ (k : Kernel) (r : Rooms) (m : Mem) where
  pub mem_is : (i : ℕ) → scan_at (row_chk k r) (row_next_mem k r) m i ≡ mem_at k.it m i
  mem_is zero = refl
  mem_is (suc i) = ap (row_next_mem k r i) (mem_is i)

  -- the check of a row, where the fold meets it
  pub check-is : (i : ℕ) → row_chk k r i (scan_at (row_chk k r) (row_next_mem k r) m i) ≡ check k.names r (k.it i) (mem_at k.it m i)
  check-is i = ap (λ (y : Mem). check k.names r (k.it i) y) (mem_is i)
