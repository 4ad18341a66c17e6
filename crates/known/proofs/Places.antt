-- A list is its places in turn.
use Prim.Native.Nat.{ℕ, zero, suc, ◌+◌}
use native.Mathlib.Omega.{arith}
use mathlib.Core.Path.{◌≡◌}
use mathlib.Core.List.{List, ◌∷◌, ◌++◌}
use lib.ListN.{length, drop}
use lib.Seq.{drop-cons, drop-length}
use Rattle.bounds.specs.Tables.{at}

-- the n places from k on, before others
abbrev pub listed : ℕ → ℕ → List ℕ → List ℕ → List ℕ
listed zero k l rest = rest
listed (suc n) k l rest = at l k ∷ listed n (suc k) l rest

pub places-listed : (n k : ℕ) (l rest : List ℕ) → k + n ≡ length l → listed n k l rest ≡ drop k l ++ rest
places-listed zero k l rest e = let h : k ≡ length l = omega arith in rw (h, drop-length)
places-listed (suc n) k l rest e = rw (drop-cons l k 0 (omega arith), places-listed n (suc k) l rest (omega arith))
