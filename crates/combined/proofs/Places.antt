-- The sixteen places of a row that holds a compute lie below their bounds if the first eight and the last eight do; then it is read as its item.
use Prim.Native.Nat.{ℕ, zero, suc, ◌+◌, ◌<◌}
use native.Mathlib.Omega.{arith}
use mathlib.Core.Path.{◌≡◌}
use mathlib.Core.List.{List, [], ◌∷◌, ◌++◌, append_assoc}
use lib.ListN.{length, take, drop, replicate}
use lib.Seq.{drop-cons, drop-length}
use Rattle.bounds.specs.Tables.{at}
use Rattle.bounds.specs.Bounds.{spare, never, form, filled, compute, data_access, memory_access, bounds_of}
use Rattle.bounds.proofs.Filled.{front-compute, back-compute, back-spare}
use Rattle.rows.specs.Kept.{Below}
use Rattle.rows.specs.Rows.{read_of, item_of}
use Rattle.rows.proofs.Kept.{read-item}
use Rattle.combined.proofs.Fine.{eight}

-- the numbers of a row, spelled out
abbrev from : List ℕ → ℕ → ℕ → List ℕ
from row k zero = []
from row k (suc n) = at row k ∷ from row (suc k) n

dropped : (row : List ℕ) (k n : ℕ) → length row ≡ k + n → drop k row ≡ from row k n
dropped row k zero e = let h : length row ≡ k = omega arith in rw (← h) (drop-length row)
dropped row k (suc n) e =
    let h : k < length row = omega arith in
    let g : length row ≡ suc k + n = omega arith in
    rw (drop-cons row k 0 h, dropped row (suc k) n g)

join : (bs us vs : List ℕ) → Below (take (length us) bs) us → Below (drop (length us) bs) vs → Below bs (us ++ vs)
join bs [] vs h g = g
join [] (u ∷ us) vs h g = tt
join (b ∷ bs) (u ∷ us) vs h g = (h.0, join bs us vs h.1 g)

below : (row : List ℕ) → length row ≡ 17 → Below (take 8 (bounds_of row)) (eight row 1) → Below (drop 8 (bounds_of row)) (eight row 9) → Below (bounds_of row) (drop 1 row)
below row n front back = rw (dropped row 1 16 n) (join (bounds_of row) (eight row 1) (eight row 9) front back)

-- kind 32, 33 and 34
pub alone-reads :
    (row : List ℕ) → length row ≡ 17 → at row 0 ≡ 32 → Below (compute never row) (eight row 1) → Below (replicate 8 spare) (eight row 9) →
    (names : ℕ) → read_of row names ≡ item_of row
unfolding bounds_of
alone-reads row n e front back names =
    let f : take 8 (bounds_of row) ≡ compute never row = rw e (front-compute never row (replicate 16 spare)) in
    let b : drop 8 (bounds_of row) ≡ replicate 8 spare = back-spare row (λ z. omega (arith, e, z)) (λ z. omega (arith, e, z)) in
    read-item row names (below row n (rw f front) (rw b back)) (rw e)

pub dual_reads :
    (row : List ℕ) → length row ≡ 17 → at row 0 ≡ 33 → Below (compute form row) (eight row 1) → Below (data_access ++ data_access) (eight row 9) →
    (names : ℕ) → read_of row names ≡ item_of row
unfolding bounds_of
dual_reads row n e front back names =
    let f : take 8 (bounds_of row) ≡ compute form row = rw (e, append_assoc) (front-compute form row _) in
    let b : drop 8 (bounds_of row) ≡ data_access ++ data_access = rw (e, append_assoc) (back-compute form row (data_access ++ data_access)) in
    read-item row names (below row n (rw f front) (rw b back)) (rw e)

pub memory-reads :
    (row : List ℕ) → length row ≡ 17 → at row 0 ≡ 34 → Below (compute form row) (eight row 1) → Below (filled 8 memory_access) (eight row 9) →
    (names : ℕ) → read_of row names ≡ item_of row
unfolding bounds_of
memory-reads row n e front back names =
    let f : take 8 (bounds_of row) ≡ compute form row = rw (e, append_assoc) (front-compute form row _) in
    let b : drop 8 (bounds_of row) ≡ filled 8 memory_access = rw (e, append_assoc) (back-compute form row memory_access) in
    read-item row names (below row n (rw f front) (rw b back)) (rw e)
