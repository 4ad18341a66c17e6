-- A buffer whose front is written over: writing at the end of that front makes it longer.
use mathlib.Core.Path.{◌≡◌, refl}
use mathlib.Core.List.{List, [], ◌∷◌, ◌++◌, append_assoc}
use Prim.Native.Nat.{ℕ, zero, suc, ◌+◌, ◌-◌, ◌≤◌, ◌<◌}
use native.Mathlib.Omega.{arith}
use native.Mathlib.Numerals.{add-one}
use lib.ListN.{length, take, drop, set, replicate, length-append, length-replicate, replicate-append-replicate}
use lib.Seq.{drop-cons, set-append_seam, take-append_seam, append_snoc}

abbrev pub over : List ℕ → List ℕ → List ℕ
over buffer new = new ++ drop (length new) buffer

pub over_none : (buffer : List ℕ) → over buffer [] ≡ buffer
over_none buffer = refl

pub over-front : (buffer new : List ℕ) → take (length new) (over buffer new) ≡ new
over-front buffer new = take-append_seam new (drop (length new) buffer)

pub over-more : (buffer new : List ℕ) (v : ℕ) → length new < length buffer → set (over buffer new) (length new) v ≡ over buffer (new ++ v ∷ [])
over-more buffer new v h =
    rw (drop-cons buffer (length new) 0 h, set-append_seam, length-append, add-one, append_snoc new v (drop (suc (length new)) buffer))

-- zeros at the end of the new front stand there already
drop-zeros : (k n : ℕ) → drop {A = ℕ} k (replicate n 0) ≡ replicate (n - k) 0
drop-zeros zero n = let e : n - 0 ≡ n = omega arith in rw e
drop-zeros (suc k) zero = let e : 0 - suc k ≡ 0 = omega arith in rw e
drop-zeros (suc k) (suc n) = let e : suc n - suc k ≡ n - k = omega arith in rw e (drop-zeros k n)

pub over_zeros : (n : ℕ) (new : List ℕ) (k : ℕ) → length new + k ≤ n → over (replicate n 0) (new ++ replicate k 0) ≡ over (replicate n 0) new
over_zeros n new k h =
    let e : k + (n - (length new + k)) ≡ n - length new = omega arith in
    rw (drop-zeros, drop-zeros, length-append, length-replicate, append_assoc, replicate-append-replicate, e)
