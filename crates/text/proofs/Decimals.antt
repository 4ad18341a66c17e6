-- The fewest digits of a number are those without leading zeros.
use mathlib.Core.Path.{◌≡◌, refl}
use mathlib.Core.Bool.{Bool, true, false, cond}
use mathlib.Core.List.{[], ◌∷◌, ◌++◌}
use Prim.Native.Nat.{ℕ, zero, suc, ◌-◌, ◌/◌, ◌%◌, ◌^◌, ◌≤◌, ◌<◌}
use native.Mathlib.Nat.{pow-suc, pow-le-pow_right}
use native.Mathlib.Omega.{arith}
use lib.ListN.{length, length-append}
use lib.Dec.{ltb, leb}
use lib.IntN.{ℤ, pos, negsuc}
use borrow.Author.Tests.{lt-ltb, le-ltb, leb-true, leb-false}
use Rattle.io.specs.Digits.{hex_digit_ascii, last_digits, IsDigitCount}
use Rattle.text.specs.Text.{decimal_below, decimal, signed, detail}

below : (f k n : ℕ) → k ≤ f → IsDigitCount 10 1 n k → last_digits 10 k n ≡ decimal_below f n
below zero k n h w = absurd (omega arith)
below (suc f) zero n h w = absurd (omega arith)
below (suc f) (suc zero) n h w =
    let k : n < 10 = w.1 in
    let e : n % 10 ≡ n = omega arith in
    rw (e, lt-ltb n 10 k)
below (suc f) (suc (suc k)) n h w =
    rw (le-ltb n 10 (omega (arith, least, pow-suc 10 k, some)), below f (suc k) (n / 10) (omega arith) (omega arith, omega (arith, w.1, pow-suc 10 (suc k)), λ _. rest))
  where
    some : 10 ^ 0 ≤ 10 ^ k
    some = pow-le-pow_right {n = 10} (omega arith) {i = 0} {j = k} (omega arith)

    least : 10 ^ suc k ≤ n
    least = let e : suc (suc k) - 1 ≡ suc k = omega arith in rw e at (w.2 (omega arith))

    rest : 10 ^ (suc k - 1) ≤ n / 10
    rest = let e : suc k - 1 ≡ k = omega arith in rw e (omega (arith, least, pow-suc 10 k))

pub decimal-is : (n k : ℕ) → k ≤ 20 → IsDigitCount 10 1 n k → last_digits 10 k n ≡ decimal n
unfolding decimal
decimal-is n k h w = below 20 k n h w

-- ---- how long they are
short : (k n : ℕ) → length (decimal_below k n) ≤ k
short zero n = omega arith
short (suc k) n = by (ltb n 10) (short k (n / 10))
  where
    by : (t : Bool) → length (decimal_below k (n / 10)) ≤ k → length (cond t (hex_digit_ascii n ∷ []) (decimal_below k (n / 10) ++ hex_digit_ascii (n % 10) ∷ [])) ≤ suc k
    by true h = omega arith
    by false h = rw (length-append (decimal_below k (n / 10)) (hex_digit_ascii (n % 10) ∷ [])) (omega arith)

pub decimal-short : (n : ℕ) → length (decimal n) ≤ 20
unfolding decimal
decimal-short n = short 20 n

pub signed-short : (z : ℤ) → length (signed z) ≤ 21
signed-short (pos n) = omega (arith, decimal-short n)
signed-short (negsuc n) = omega (arith, decimal-short (suc n))

pub detail-short : (z : ℤ) → length (detail z) ≤ 22
detail-short z = omega (arith, signed-short z)

pub ruleset shorts = (decimal-short, signed-short, detail-short)

-- a machine's number takes no more than twenty
pub places_few : (n k : ℕ) → n < 2 ^ 64 → IsDigitCount 10 1 n k → k ≤ 20
places_few n k h w = by (leb k 20) refl
  where
    by : (t : Bool) → leb k 20 ≡ t → k ≤ 20
    by true e = leb-true k 20 e
    by false e =
        let more : 20 < k = leb-false k 20 e in
        let least : 10 ^ (k - 1) ≤ n = w.2 (omega arith) in
        let much : 10 ^ 20 ≤ 10 ^ (k - 1) = pow-le-pow_right {n = 10} (omega arith) {i = 20} {j = k - 1} (omega arith) in
        absurd (omega arith)
