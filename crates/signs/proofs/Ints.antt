-- Laws of signed numbers that are folded into a field.
use Prim.Native.Nat.{ℕ, suc, zero, ◌+◌, ◌-◌, ◌*◌, ◌%◌, ◌≤◌, ◌<◌, ◌^◌}
use native.Mathlib.Omega.{arith}
use mathlib.Core.Path.{◌≡◌, refl, sym, ap, ◌∙◌}
use mathlib.Core.Bool.{Bool, true, false, cond, ◌&&◌}
use lib.IntN.{ℤ, pos, negsuc, ◌-ℤ◌}
use lib.Signed.{mag}
use lib.Dec.{ltb, leb}
use lib.Pow.{pow_pos}
use mir.Syntax.{w64}
use mir.Val.{of_z}
use Rattle.std.proofs.lemmas.Nat.{pow-add, mod-mul-add}
use Rattle.std.proofs.Math.Nat.{mod-eq_of_lt}
use Rattle.std.proofs.Math.Pow.{pow-lt}
use borrow.Author.Tests.{leb-false, le-ltb, lt-ltb, leb-true}
use Rattle.signs.specs.Signs.{folded, signed_in, within}

either : (m : ℕ) (t : Bool) (x y : ℤ) → mag x < m → mag y < m → mag (cond t x y) < m
either m true x y hx hy = hx
either m false x y hx hy = hy

-- the difference of two numbers is no larger than either
pub apart_mag : (m a b : ℕ) → a < m → b < m → mag (pos a -ℤ pos b) < m
apart_mag m a zero ha hb = omega arith
apart_mag m a (suc b) ha hb = either m (ltb a (suc b)) (negsuc (suc b - suc a)) (pos (a - suc b)) (omega arith) (omega arith)

and_true : (b : Bool) → (b && true) ≡ b
and_true true = refl
and_true false = refl

-- from -(h + 1) to h
pub within_mag : (h : ℕ) (z : ℤ) → within (negsuc h) (pos h) z ≡ true → mag z < suc h
within_mag h (pos k) t = let l : k ≤ h = leb-true k h t in omega arith
within_mag h (negsuc k) t = let l : k ≤ h = leb-true k h (sym (and_true (leb k h)) ∙ t) in omega arith

-- ---- a number in reach of n + 1 bits, that is from -(2 ^ n) to 2 ^ n - 1, fits them, and they hold it
pub folded_fits : (n : ℕ) (z : ℤ) → mag z < 2 ^ n → folded n z < 2 ^ n
folded_fits n (pos k) h = h
folded_fits n (negsuc k) h = let p = pow_pos n in omega arith

pub folded_back : (n : ℕ) (z : ℤ) → within (negsuc (2 ^ n - 1)) (pos (2 ^ n - 1)) z ≡ true → signed_in (suc n) (folded (suc n) z) ≡ z
folded_back n (pos k) t =
    let p = pow_pos n in
    let m = within_mag (2 ^ n - 1) (pos k) t in
    rw (lt-ltb (2 * k) (2 ^ suc n) (omega arith))
folded_back n (negsuc k) t =
    let p = pow_pos n in
    let m = within_mag (2 ^ n - 1) (negsuc k) t in
    rw (le-ltb (2 * (2 ^ suc n - suc k)) (2 ^ suc n) (omega arith)) (ap negsuc (omega arith))

-- ---- the last n of a number's 64 bits fold it
few : (n : ℕ) (t : Bool) → leb n 32 ≡ t → 2 ^ n ≤ 2 ^ 32 → n ≤ 32
few n true e h = leb-true n 32 e
few n false e h = let over : 32 < n = leb-false n 32 e in let p = pow-lt over in absurd (omega arith)

last-of : (q m k : ℕ) → 0 < q → k < m → (q * m - suc k) % m ≡ m - suc k
last-of zero m k more h = absurd (omega arith)
last-of (suc q) m k more h =
    let e : suc q * m - suc k ≡ q * m + (m - suc k) = omega arith in
    rw e (mod-mul-add q m (m - suc k) (omega arith))

pub wrapped : (n : ℕ) (z : ℤ) → mag z < 2 ^ n → 2 ^ n ≤ 2 ^ 32 → of_z w64 z % 2 ^ n ≡ folded n z
wrapped n (pos k) h le = mod-eq_of_lt h
wrapped n (negsuc k) h le =
    let few = few n (leb n 32) refl le in
    let whole : 64 - n + n ≡ 64 = omega arith in
    let e : 2 ^ 64 ≡ 2 ^ (64 - n) * 2 ^ n = rw (← pow-add 2 (64 - n) n, whole) in
    rw e (last-of (2 ^ (64 - n)) (2 ^ n) k (pow_pos (64 - n)) h)
