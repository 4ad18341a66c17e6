-- Bytes in a range, and the sizes of what digits come to.
use mathlib.Core.Path.{◌≡◌}
use mathlib.Core.Bool.{true, false, ◌&&◌}
use Prim.Native.Nat.{ℕ, ◌^◌, ◌≤◌, ◌<◌}
use native.Mathlib.Nat.{pow-le-pow_right}
use native.Mathlib.Omega.{arith}
use lib.Dec.{leb}
use borrow.Author.Tests.{lt-ltb, le-ltb, le-leb, lt-leb}
use Rattle.reader.proofs.Values.{and_false}
use Rattle.hex_lines.specs.Parcels.{hex_value, is_hex}

-- ---- whether a byte lies from a to z
pub inside : (a z b : ℕ) → a ≤ b → b ≤ z → (leb a b && leb b z) ≡ true
inside a z b h k = rw (le-leb a b h, le-leb b z k)

pub under : (a z b : ℕ) → b < a → (leb a b && leb b z) ≡ false
under a z b h = rw (lt-leb a b h)

pub above : (a z b : ℕ) → z < b → (leb a b && leb b z) ≡ false
above a z b h = rw (lt-leb b z h) (and_false (leb a b))

-- ---- whether it is a hex digit, by its value
pub hex : (b : ℕ) {d : ℕ} → d ≡ hex_value b → d < 16 → is_hex b ≡ true
hex b e h = lt-ltb (hex_value b) 16 (rw e at h)

pub no-hex : (b : ℕ) {d : ℕ} → d ≡ hex_value b → 16 ≤ d → is_hex b ≡ false
no-hex b e h = le-ltb (hex_value b) 16 (rw e at h)

-- ---- fewer than four digits leave room for one more
pub more : (n v : ℕ) → v < 16 ^ n → n < 4 → v < 2 ^ 12
more n v f h = omega (arith, f, pow-le-pow_right {n = 16} (omega arith) {i = n} {j = 3} (omega arith))
