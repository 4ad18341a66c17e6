-- A number that is signed.
use mathlib.Core.Path.{◌≡◌}
use Prim.Native.Nat.{ℕ}
use lib.IntN.{ℤ}
use Rattle.text.specs.declared.Text.{Text}
use Rattle.text.specs.Text.{detail, refusal_text, Puts, Shows}
use Rattle.text.proofs.Lengths.{refused_fits}
use Rattle.text.proofs.Putting.{shows}

-- a number that went through the machine's bits
pub puts-detail : {z z' : ℤ} → z' ≡ z → {t u : Text} → Puts t (detail z') u → Puts t (detail z) u
puts-detail e p = rw e at p

-- a refusal whose details went through them stands at the front of a buffer
pub shows-refusal : (n : ℕ) {a b d a' b' d' : ℤ} → a' ≡ a → b' ≡ b → d' ≡ d → {t u : Text} → Puts t (refusal_text n a' b' d') u → t.at ≡ 0 → Shows (refusal_text n a b d) u.out.now u.at
shows-refusal n {a} {b} {d} e f g p z = shows (rw (e, f, g) at p) z (refused_fits n a b d)
