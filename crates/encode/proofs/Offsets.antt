-- An offset of 32 bits is the same number in 64; a tested offset lies below the modulus that folds it.
use Prim.Native.Nat.{ℕ, suc, ◌<◌, ◌^◌}
use native.Mathlib.Omega.{arith}
use mathlib.Core.Path.{◌≡◌, ◌∙◌}
use mathlib.Core.Bool.{true}
use lib.IntN.{ℤ, pos, negsuc}
use lib.Signed.{mag}
use mir.Syntax.{w32, w64}
use mir.Val.{SFits, to_z, of_z}
use mir.Facts.{to_z-of_z, sfits_widen}
use Rattle.signs.specs.Signs.{within}
use Rattle.signs.proofs.Ints.{within_mag}

pub widened : {z : ℤ} → SFits w32 z → SFits w64 (to_z w32 (of_z w32 z))
widened f = rw (to_z-of_z f) (sfits_widen tt f)

pub wide-same : {z : ℤ} → SFits w32 z → to_z w64 (of_z w64 (to_z w32 (of_z w32 z))) ≡ z
wide-same f = to_z-of_z (widened f) ∙ to_z-of_z f

pub wide_mag : {z : ℤ} → SFits w32 z → mag (to_z w64 (of_z w64 (to_z w32 (of_z w32 z)))) < 2 ^ 32
wide_mag f = rw (wide-same f) (omega (arith, f.sfits))

pub tested_mag : (h : ℕ) {z : ℤ} → SFits w64 z → within (negsuc h) (pos h) (to_z w64 (of_z w64 z)) ≡ true → mag (to_z w64 (of_z w64 z)) < suc h
tested_mag h {z} f t = within_mag h (to_z w64 (of_z w64 z)) t
