-- Where a sum of tests is 0, each test is passed.
use Prim.Native.Nat.{ℕ, ◌+◌, ◌/◌, ◌≤◌}
use native.Mathlib.Omega.{arith}
use mathlib.Core.Path.{◌≡◌, refl, sym, subst}
use mathlib.Core.Bool.{Bool, true, false, cond, not}
use lib.Dec.{eqb, ltb}
use Rattle.std.specs.Prelude.{Option, Some, None}
use Rattle.std.proofs.lemmas.Option.{none-some}
use borrow.Author.Tests.{ltb-false, eqb-true, eqb-false, not-false}
use Rattle.words.specs.Forms.{bit_of}
use Rattle.combined.specs.Tests.{over, unlike, four, single_faults, input_faults, output_faults, dm_faults, pm_faults, dual_fits, access_faults, memory_fits}

pub bit_false : (t : Bool) → bit_of t ≡ 0 → t ≡ false
bit_false true e = absurd (omega arith)
bit_false false e = refl

pub under : (most v : ℕ) → over most v ≡ 0 → v ≤ most
under most v e = ltb-false most v (bit_false (ltb most v) e)

pub alike : (v w : ℕ) → unlike v w ≡ 0 → v ≡ w
alike v w e = eqb-true v w (not-false (eqb v w) (bit_false (not (eqb v w)) e))

-- where there is a word, its test is passed
pub passed : (t : Bool) (o : Option ℕ) {word : ℕ} → cond t o None ≡ Some word → (t ≡ true) × (o ≡ Some word)
passed true o h = (refl, h)
passed false o h = absurd (none-some _ h)

-- of an enumeration of two
pub zero_or_one : (P : ℕ → Type 0) → P 0 → P 1 → (v : ℕ) → v ≤ 1 → P v
zero_or_one P p q v h = go (eqb v 0) refl
  where
    go : (t : Bool) → eqb v 0 ≡ t → P v
    go true e = subst P (sym (eqb-true v 0 e)) p
    go false e = let o : v ≡ 1 = omega (arith, h, eqb-false v 0 e) in subst P (sym o) q

pub record SingleFit (most a b c d e f : ℕ) : Type 0 where
  pub places : (a ≤ 15) × (b ≤ 15) × (c ≤ most)
  pub spare : (d ≡ 0) × (e ≡ 0) × (f ≡ 0)

pub single-fit : (most a b c d e f : ℕ) → single_faults most a b c d e f ≡ 0 → SingleFit most a b c d e f
single-fit most a b c d e f s =
    record {
      places = (under 15 a (omega (arith, s)), under 15 b (omega (arith, s)), under most c (omega (arith, s)));
      spare = (omega (arith, s), omega (arith, s), omega (arith, s));
    }

pub record MultiFit (p mx my op d ax ay : ℕ) : Type 0 where
  pub inputs : (mx / 4 ≡ 0) × (my / 4 ≡ 1) × (ax / 4 ≡ 2) × (ay / 4 ≡ 3)
  pub others : (p ≤ 15) × (op ≤ 1) × (d ≤ 15)
  pub differ : eqb p d ≡ false

pub multi-fit : (p mx my op d ax ay : ℕ) → input_faults mx my ax ay + output_faults p op d ≡ 0 → MultiFit p mx my op d ax ay
multi-fit p mx my op d ax ay s =
    record {
      inputs = (alike (mx / 4) 0 (omega (arith, s)), alike (my / 4) 1 (omega (arith, s)), alike (ax / 4) 2 (omega (arith, s)), alike (ay / 4) 3 (omega (arith, s)));
      others = (under 15 p (omega (arith, s)), under 1 op (omega (arith, s)), under 15 d (omega (arith, s)));
      differ = bit_false (eqb p d) (omega (arith, s));
    }

pub record DualFit (a b c d e f g h : ℕ) : Type 0 where
  pub dm : (a ≤ 1) × (b ≤ 15) × (c ≤ 7) × (d ≤ 7)
  pub pm : (e ≤ 1) × (f ≤ 15) × (g / 8 ≡ 1) × (h / 8 ≡ 1)
  pub apart : eqb (four a e 0 0 + unlike b f) 0 ≡ false

pub dual_fit : (a b c d e f g h : ℕ) → dual_fits a b c d e f g h ≡ true → DualFit a b c d e f g h
unfolding dual_fits
dual_fit a b c d e f g h t =
    let s : dm_faults a b c d + pm_faults e f g h + bit_of (eqb (four a e 0 0 + unlike b f) 0) ≡ 0 = eqb-true _ 0 t in
    record {
      dm = (under 1 a (omega (arith, s)), under 15 b (omega (arith, s)), under 7 c (omega (arith, s)), under 7 d (omega (arith, s)));
      pm = (under 1 e (omega (arith, s)), under 15 f (omega (arith, s)), alike (g / 8) 1 (omega (arith, s)), alike (h / 8) 1 (omega (arith, s)));
      apart = bit_false (eqb (four a e 0 0 + unlike b f) 0) (omega (arith, s));
    }

pub record MemoryFit (a b c d e f g h : ℕ) : Type 0 where
  pub access : (a ≤ 1) × (b ≤ 95) × (c ≤ 15) × (d ≤ 15) × (e ≤ 1)
  pub same : c / 8 ≡ d / 8
  pub spare : (f ≡ 0) × (g ≡ 0) × (h ≡ 0)

pub memory-fit : (a b c d e f g h : ℕ) → memory_fits a b c d e f g h ≡ true → MemoryFit a b c d e f g h
unfolding memory_fits
memory-fit a b c d e f g h t =
    let s : access_faults a b c d e + unlike (c / 8) (d / 8) + four f g h 0 ≡ 0 = eqb-true _ 0 t in
    record {
      access = (under 1 a (omega (arith, s)), under 95 b (omega (arith, s)), under 15 c (omega (arith, s)), under 15 d (omega (arith, s)), under 1 e (omega (arith, s)));
      same = alike (c / 8) (d / 8) (omega (arith, s));
      spare = (omega (arith, s), omega (arith, s), omega (arith, s));
    }
