-- The numbers of a row's places, out of the fields that they were put into: signed numbers, flags, enumerations, indices and modifiers.
use Prim.Native.Nat.{ℕ, suc, ◌+◌, ◌-◌, ◌*◌, ◌^◌, ◌%◌, ◌≤◌, ◌<◌}
use native.Mathlib.Omega.{arith}
use mathlib.Core.Path.{◌≡◌, refl, ap}
use mathlib.Core.Bool.{Bool, true, false, not, cond, beq, ◌&&◌}
use lib.IntN.{pos, negsuc}
use lib.Dec.{leb, ltb, eqb}
use mir.Syntax.{w32}
use mir.Val.{to_z}
use borrow.Author.Tests.{eqb-true, ltb-true, ltb-false, leb-true, leb-false, lt-ltb, le-ltb, le-leb}
use Rattle.signs.specs.Signs.{folded, within}
use Rattle.signs.proofs.Ints.{within_mag}
use Rattle.words.specs.Forms.{bit_of, condition_code, is_store, is_post, is_f1}
use Rattle.rows.specs.Fields.{condition_of, direction_of, update_of, mode_of, bool_of}
use Rattle.known.proofs.UpTo.{up_to_lem}
use Rattle.std.specs.Prelude.{Option, Some, None}
use Rattle.std.specs.Option.{option_eq}
use Rattle.known.specs.Table.{widened, condition_at}

-- ---- by a test of each number below a bound
pub condition-back : (a : ℕ) → a < 7 → condition_at (condition_code (condition_of a)) ≡ Some a
unfolding condition_of
condition-back a h = found _ (up_to_lem 7 (λ n. option_eq eqb (condition_at (condition_code (condition_of n))) (Some n)) a refl h)
  where
    found : (o : Option ℕ) → option_eq eqb o (Some a) ≡ true → o ≡ Some a
    found (Some n) e = ap Some (eqb-true n a e)
    found None e = let z : ◌≡◌ {A = ℕ} 0 1 = cc in absurd (omega arith)

pub bool-back : (c : ℕ) → c < 2 → bit_of (bool_of c) ≡ c
bool-back c h = eqb-true _ _ (up_to_lem 2 (λ n. eqb (bit_of (bool_of n)) n) c refl h)

pub direction-back : (v : ℕ) → v < 2 → bit_of (is_store (direction_of v)) ≡ v
unfolding direction_of
direction-back v h = eqb-true _ _ (up_to_lem 2 (λ n. eqb (bit_of (is_store (direction_of n))) n) v refl h)

pub update-back : (v : ℕ) → v < 2 → 1 - bit_of (is_post (update_of v)) ≡ v
unfolding update_of
update-back v h = eqb-true _ _ (up_to_lem 2 (λ n. eqb (1 - bit_of (is_post (update_of n))) n) v refl h)

pub mode-back : (v : ℕ) → v < 2 → bit_of (is_f1 (mode_of v)) ≡ v
unfolding mode_of
mode-back v h = eqb-true _ _ (up_to_lem 2 (λ n. eqb (bit_of (is_f1 (mode_of n))) n) v refl h)

-- ---- an index or a modifier, from its bits and its DAG
pub dag_back : (t : Bool) (n : ℕ) → leb 8 n ≡ t → n < 16 → n % 8 + 8 * bit_of t ≡ n
dag_back true n e h = let l = leb-true 8 n e in omega arith
dag_back false n e h = let l = leb-false 8 n e in omega arith

pub unmixed : (s t : Bool) → not (beq s t) ≡ false → s ≡ t
unmixed true true e = refl
unmixed false false e = refl
unmixed true false e = let z : ◌≡◌ {A = ℕ} 0 1 = cc in absurd (omega arith)
unmixed false true e = let z : ◌≡◌ {A = ℕ} 0 1 = cc in absurd (omega arith)

-- ---- a signed place
held : (t : Bool) (b n h : ℕ) → ltb b (2 ^ 31) ≡ t → b < 2 ^ 32 → suc h ≤ 2 ^ 31 → 2 ^ n ≡ 2 * suc h →
    within (negsuc h) (pos h) (cond t (pos b) (negsuc (2 ^ 32 - suc b))) ≡ true → widened (suc h) (folded n (cond t (pos b) (negsuc (2 ^ 32 - suc b)))) ≡ b
held true b n h e l s p w =
    let m = within_mag h (pos b) w in
    rw (lt-ltb b (suc h) (omega arith))
held false b n h e l s p w =
    let m = within_mag h (negsuc (2 ^ 32 - suc b)) w in
    let g = ltb-false b (2 ^ 31) e in
    rw (p, le-ltb (2 * suc h - suc (2 ^ 32 - suc b)) (suc h) (omega arith)) (omega arith)

-- within -(h + 1) to h, in n bits
pub signed_back : (b n h : ℕ) → b < 2 ^ 32 → suc h ≤ 2 ^ 31 → 2 ^ n ≡ 2 * suc h → within (negsuc h) (pos h) (to_z w32 b) ≡ true → widened (suc h) (folded n (to_z w32 b)) ≡ b
signed_back b n h l s p w = held (ltb b (2 ^ 31)) b n h refl l s p w

-- in 32 bits it stands as it is
whole : (t : Bool) (b : ℕ) → b < 2 ^ 32 → folded 32 (cond t (pos b) (negsuc (2 ^ 32 - suc b))) ≡ b
whole true b l = refl
whole false b l = omega arith

pub whole_back : (b : ℕ) → b < 2 ^ 32 → folded 32 (to_z w32 b) ≡ b
whole_back b l = whole (ltb b (2 ^ 31)) b l

-- what is not within -64 to 63
far : (t : Bool) (b : ℕ) → ltb b (2 ^ 31) ≡ t → b < 2 ^ 32 → within (negsuc 63) (pos 63) (cond t (pos b) (negsuc (2 ^ 32 - suc b))) ≡ false →
    (leb 64 b && ltb b 0xffff_ffc0) ≡ true
far true b e l w =
    let m = ltb-true b (2 ^ 31) e in
    let g = leb-false b 63 w in
    rw (le-leb 64 b (omega arith), lt-ltb b 0xffff_ffc0 (omega arith))
far false b e l w =
    let m = ltb-false b (2 ^ 31) e in
    rw (le-leb 64 b (omega arith)) (go (leb (2 ^ 32 - suc b) 63) refl w)
  where
    go : (u : Bool) → leb (2 ^ 32 - suc b) 63 ≡ u → (u && true) ≡ false → ltb b 0xffff_ffc0 ≡ true
    go true x y = let z : ◌≡◌ {A = ℕ} 0 1 = cc in absurd (omega arith)
    go false x y = let g = leb-false (2 ^ 32 - suc b) 63 x in lt-ltb b 0xffff_ffc0 (omega arith)

pub far-back : (b : ℕ) → b < 2 ^ 32 → within (negsuc 63) (pos 63) (to_z w32 b) ≡ false → (leb 64 b && ltb b 0xffff_ffc0) ≡ true
far-back b l w = far (ltb b (2 ^ 31)) b refl l w
