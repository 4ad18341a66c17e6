-- A form's bits as the flags that a row's numbers stand for, parted numbers joined again, and a signed field widened to a row's place and folded back.
use Prim.Native.Nat.{ℕ, zero, suc, ◌+◌, ◌-◌, ◌*◌, ◌/◌, ◌%◌, ◌^◌, ◌≤◌, ◌<◌}
use native.Mathlib.Omega.{arith}
use mathlib.Core.Path.{◌≡◌, refl}
use mathlib.Core.Bool.{Bool, true, false, not, cond, ◌&&◌, ◌||◌, beq}
use lib.Dec.{eqb, ltb}
use lib.IntN.{pos, negsuc}
use mir.Syntax.{w32}
use mir.Val.{to_z}
use borrow.Author.Tests.{eqb-true, ltb-true, ltb-false, lt-ltb, le-ltb, le-leb, lt-leb}
use Rattle.signs.specs.Signs.{folded, within}
use Rattle.words.specs.Forms.{bit_of, condition_code, is_store, is_post, is_f1}
use Rattle.encode.specs.Registers.{is_pm, mixed}
use Rattle.rows.specs.Fields.{condition_of, direction_of, update_of, mode_of}
use Rattle.fields.proofs.Matching.{both}
use Rattle.known.proofs.UpTo.{up_to_lem}
use Rattle.std.specs.Prelude.{is_some, unwrap_or}
use Rattle.known.specs.Table.{source, widened, condition_at}

-- a register's number is a byte
pub byte : (n : ℕ) → n < 256 → n % 256 ≡ n
byte n h = omega arith

-- a source parted over three fields
pub source-parts :
    (a b c : ℕ) → b < 2 → c < 2 → source a b c < 256 →
    (source a b c % 256 / 4 ≡ a) × (source a b c % 256 / 2 % 2 ≡ b) × (source a b c % 256 % 2 ≡ c)
source-parts a b c hb hc h = (rw (byte (source a b c) h) (omega arith), rw (byte (source a b c) h) (omega arith), rw (byte (source a b c) h) (omega arith))

-- ---- flags
pub bit : (P : ℕ → Type 0) → P 0 → P 1 → (n : ℕ) → n < 2 → P n
bit P x y zero h = x
bit P x y (suc zero) h = y
bit P x y (suc (suc n)) h = absurd (omega arith)

pub untrue : (t : Bool) → t ≡ true → not t ≡ false
untrue t e = rw e

pub flag : (n : ℕ) → n < 2 → bit_of (eqb n 1) ≡ n
flag zero h = refl
flag (suc zero) h = refl
flag (suc (suc n)) h = absurd (omega arith)

pub stores : (n : ℕ) → n < 2 → is_store (direction_of n) ≡ eqb n 1
unfolding direction_of
stores zero h = refl
stores (suc zero) h = refl
stores (suc (suc n)) h = absurd (omega arith)

pub loads : (n : ℕ) → n < 2 → not (eqb n 1) ≡ eqb n 0
loads zero h = refl
loads (suc zero) h = refl
loads (suc (suc n)) h = absurd (omega arith)

pub posts : (n : ℕ) → n < 2 → is_post (update_of (1 - n)) ≡ eqb n 1
unfolding update_of
posts zero h = refl
posts (suc zero) h = refl
posts (suc (suc n)) h = absurd (omega arith)

pub f1_bit : (n : ℕ) → n < 2 → bit_of (is_f1 (mode_of n)) ≡ n
unfolding mode_of
f1_bit zero h = refl
f1_bit (suc zero) h = refl
f1_bit (suc (suc n)) h = absurd (omega arith)

-- ---- an index or a modifier of the DAG that a bit chooses
pub in_dag_lem : (n g : ℕ) → n < 8 → g < 2 → is_pm ((n + 8 * g) % 256) ≡ eqb g 1
in_dag_lem n zero h l = lt-leb 8 ((n + 8 * 0) % 256) (omega arith)
in_dag_lem n (suc zero) h l = le-leb 8 ((n + 8 * 1) % 256) (omega arith)
in_dag_lem n (suc (suc g)) h l = absurd (omega arith)

pub low_bits : (n g : ℕ) → n < 8 → g < 2 → (n + 8 * g) % 256 % 8 ≡ n
low_bits n g h l = omega arith

beq_same : (t : Bool) → not (beq t t) ≡ false
beq_same true = refl
beq_same false = refl

pub unmixed : (i m g : ℕ) → i < 8 → m < 8 → g < 2 → mixed ((i + 8 * g) % 256) ((m + 8 * g) % 256) ≡ false
unmixed i m g hi hm l = rw (in_dag_lem i g hi l, in_dag_lem m g hm l) (beq_same (eqb g 1))

-- ---- conditions: a test of each code
abbrev condition : ℕ → ℕ
condition n = unwrap_or (condition_at n) 0

pub condition-back : (n : ℕ) → n < 32 → is_some (condition_at n) ≡ true → (condition n < 7) × (condition_code (condition_of (condition n)) ≡ n)
unfolding condition_of
condition-back n h l = go (is_some (condition_at n)) refl l (up_to_lem 32 (λ k. not (is_some (condition_at k)) || (ltb (condition k) 7 && eqb (condition_code (condition_of (condition k))) k)) n refl h)
  where
    go :
        (t : Bool) → is_some (condition_at n) ≡ t → t ≡ true → (not t || (ltb (condition n) 7 && eqb (condition_code (condition_of (condition n))) n)) ≡ true →
        (condition n < 7) × (condition_code (condition_of (condition n)) ≡ n)
    go true e y z = let b = both (ltb (condition n) 7) (eqb (condition_code (condition_of (condition n))) n) z in (ltb-true _ _ b.0, eqb-true _ _ b.1)
    go false e y z = let o : ◌≡◌ {A = ℕ} 0 1 = cc in absurd (omega arith)

-- ---- signed numbers: a field of 2 ^ m numbers, half of them negative
pub record Signed (m h v z : ℕ) : Type 0 where
  pub near : within (negsuc h) (pos h) (to_z w32 z) ≡ true
  pub back : folded m (to_z w32 z) ≡ v
  pub small : z < 2 ^ 32

pub widens : (m h v : ℕ) → suc h ≤ 2 ^ 31 → 2 ^ m ≡ 2 * suc h → v < 2 * suc h → Signed m h v (widened (suc h) v)
widens m h v s e l = go (ltb v (suc h)) refl
  where
    go : (t : Bool) → ltb v (suc h) ≡ t → Signed m h v (cond t v (v + (2 ^ 32 - 2 * suc h)))
    go true x =
        let g = ltb-true v (suc h) x in
        let y = lt-ltb v (2 ^ 31) (omega arith) in
        record { near = rw y (le-leb v h (omega arith)); back = rw y; small = omega arith }
    go false x =
        let g = ltb-false v (suc h) x in
        let z = v + (2 ^ 32 - 2 * suc h) in
        let y = le-ltb z (2 ^ 31) (omega arith) in
        record { near = rw (y, le-leb (2 ^ 32 - suc z) h (omega arith)); back = rw y (omega arith); small = omega arith }

-- a number of 32 bits stands as it is
pub folded-whole : (v : ℕ) → v < 2 ^ 32 → folded 32 (to_z w32 v) ≡ v
folded-whole v l = go (ltb v (2 ^ 31))
  where
    go : (t : Bool) → folded 32 (cond t (pos v) (negsuc (2 ^ 32 - suc v))) ≡ v
    go true = refl
    go false = omega arith

-- and is far where it is neither 0 to 63 nor -64 to -1
pub far : (v : ℕ) → 64 ≤ v → v < 0xffff_ffc0 → within (negsuc 63) (pos 63) (to_z w32 v) ≡ false
far v a b = go (ltb v (2 ^ 31))
  where
    go : (t : Bool) → within (negsuc 63) (pos 63) (cond t (pos v) (negsuc (2 ^ 32 - suc v))) ≡ false
    go true = lt-leb v 63 a
    go false = rw (lt-leb (2 ^ 32 - suc v) 63 (omega arith))
