-- The law of packing, once over every width and position: a list of fields that tile their bits, with numbers that fit, is faithful.
use Prim.Native.Nat.{ℕ, suc, zero, ◌+◌, ◌*◌, ◌^◌, ◌-◌, ◌/◌, ◌%◌, ◌≤◌, ◌<◌}
use native.Mathlib.Omega.{arith}
use native.Mathlib.Nat.{mod-eq_of_lt}
use mathlib.Core.Path.{◌≡◌, refl, sym, ap, ap₂, ◌∙◌}
use mathlib.Core.List.{List, [], ◌∷◌}
use lib.ListN.{length}
use lib.Pow.{pow-add, pow_pos, high, low, mod-pow-add}
use lib.Arith.{digits_lt}
use Rattle.fields.specs.Pack.{Field, fixed, operand, pack, field, values, reads, Tiles, Fits}
use Rattle.fields.specs.Parcels.{cut, joined}
use Rattle.fields.specs.Faithful.{Faithful, Spells}

-- 2 to the sum
pow_split : (n a b : ℕ) → n ≡ a + b → 2 ^ n ≡ 2 ^ a * 2 ^ b
pow_split n a b e = ap (λ (k : ℕ). 2 ^ k) e ∙ pow-add 2 a b

-- ---- the packed word is below its top
digit : (top hi lo v r : ℕ) → top ≡ hi + 1 → lo ≤ hi → v < 2 ^ (hi + 1 - lo) → r < 2 ^ lo → v * 2 ^ lo + r < 2 ^ top
digit top hi lo v r t a c p =
    let d : v * 2 ^ lo + r < 2 ^ (hi + 1 - lo) * 2 ^ lo = digits_lt c p in
    let e : 2 ^ top ≡ 2 ^ (hi + 1 - lo) * 2 ^ lo = pow_split top (hi + 1 - lo) lo (omega arith) in
    omega arith

pub below : (top : ℕ) (fs : List Field) → Tiles top fs → Fits fs → pack fs < 2 ^ top
below top [] t f = pow_pos top
below top (fixed hi lo v ∷ fs) t f = digit top hi lo v (pack fs) t.0 t.1 f.0 (below lo fs t.2 f.1)
below top (operand hi lo n ∷ fs) t f = digit top hi lo n (pack fs) t.0 t.1 f.0 (below lo fs t.2 f.1)

-- ---- what stands over a field, and the field, over what lies below it
regroup : (h top lo v r : ℕ) → lo ≤ top → h * 2 ^ top + (v * 2 ^ lo + r) ≡ (h * 2 ^ (top - lo) + v) * 2 ^ lo + r
regroup h top lo v r a =
    let e : 2 ^ top ≡ 2 ^ (top - lo) * 2 ^ lo = pow_split top (top - lo) lo (omega arith) in
    ap (λ (n : ℕ). h * n + (v * 2 ^ lo + r)) e ∙ omega arith

-- one field reads back
one : (h top hi lo v r : ℕ) → top ≡ hi + 1 → lo ≤ hi → v < 2 ^ (hi + 1 - lo) → r < 2 ^ lo → field hi lo (h * 2 ^ top + (v * 2 ^ lo + r)) ≡ v
one h top hi lo v r t a c d =
    let w : ℕ = hi + 1 - lo in
    let g : h * 2 ^ (top - lo) + v ≡ h * 2 ^ w + v = ap (λ (n : ℕ). h * 2 ^ n + v) (omega arith) in
    ap (λ (n : ℕ). n / 2 ^ lo % 2 ^ w) (regroup h top lo v r (omega arith))
    ∙ ap (λ (n : ℕ). n % 2 ^ w) (high (h * 2 ^ (top - lo) + v) lo d)
    ∙ ap (λ (n : ℕ). n % 2 ^ w) g
    ∙ low h w c

-- and so do the fields below it
more :
    (h top hi lo v : ℕ) (fs : List Field) → top ≡ hi + 1 → lo ≤ hi → reads fs ((h * 2 ^ (top - lo) + v) * 2 ^ lo + pack fs) ≡ values fs →
    reads fs (h * 2 ^ top + (v * 2 ^ lo + pack fs)) ≡ values fs
more h top hi lo v fs t a e = ap (reads fs) (regroup h top lo v (pack fs) (omega arith)) ∙ e

-- every field reads back, whatever stands over the top
read-over : (h top : ℕ) (fs : List Field) → Tiles top fs → Fits fs → reads fs (h * 2 ^ top + pack fs) ≡ values fs
read-over h top [] t f = refl
read-over h top (fixed hi lo v ∷ fs) t f =
    ap₂ ◌∷◌ (one h top hi lo v (pack fs) t.0 t.1 f.0 (below lo fs t.2 f.1))
    (more h top hi lo v fs t.0 t.1 (read-over (h * 2 ^ (top - lo) + v) lo fs t.2 f.1))
read-over h top (operand hi lo n ∷ fs) t f =
    ap₂ ◌∷◌ (one h top hi lo n (pack fs) t.0 t.1 f.0 (below lo fs t.2 f.1))
    (more h top hi lo n fs t.0 t.1 (read-over (h * 2 ^ (top - lo) + n) lo fs t.2 f.1))

-- a word reads back as what was packed
pub read_back : (top : ℕ) (fs : List Field) → Tiles top fs → Fits fs → reads fs (pack fs) ≡ values fs
read_back top fs t f = ap (reads fs) (omega arith) ∙ read-over 0 top fs t f

-- ---- the other way: a word is the pack of what it has at places that tile it
again : (top hi lo word r : ℕ) → top ≡ hi + 1 → lo ≤ hi → r ≡ word % 2 ^ lo → field hi lo word * 2 ^ lo + r ≡ word % 2 ^ top
again top hi lo word r t a e =
    ap (λ (n : ℕ). field hi lo word * 2 ^ lo + n) e
    ∙ sym (mod-pow-add word (hi + 1 - lo) lo)
    ∙ ap (λ (n : ℕ). word % 2 ^ n) (omega arith)

-- so a word that reads as the fields' numbers is their pack
pub rebuild : (top : ℕ) (fs : List Field) (word : ℕ) → Tiles top fs → reads fs word ≡ values fs → pack fs ≡ word % 2 ^ top
rebuild top [] word t e = rw t (omega arith)
rebuild top (fixed hi lo v ∷ fs) word t e =
    let first : field hi lo word ≡ v = cc in
    let rest : reads fs word ≡ values fs = cc in
    ap (λ (n : ℕ). n * 2 ^ lo + pack fs) (sym first) ∙ again top hi lo word (pack fs) t.0 t.1 (rebuild lo fs word t.2 rest)
rebuild top (operand hi lo n ∷ fs) word t e =
    let first : field hi lo word ≡ n = cc in
    let rest : reads fs word ≡ values fs = cc in
    ap (λ (m : ℕ). m * 2 ^ lo + pack fs) (sym first) ∙ again top hi lo word (pack fs) t.0 t.1 (rebuild lo fs word t.2 rest)

-- THE LAW of every list of fields
pub faithful : (top : ℕ) (fs : List Field) → Tiles top fs → Fits fs → Faithful top fs
faithful top fs t f = record {
  tiles = t;
  fits = f;
  within = below top fs t f;
  back = read_back top fs t f;
  only = λ word h e. sym (rebuild top fs word t e ∙ mod-eq_of_lt h);
}

-- ---- parcels make the word that they were cut from
length_cut : (n word : ℕ) → length (cut n word) ≡ n
length_cut zero word = refl
length_cut (suc n) word = ap suc (length_cut n word)

pub joined-cut : (n word : ℕ) → joined (cut n word) ≡ word % 2 ^ (16 * n)
joined-cut zero word = omega arith
joined-cut (suc n) word =
    ap (λ (k : ℕ). word / 2 ^ (16 * n) % 2 ^ 16 * 2 ^ (16 * k) + joined (cut n word)) (length_cut n word)
    ∙ ap (λ (r : ℕ). word / 2 ^ (16 * n) % 2 ^ 16 * 2 ^ (16 * n) + r) (joined-cut n word)
    ∙ sym (mod-pow-add word 16 (16 * n))
    ∙ ap (λ (k : ℕ). word % 2 ^ k) (omega arith)

pub joined_back : (n word : ℕ) → word < 2 ^ (16 * n) → joined (cut n word) ≡ word
joined_back n word h = joined-cut n word ∙ mod-eq_of_lt h

pub spells : (parcels : List ℕ) (n : ℕ) (fs : List Field) → parcels ≡ cut n (pack fs) → Faithful (16 * n) fs → Spells parcels n fs
spells parcels n fs e f = record { cuts = e; makes = ap joined e ∙ joined_back n (pack fs) f.within; faithful = f }
