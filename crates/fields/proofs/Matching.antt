-- A word made of a form is of the form and gives back its numbers; a word of the form is made of the numbers that it gives; and no word is of
-- two forms that are apart.
use Prim.Native.Nat.{ℕ, ◌+◌, ◌-◌, ◌/◌, ◌%◌, ◌^◌, ◌≤◌, ◌<◌}
use native.Mathlib.Omega.{arith}
use native.Mathlib.Nat.{mod-eq_of_lt, mod-lt}
use mathlib.Core.Path.{◌≡◌, refl, sym, ap, ap₂, ◌∙◌}
use mathlib.Core.Bool.{Bool, true, false, not, ◌&&◌, ◌||◌}
use mathlib.Core.List.{List, [], ◌∷◌}
use lib.Dec.{eqb, leb}
use lib.Pow.{shr-shr, mod-mod-pow, pow_pos}
use lib.Pow as pow
use borrow.Author.Tests.{eqb-true, eqb-false, leb-true, eq-eqb, not-true}
use Rattle.fields.specs.Pack.{Field, fixed, operand, pack, field, values, reads, Tiles}
use Rattle.fields.specs.Matching.{matches, operands, found, shape, raised, part, differ, less, more, clashes, apart, Suits, filled_by}
use Rattle.fields.proofs.Packed.{rebuild}

-- ---- tests
pub both : (a b : Bool) → (a && b) ≡ true → (a ≡ true) × (b ≡ true)
both true b e = (refl, e)
both false b e = let z : ◌≡◌ {A = ℕ} 0 1 = cc in absurd (omega arith)

pub is_false : (t : Bool) → (t ≡ true → ⊥) → t ≡ false
is_false true f = absurd (f refl)
is_false false f = refl

-- ---- a word that reads as the form's numbers is of the form, and gives the instruction's numbers
pub reads-matches : (fs : List Field) (word : ℕ) → reads fs word ≡ values fs → matches fs word ≡ true
reads-matches [] word e = refl
reads-matches (fixed hi lo v ∷ fs) word e =
    let first : field hi lo word ≡ v = cc in
    let rest : reads fs word ≡ values fs = cc in
    rw (eq-eqb (field hi lo word) v first) (reads-matches fs word rest)
reads-matches (operand hi lo n ∷ fs) word e =
    let rest : reads fs word ≡ values fs = cc in
    reads-matches fs word rest

pub reads-found : (fs : List Field) (word : ℕ) → reads fs word ≡ values fs → found fs word ≡ operands fs
reads-found [] word e = refl
reads-found (fixed hi lo v ∷ fs) word e =
    let rest : reads fs word ≡ values fs = cc in
    reads-found fs word rest
reads-found (operand hi lo n ∷ fs) word e =
    let first : field hi lo word ≡ n = cc in
    let rest : reads fs word ≡ values fs = cc in
    ap₂ ◌∷◌ first (reads-found fs word rest)

-- ---- THE WAY BACK: a word of the form is made of the numbers that it gives, and these suit the form
read-filled : (fs : List Field) (word : ℕ) → matches fs word ≡ true → reads (filled_by fs (found fs word)) word ≡ values (filled_by fs (found fs word))
read-filled [] word e = refl
read-filled (fixed hi lo v ∷ fs) word e =
    let a = both (eqb (field hi lo word) v) (matches fs word) e in
    ap₂ ◌∷◌ (eqb-true _ _ a.0) (read-filled fs word a.1)
read-filled (operand hi lo n ∷ fs) word e = ap (λ (l : List ℕ). field hi lo word ∷ l) (read-filled fs word e)

tiles-filled : (top : ℕ) (fs : List Field) (ns : List ℕ) → Tiles top fs → Tiles top (filled_by fs ns)
tiles-filled top [] ns t = t
tiles-filled top (fixed hi lo v ∷ fs) ns t = (t.0, t.1, tiles-filled lo fs ns t.2)
tiles-filled top (operand hi lo m ∷ fs) [] t = (t.0, t.1, tiles-filled lo fs [] t.2)
tiles-filled top (operand hi lo m ∷ fs) (n ∷ ns) t = (t.0, t.1, tiles-filled lo fs ns t.2)

pub remade : (top : ℕ) (fs : List Field) (word : ℕ) → Tiles top fs → matches fs word ≡ true → word < 2 ^ top → pack (filled_by fs (found fs word)) ≡ word
remade top fs word t e h =
    rebuild top (filled_by fs (found fs word)) word (tiles-filled top fs (found fs word) t) (read-filled fs word e) ∙ mod-eq_of_lt h

pub found_suits : (fs : List Field) (word : ℕ) → Suits fs (found fs word)
found_suits [] word = tt
found_suits (fixed hi lo v ∷ fs) word = found_suits fs word
found_suits (operand hi lo n ∷ fs) word = (mod-lt (word / 2 ^ lo) (pow_pos (hi + 1 - lo)), found_suits fs word)

-- ---- what stands in a part of a field
pub inner : (hi lo h l word v : ℕ) → lo ≤ l → l ≤ h → h ≤ hi → field hi lo word ≡ v → field h l word ≡ part v lo h l
inner hi lo h l word v a b c e =
    let n : ℕ = word / 2 ^ lo in
    let d : ℕ = l - lo in
    let r : ℕ = hi + 1 - l in
    let s : ℕ = h + 1 - l in
    let w : hi + 1 - lo ≡ r + d = omega arith in
    let x : n % 2 ^ (hi + 1 - lo) / 2 ^ d ≡ n / 2 ^ d % 2 ^ r = ap (λ (k : ℕ). n % 2 ^ k / 2 ^ d) w ∙ pow.field n r d in
    let y : n / 2 ^ d % 2 ^ r % 2 ^ s ≡ n / 2 ^ d % 2 ^ s = ap (λ (k : ℕ). n / 2 ^ d % 2 ^ k % 2 ^ s) (omega arith) ∙ mod-mod-pow (n / 2 ^ d) (r - s) s in
    let z : n / 2 ^ d ≡ word / 2 ^ l = shr-shr word lo d ∙ ap (λ (k : ℕ). word / 2 ^ k) (omega arith) in
    ap (λ (m : ℕ). m % 2 ^ s) (sym z) ∙ sym y ∙ ap (λ (m : ℕ). m % 2 ^ s) (sym x) ∙ ap (λ (m : ℕ). m / 2 ^ d % 2 ^ s) e

-- ---- THE LAW of apart forms: no word is of both
either : (a b : Bool) → (a || b) ≡ true → (C : Type 0) → (a ≡ true → C) → (b ≡ true → C) → C
either true b e C f g = f refl
either false b e C f g = g e

no-differ :
    (h l hi lo v hi' lo' v' word : ℕ) → differ h l hi lo v hi' lo' v' ≡ true → field hi lo word ≡ v → field hi' lo' word ≡ v' → ⊥
no-differ h l hi lo v hi' lo' v' word d e e' =
    let t = not (eqb (part v lo h l) (part v' lo' h l)) in
    let a = both (leb lo l) (leb lo' l && (leb l h && (leb h hi && (leb h hi' && t)))) d in
    let b = both (leb lo' l) (leb l h && (leb h hi && (leb h hi' && t))) a.1 in
    let c = both (leb l h) (leb h hi && (leb h hi' && t)) b.1 in
    let f = both (leb h hi) (leb h hi' && t) c.1 in
    let g = both (leb h hi') t f.1 in
    eqb-false (part v lo h l) (part v' lo' h l) (not-true _ g.1)
    (sym (inner hi lo h l word v (leb-true _ _ a.0) (leb-true _ _ c.0) (leb-true _ _ f.0) e)
    ∙ inner hi' lo' h l word v' (leb-true _ _ b.0) (leb-true _ _ c.0) (leb-true _ _ g.0) e')

no_clash : (hi lo v : ℕ) (gs : List Field) (word : ℕ) → clashes hi lo v gs ≡ true → field hi lo word ≡ v → matches gs word ≡ true → ⊥
no_clash hi lo v [] word c e m = let z : ◌≡◌ {A = ℕ} 0 1 = cc in omega arith
no_clash hi lo v (fixed hi' lo' v' ∷ gs) word c e m =
    let a = both (eqb (field hi' lo' word) v') (matches gs word) m in
    either (differ (less hi hi') (more lo lo') hi lo v hi' lo' v') (clashes hi lo v gs) c ⊥
    (λ d. no-differ (less hi hi') (more lo lo') hi lo v hi' lo' v' word d e (eqb-true _ _ a.0))
    (λ d. no_clash hi lo v gs word d e a.1)
no_clash hi lo v (operand hi' lo' n ∷ gs) word c e m = no_clash hi lo v gs word c e m

pub not_both : (fs gs : List Field) (word : ℕ) → apart fs gs ≡ true → matches fs word ≡ true → matches gs word ≡ true → ⊥
not_both [] gs word a m k = let z : ◌≡◌ {A = ℕ} 0 1 = cc in omega arith
not_both (fixed hi lo v ∷ fs) gs word a m k =
    let b = both (eqb (field hi lo word) v) (matches fs word) m in
    either (clashes hi lo v gs) (apart fs gs) a ⊥
    (λ c. no_clash hi lo v gs word c (eqb-true _ _ b.0) k)
    (λ c. not_both fs gs word c b.1 k)
not_both (operand hi lo n ∷ fs) gs word a m k = not_both fs gs word a m k

-- ---- the form alone decides; and a form that is raised by d bits is read in a word over d bits
pub same_shape : (fs : List Field) (word : ℕ) → matches (shape fs) word ≡ matches fs word
same_shape [] word = refl
same_shape (fixed hi lo v ∷ fs) word = ap (λ (b : Bool). eqb (field hi lo word) v && b) (same_shape fs word)
same_shape (operand hi lo n ∷ fs) word = same_shape fs word

pub same-found : (fs : List Field) (word : ℕ) → found (shape fs) word ≡ found fs word
same-found [] word = refl
same-found (fixed hi lo v ∷ fs) word = same-found fs word
same-found (operand hi lo n ∷ fs) word = ap (λ (l : List ℕ). field hi lo word ∷ l) (same-found fs word)

field-raised : (d hi lo word : ℕ) → field (hi + d) (lo + d) word ≡ field hi lo (word / 2 ^ d)
field-raised d hi lo word =
    ap₂ (λ (m k : ℕ). m % 2 ^ k) (ap (λ (k : ℕ). word / 2 ^ k) (omega arith) ∙ sym (shr-shr word d lo)) (omega arith)

pub matches-raised : (d : ℕ) (fs : List Field) (word : ℕ) → matches (raised d fs) word ≡ matches fs (word / 2 ^ d)
matches-raised d [] word = refl
matches-raised d (fixed hi lo v ∷ fs) word =
    ap₂ (λ (n : ℕ) (b : Bool). eqb n v && b) (field-raised d hi lo word) (matches-raised d fs word)
matches-raised d (operand hi lo n ∷ fs) word = matches-raised d fs word

pub found-raised : (d : ℕ) (fs : List Field) (word : ℕ) → found (raised d fs) word ≡ found fs (word / 2 ^ d)
found-raised d [] word = refl
found-raised d (fixed hi lo v ∷ fs) word = found-raised d fs word
found-raised d (operand hi lo n ∷ fs) word = ap₂ ◌∷◌ (field-raised d hi lo word) (found-raised d fs word)
