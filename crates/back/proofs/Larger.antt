-- The row of larger kind with the same parcels: it encodes to them too, and no two rows of smaller kind have the same one.
use Prim.Native.Nat.{ℕ, ◌≤◌, ◌<◌}
use native.Mathlib.Omega.{arith}
use mathlib.Core.Path.{◌≡◌, refl, sym, ap, ◌∙◌, subst}
use mathlib.Core.Bool.{Bool, true, false, cond, ◌&&◌, ◌||◌}
use mathlib.Core.Logic.{◌⊎◌, inl, inr}
use mathlib.Core.List.{List, [], ◌∷◌}
use lib.Dec.{eqb, leb}
use lib.ListN.{length, take, drop}
use borrow.Author.Tests.{eqb-true, leb-true}
use Rattle.fields.proofs.Matching.{both}
use Rattle.encode.specs.Encoding.{parcels_of}
use Rattle.bounds.specs.Tables.{lookup, at}
use Rattle.bounds.specs.Bounds.{fields, is_compute}
use Rattle.rows.specs.Fields.{instruction_of}
use Rattle.faithful.proofs.Lines.{Inside, by-compute}
use Rattle.known.specs.Front.{EncodesTo}
use Rattle.known.specs.Twins.{Twin, load, push, compute}
use Rattle.known.specs.Table.{line}
use Rattle.back.proofs.Alike.{Alike, load-alike, push-alike, AlikeKind, each-alike}
use Rattle.back.proofs.Shapes.{Shaped, shaped-plain, shaped-compute, shaped_dual, shaped-memory, shaped}

-- "The reader gives the row with the larger kind"
unfoldable pub larger_row : List ℕ → List ℕ
larger_row row =
    cond (is_compute (at row 0)) (32 ∷ 1 ∷ take 15 row)
    (lookup (at row 0) ((9, 17 ∷ drop 1 row) ∷ (30, line 35 7 7 (at row 1)) ∷ []) row)

-- the kinds that have a twin of larger kind
abbrev pub lower : ℕ → Bool
lower k = is_compute k || (eqb k 9 || eqb k 30)

pub not_lower : (row : List ℕ) → lower (at row 0) ≡ false → larger_row row ≡ row
unfolding larger_row
not_lower row low = go (is_compute (at row 0)) (eqb (at row 0) 9) (eqb (at row 0) 30) refl refl refl low
  where
    go : (s t u : Bool) → is_compute (at row 0) ≡ s → eqb (at row 0) 9 ≡ t → eqb (at row 0) 30 ≡ u → (s || (t || u)) ≡ false → larger_row row ≡ row
    go true t u x y z w = let o : ◌≡◌ {A = ℕ} 0 1 = cc in absurd (omega arith)
    go false true u x y z w = let o : ◌≡◌ {A = ℕ} 0 1 = cc in absurd (omega arith)
    go false false true x y z w = let o : ◌≡◌ {A = ℕ} 0 1 = cc in absurd (omega arith)
    go false false false x y z w = rw (x, y, z)

-- no row of larger kind has one
pub largest : (row : List ℕ) → lower (at (larger_row row) 0) ≡ false
unfolding larger_row
largest row = go (is_compute (at row 0)) (eqb (at row 0) 9) (eqb (at row 0) 30) refl refl refl
  where
    go : (s t u : Bool) → is_compute (at row 0) ≡ s → eqb (at row 0) 9 ≡ t → eqb (at row 0) 30 ≡ u → lower (at (larger_row row) 0) ≡ false
    go true t u x y z = rw x
    go false true u x y z = rw (x, y)
    go false false true x y z = rw (x, y, z)
    go false false false x y z = let low : lower (at row 0) ≡ false = rw (x, y, z) in ap (λ (l : List ℕ). lower (at l 0)) (not_lower row low) ∙ low

-- ---- the row of larger kind of a row of three fields, where it is another
record Above (k a b c : ℕ) : Type 0 where
  reads-alike : Alike (larger_row (line k a b c)) (instruction_of k a b c)
  is-twin : Twin (line k a b c) (larger_row (line k a b c))
  long : length (larger_row (line k a b c)) ≡ 17

load-above : (a b c : ℕ) → Inside 9 a b c → Above 9 a b c
unfolding larger_row fields
load-above a b c h =
    let z : 0 ≡ c = omega arith in
    record { reads-alike = load-alike a b c h; is-twin = subst (λ (n : ℕ). Twin (line 9 a b n) (line 17 a b n)) z (load a b); long = refl }

push-above : (a b c : ℕ) → Inside 30 a b c → Above 30 a b c
unfolding larger_row fields
push-above a b c h =
    let y : 0 ≡ b = omega arith in
    let z : 0 ≡ c = omega arith in
    record { reads-alike = push-alike a b c h; is-twin = subst (λ (n : ℕ). Twin (line 30 a n c) (line 35 7 7 a)) y (subst (λ (n : ℕ). Twin (line 30 a 0 n) (line 35 7 7 a)) z (push a)); long = refl }

compute-above : (k a b c : ℕ) → is_compute k ≡ true → Inside k a b c → Above k a b c
unfolding larger_row
compute-above k a b c e h = record { reads-alike = rw e (by-compute AlikeKind each-alike k e a b c h); is-twin = rw e (compute k a b c e); long = rw e }

above : (k a b c : ℕ) → Inside k a b c → (larger_row (line k a b c) ≡ line k a b c) ⊎ Above k a b c
above k a b c h = go (is_compute k) (eqb k 9) (eqb k 30) refl refl refl
  where
    at_nine : k ≡ 9 → Above k a b c
    at_nine e = rw e (load-above a b c (rw e at h))

    at_thirty : k ≡ 30 → Above k a b c
    at_thirty e = rw e (push-above a b c (rw e at h))

    go : (s t u : Bool) → is_compute k ≡ s → eqb k 9 ≡ t → eqb k 30 ≡ u → (larger_row (line k a b c) ≡ line k a b c) ⊎ Above k a b c
    go true t u x y z = inr (compute-above k a b c x h)
    go false true u x y z = inr (at_nine (eqb-true k 9 y))
    go false false true x y z = inr (at_thirty (eqb-true k 30 z))
    go false false false x y z = inl (not_lower (line k a b c) (rw (x, y, z)))

-- ---- THE THEOREMS of the row of larger kind
-- it is the row itself, or its twin, which encodes to the same parcels
record Upper (parcels row : List ℕ) : Type 0 where
  encodes : EncodesTo parcels (larger_row row)
  twin : (larger_row row ≡ row) ⊎ Twin row (larger_row row)

itself : (parcels row : List ℕ) → EncodesTo parcels row → larger_row row ≡ row → Upper parcels row
itself parcels row e s = record { encodes = subst (EncodesTo parcels) (sym s) e; twin = inl s }

upper-line :
    (parcels : List ℕ) (k a b c : ℕ) → EncodesTo parcels (line k a b c) → parcels_of (instruction_of k a b c) ≡ parcels →
    (larger_row (line k a b c) ≡ line k a b c) ⊎ Above k a b c → Upper parcels (line k a b c)
upper-line parcels k a b c e p (inl s) = itself parcels (line k a b c) e s
upper-line parcels k a b c e p (inr u) =
    let x = u.reads-alike in
    record {
      encodes = record { whole = u.long; instruction = x.twin; reads = x.reads; good = x.good; same = x.same ∙ p };
      twin = inr u.is-twin;
    }

upper : (parcels row : List ℕ) → EncodesTo parcels row → Upper parcels row
upper parcels row e = go (shaped row e.instruction e.whole e.reads)
  where
    go : Shaped row e.instruction → Upper parcels row
    go (shaped-plain k a b c q n i v) =
        subst (Upper parcels) (sym q) (upper-line parcels k a b c (subst (EncodesTo parcels) q e) (ap parcels_of (sym v) ∙ e.same) (above k a b c i))
    go (shaped-compute a b c d e' f g h m q z w o v) = itself parcels row e (not_lower row (rw q))
    go (shaped_dual a b c d e' f g h p q' r s t u x y o q w z i v) = itself parcels row e (not_lower row (rw q))
    go (shaped-memory a b c d e' f g h p q' r s t o q w z i v) = itself parcels row e (not_lower row (rw q))

twin-kind : (r s : List ℕ) → Twin r s → at r 0 < at s 0
twin-kind r s (load a b) = omega arith
twin-kind r s (push a) = omega arith
twin-kind r s (compute k a b c e) = small (leb k 8) refl e
  where
    small : (t : Bool) → leb k 8 ≡ t → (t || (leb 25 k && leb k 27)) ≡ true → k < 32
    small true l e = let h = leb-true k 8 l in omega arith
    small false l e = let h = leb-true k 27 (both (leb 25 k) (leb k 27) e).1 in omega arith

pub larger_encodes : (parcels row : List ℕ) → EncodesTo parcels row → EncodesTo parcels (larger_row row)
larger_encodes parcels row e = (upper parcels row e).encodes

pub larger_twin : (parcels row : List ℕ) → EncodesTo parcels row → (larger_row row ≡ row) ⊎ Twin row (larger_row row)
larger_twin parcels row e = (upper parcels row e).twin

pub larger_kind : (parcels row : List ℕ) → EncodesTo parcels row → at row 0 ≤ at (larger_row row) 0
larger_kind parcels row e = go (larger_twin parcels row e)
  where
    go : (larger_row row ≡ row) ⊎ Twin row (larger_row row) → at row 0 ≤ at (larger_row row) 0
    go (inl s) = rw s (omega arith)
    go (inr t) = let h = twin-kind row (larger_row row) t in omega arith

pub larger_same : (parcels row : List ℕ) → EncodesTo parcels row → at (larger_row row) 0 ≤ at row 0 → larger_row row ≡ row
larger_same parcels row e l = go (larger_twin parcels row e)
  where
    go : (larger_row row ≡ row) ⊎ Twin row (larger_row row) → larger_row row ≡ row
    go (inl s) = s
    go (inr t) = let h = twin-kind row (larger_row row) t in absurd (omega arith)

-- no leaf return is of larger kind; a row has one twin of smaller kind
other_kinds : (m n : ℕ) (x y : List ℕ) → m ∷ x ≡ n ∷ y → m ≡ n
other_kinds m n x y e = cc

no-leaf : (r s : List ℕ) → Twin r s → s ≡ line 31 0 0 0 → ⊥
no-leaf r s (load a b) e = let z = other_kinds 17 31 _ _ e in omega arith
no-leaf r s (push a) e = let z = other_kinds 35 31 _ _ e in omega arith
no-leaf r s (compute k a b c i) e = let z = other_kinds 32 31 _ _ e in omega arith

pub larger_leaf : (parcels row : List ℕ) → EncodesTo parcels row → larger_row row ≡ line 31 0 0 0 → row ≡ line 31 0 0 0
larger_leaf parcels row e l = go (larger_twin parcels row e)
  where
    go : (larger_row row ≡ row) ⊎ Twin row (larger_row row) → row ≡ line 31 0 0 0
    go (inl s) = sym s ∙ l
    go (inr t) = absurd (no-leaf row (larger_row row) t l)

one_below : (r s t u : List ℕ) → Twin r t → Twin s u → t ≡ u → r ≡ s
one_below r s t u (load a b) (load c d) e = cc
one_below r s t u (load a b) (push c) e = let z = other_kinds 17 35 _ _ e in absurd (omega arith)
one_below r s t u (load a b) (compute k c d f i) e = let z = other_kinds 17 32 _ _ e in absurd (omega arith)
one_below r s t u (push a) (load c d) e = let z = other_kinds 35 17 _ _ e in absurd (omega arith)
one_below r s t u (push a) (push b) e = cc
one_below r s t u (push a) (compute k c d f i) e = let z = other_kinds 35 32 _ _ e in absurd (omega arith)
one_below r s t u (compute k a b c i) (load d f) e = let z = other_kinds 32 17 _ _ e in absurd (omega arith)
one_below r s t u (compute k a b c i) (push d) e = let z = other_kinds 32 35 _ _ e in absurd (omega arith)
one_below r s t u (compute k a b c i) (compute l d f g j) e = cc

pub two-lower : (r s t : List ℕ) → Twin r t → Twin s t → r ≡ s
two-lower r s t x y = one_below r s t t x y refl
