-- The numbers of a list in document 01's order are those of its parts: an order tells only what one of its refusals tells.
use mathlib.Core.Path.{◌≡◌, refl, sym, ap, ◌∙◌}
use mathlib.Core.Bool.{Bool, true, false, true≢false, not, ◌&&◌, ◌||◌}
use mathlib.Core.List.{List, [], ◌∷◌}
use Prim.Native.Nat.{ℕ, zero, suc}
use lib.Dec.{eqb}
use borrow.Author.Tests.{eqb-true}
use Rattle.refusals.specs.declared.Refusal.{Refusal}
use Rattle.std.specs.Prelude.{Ok, Err}
use Rattle.refusals.specs.Answers.{Verdict}
use Rattle.refusals.specs.Numbers.{among}
use Rattle.refusals.specs.Order.{when, or_else, first, first_of}
use Rattle.refusals.proofs.Numbered.{checked}

-- ---- what holds of a good verdict, and of each refusal of an order, holds of what the order comes to
module _ (P : Verdict → Type 0) (good : P (Ok tt)) where
  pub holds-when : (b : Bool) (r : Refusal) → P (Err r) → P (when b r)
  holds-when true r h = h
  holds-when false r h = good

  pub holds-or_else : (v w : Verdict) → P v → P w → P (or_else v w)
  holds-or_else (Ok _) w h k = k
  holds-or_else (Err r) w h k = h

  abbrev pub Each : List Verdict → Type 0
  Each [] = Unit {0}
  Each (v ∷ vs) = P v × Each vs

  pub holds-first : (vs : List Verdict) → Each vs → P (first vs)
  holds-first [] h = good
  holds-first (v ∷ vs) h = holds-or_else v (first vs) h.0 (holds-first vs h.1)

  pub holds-first_of : (f : ℕ → Verdict) (n : ℕ) → ((i : ℕ) → P (f i)) → P (first_of f n)
  holds-first_of f zero h = good
  holds-first_of f (suc n) h = holds-or_else (first_of f n) (f n) (holds-first_of f n h) (h n)

-- ---- a verdict is good, or tells one of these numbers
abbrev pub Tells : List ℕ → Verdict → Type 0
Tells ns v = among (0 ∷ ns) (checked v).number ≡ true

module _ (ns : List ℕ) where
  abbrev pub AllTell : List Verdict → Type 0
  AllTell vs = Each (Tells ns) refl vs

  pub tells-when : (b : Bool) (r : Refusal) → Tells ns (Err r) → Tells ns (when b r)
  tells-when b r h = holds-when (Tells ns) refl b r h

  pub tells-or_else : (v w : Verdict) → Tells ns v → Tells ns w → Tells ns (or_else v w)
  tells-or_else v w h k = holds-or_else (Tells ns) refl v w h k

  pub tells_first : (vs : List Verdict) → AllTell vs → Tells ns (first vs)
  tells_first vs h = holds-first (Tells ns) refl vs h

  pub tells-first_of : (f : ℕ → Verdict) (n : ℕ) → ((i : ℕ) → Tells ns (f i)) → Tells ns (first_of f n)
  tells-first_of f n h = holds-first_of (Tells ns) refl f n h

-- ---- a longer list of numbers
either : {P : Type 0} (a b : Bool) → (a ≡ true → P) → (b ≡ true → P) → (a || b) ≡ true → P
either true b f g e = f refl
either false b f g e = g e

-- each of the first is one of the second
abbrev pub part : List ℕ → List ℕ → Bool
part [] ms = true
part (n ∷ ns) ms = among ms n && part ns ms

both : {P : Type 0} (a b : Bool) → (a ≡ true → b ≡ true → P) → (a && b) ≡ true → P
both true b f e = f refl e
both false b f e = absurd (true≢false (sym e))

pub wider : (ns ms : List ℕ) (n : ℕ) → part ns ms ≡ true → among ns n ≡ true → among ms n ≡ true
wider [] ms n p e = absurd (true≢false (sym e))
wider (k ∷ ns) ms n p e =
    both (among ms k) (part ns ms)
    (λ here there. either (eqb n k) (among ns n) (λ q. ap (among ms) (eqb-true n k q) ∙ here) (wider ns ms n there) e) p

pub tells-wider : (ns ms : List ℕ) (v : Verdict) → part (0 ∷ ns) (0 ∷ ms) ≡ true → Tells ns v → Tells ms v
tells-wider ns ms v p h = wider (0 ∷ ns) (0 ∷ ms) (checked v).number p h

-- none of the first is one of the second
abbrev pub none : List ℕ → List ℕ → Bool
none [] ms = true
none (n ∷ ns) ms = not (among ms n) && none ns ms

not_true : (b : Bool) → not b ≡ true → b ≡ false
not_true true e = absurd (true≢false (sym e))
not_true false e = refl

pub other : (ns ms : List ℕ) (n : ℕ) → none ns ms ≡ true → among ns n ≡ true → among ms n ≡ false
other [] ms n p e = absurd (true≢false (sym e))
other (k ∷ ns) ms n p e =
    both (not (among ms k)) (none ns ms)
    (λ here there. either (eqb n k) (among ns n) (λ q. ap (among ms) (eqb-true n k q) ∙ not_true _ here) (other ns ms n there) e) p
