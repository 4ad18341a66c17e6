-- What holds of each kind of a table of bounds holds of every row whose fields lie within its kind's bounds.
use Prim.Native.Nat.{ℕ, ◌<◌}
use native.Mathlib.Omega.{arith}
use mathlib.Core.Path.{◌≡◌, refl}
use mathlib.Core.Bool.{Bool, true, false}
use mathlib.Core.List.{List, [], ◌∷◌}
use lib.Dec.{eqb}
use borrow.Author.Tests.{eqb-true, eqb-false}
use Rattle.bounds.specs.Tables.{lookup}
use Rattle.bounds.specs.Bounds.{never, filled, fields, is_compute}
use Rattle.bounds.proofs.Lookups.{NotIn}
use Rattle.bounds.proofs.Twelve.{twelve, no-compute}
use Rattle.rows.specs.Kept.{Below}

abbrev pub Each : {A : Type 0} → (ℕ → Type 0) → List (ℕ × A) → Type 0
Each P [] = Unit
Each P (line ∷ lines) = P line.0 × Each P lines

-- a line, and the others
infixr 4 ◌&◌
abbrev pub ◌&◌ : {A B : Type 0} → A → B → A × B
a & b = (a, b)

-- either the kind has a line, or the table has nothing of it
data Has {A : Type 0} (P : ℕ → Type 0) (lines : List (ℕ × A)) (k : ℕ) (other : A) : Type 0 where
  line : P k → Has P lines k other
  none : lookup k lines other ≡ other → Has P lines k other

has : {A : Type 0} (P : ℕ → Type 0) (lines : List (ℕ × A)) → Each P lines → (k : ℕ) (other : A) → Has P lines k other
has P [] all k other = none refl
has {A} P (l ∷ lines) all k other = go (eqb k l.0) refl (has P lines all.1 k other)
  where
    go : (t : Bool) → eqb k l.0 ≡ t → Has P lines k other → Has P (l ∷ lines) k other
    go true e r = line (rw (eqb-true k l.0 e) all.0)
    go false e (line p) = line p
    go false e (none q) = none (rw e q)

-- the fields of a kind lie within its bounds, and those that it has not are 0
abbrev pub Inside : ℕ → ℕ → ℕ → ℕ → Type 0
Inside kind a b c = Below (filled 3 (lookup kind fields (never ∷ []))) (a ∷ b ∷ c ∷ [])

no_kind : (a b c : ℕ) (l : List ℕ) → l ≡ never ∷ [] → Below (filled 3 l) (a ∷ b ∷ c ∷ []) → ⊥
no_kind a b c l e h = let g : a < 0 = (rw e at h).0 in omega arith

of-kind : (P : ℕ → Type 0) (k a b c : ℕ) → Has P fields k (never ∷ []) → Inside k a b c → P k
of-kind P k a b c (line p) h = p
of-kind P k a b c (none q) h = absurd (no_kind a b c (lookup k fields (never ∷ [])) q h)

pub by_kind : (P : ℕ → Type 0) → Each P fields → (k a b c : ℕ) → Inside k a b c → P k
by_kind P all k a b c h = of-kind P k a b c (has P fields all k (never ∷ [])) h

-- what holds of each of a table's kinds holds of a kind that is not outside the table; so of every single compute, by the twelve
found : {A : Type 0} (P : ℕ → Type 0) (lines : List (ℕ × A)) → Each P lines → (k : ℕ) (told : Type 0) → told → (NotIn k lines told → ⊥) → P k
found P [] all k told t h = absurd (h t)
found P (l ∷ lines) all k told t h =
    go (eqb k l.0) refl (λ n. found P lines all.1 k (told × (k ≡ l.0 → ⊥)) (t, n) h)
  where
    go : (b : Bool) → eqb k l.0 ≡ b → ((k ≡ l.0 → ⊥) → P k) → P k
    go true e rest = rw (eqb-true k l.0 e) all.0
    go false e rest = rest (eqb-false k l.0 e)

pub by-compute : (P : ℕ → Type 0) → Each P twelve → (k : ℕ) → is_compute k ≡ true → P k
by-compute P all k e =
    found P twelve all k (Unit {0}) tt
    (λ r.
    let f = no-compute k r in
    let z : ◌≡◌ {A = ℕ} 0 1 = cc in omega arith)
