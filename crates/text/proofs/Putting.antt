-- Texts put one after the other: what stands in front grows by each.
use mathlib.Core.Path.{◌≡◌, refl, sym, ap, ◌∙◌}
use mathlib.Core.List.{List, [], ◌∷◌, ◌++◌, append-nil, append_assoc}
use Prim.Native.Nat.{ℕ, ◌+◌, ◌*◌, ◌≤◌, ◌<◌}
use native.Mathlib.Omega.{arith}
use native.Mathlib.Numerals.{add-one}
use native.Mathlib.Nat.{add-zero, mul-zero, mul-suc}
use lib.ListN.{length, get_or, take, length-append}
use lib.Seq.{take-suc, take_all, length-take-le}
use denote.Ref.{MutBor, at_last}
use Rattle.text.specs.declared.Text.{Text}
use Rattle.text.specs.Text.{parcel_line, each, Puts, Shows}

pub puts_none : (t : Text) → Puts t [] t
puts_none t = record { after = sym (add-zero t.at); front = sym (append-nil (take t.at t.out.now)); long = refl; same = refl }

pub puts_then : {t u v : Text} {a b : List ℕ} → Puts t a u → Puts u b v → Puts t (a ++ b) v
puts_then {t} {u} {v} {a} {b} p q =
    record {
      after = omega (arith, p.after, q.after, length-append a b);
      front = q.front ∙ ap (λ (l : List ℕ). l ++ b) p.front ∙ append_assoc (take t.at t.out.now) a b;
      long = q.long ∙ p.long;
      same = q.same ∙ ap (λ (x : MutBor (List ℕ)). at_last x v.out.now) p.same;
    }

-- at the front of a buffer nothing stands before it
pub shows : {t u : Text} {text : List ℕ} → Puts t text u → t.at ≡ 0 → length text ≤ 15384 → Shows text u.out.now u.at
shows {t} p z h = record { front = p.front ∙ (rw z); within = omega (arith, p.after) }

-- ---- a loop that puts the text of each
each_append : (text : ℕ → List ℕ) (xs ys : List ℕ) → each text (xs ++ ys) ≡ each text xs ++ each text ys
each_append text [] ys = refl
each_append text (x ∷ xs) ys = ap (λ (l : List ℕ). text x ++ l) (each_append text xs ys) ∙ sym (append_assoc (text x) (each text xs) (each text ys))

pub each_long : (text : ℕ → List ℕ) (k : ℕ) → ((x : ℕ) → length (text x) ≡ k) → (xs : List ℕ) → length (each text xs) ≡ k * length xs
each_long text k h [] = sym (mul-zero k)
each_long text k h (x ∷ xs) = length-append (text x) (each text xs) ∙ rw (h x, each_long text k h xs, mul-suc) (omega arith)

-- the texts of the first i
pub record Putting (text : ℕ → List ℕ) (t : Text) (xs : List ℕ) (i : ℕ) (u : Text) : Type 0 where
  pub within : i ≤ length xs
  pub here : Puts t (each text (take i xs)) u

module _ (text : ℕ → List ℕ) (t : Text) (xs : List ℕ) where
  pub putting_start : Putting text t xs 0 t
  putting_start = record { within = omega arith; here = puts_none t }

  pub putting_next : (i : ℕ) {u : Text} → Putting text t xs i u → i < length xs → {v : Text} → Puts u (text (get_or xs i 0)) v → Putting text t xs (i + 1) v
  putting_next i g h p =
      record {
        within = omega arith;
        here = rw (add-one, take-suc xs i 0 h, each_append, append-nil (text (get_or xs i 0))) (puts_then g.here p);
      }

  pub putting_end : (i : ℕ) {u : Text} → Putting text t xs i u → length xs ≤ i → Puts t (each text xs) u
  putting_end i g h = rw (take_all i xs h) at g.here

  -- texts of one length
  pub putting_place : (k : ℕ) → ((x : ℕ) → length (text x) ≡ k) → (i : ℕ) {u : Text} → Putting text t xs i u → u.at ≡ t.at + k * i
  putting_place k long i g = g.here.after ∙ rw (each_long text k long (take i xs), length-take-le i xs g.within)

pub parcel_long : (p : ℕ) → length (parcel_line p) ≡ 5
unfolding parcel_line
parcel_long p = refl
