-- Tests and orders that a proof goes by.
use Prim.Native.Nat.{ℕ, ◌≤◌, ◌<◌}
use native.Mathlib.Omega.{arith}
use native.Mathlib.Nat.{eq-or-lt_of_le}
use mathlib.Core.Path.{◌≡◌, refl, sym}
use mathlib.Core.Logic.{◌⊎◌, inl, inr, ⊎_elim}
use mathlib.Core.Bool.{Bool, true, false, ◌&&◌}
use lib.Dec.{ltb}
use borrow.Author.Tests.{ltb-true, ltb-false}

pub true_false : {t : Bool} → t ≡ true → t ≡ false → ⊥
true_false p q = let z : ◌≡◌ {A = ℕ} 0 1 = cc in omega arith

pub not_so : (t : Bool) → (t ≡ true → ⊥) → t ≡ false
not_so true h = absurd (h refl)
not_so false h = refl

pub and_both : (s t : Bool) → (s && t) ≡ true → (s ≡ true) × (t ≡ true)
and_both true t e = (refl, e)
and_both false t e = absurd (true_false e refl)

pub and_second : (s t : Bool) → t ≡ false → (s && t) ≡ false
and_second true t e = e
and_second false t e = refl

pub and_first : (s t : Bool) → s ≡ true → (s && t) ≡ false → t ≡ false
and_first s t e f = rw e at f

pub order : (a b : ℕ) → (a < b) ⊎ (b ≤ a)
order a b = go (ltb a b) refl
  where
    go : (t : Bool) → ltb a b ≡ t → (a < b) ⊎ (b ≤ a)
    go true e = inl (ltb-true a b e)
    go false e = inr (ltb-false a b e)

pub same_row : (x y : ℕ) → (x < y → ⊥) → (y < x → ⊥) → x ≡ y
same_row x y f g =
    ⊎_elim (λ l. absurd (f l)) (λ h. ⊎_elim (λ e. sym e) (λ l. absurd (g l)) (eq-or-lt_of_le h)) (order x y)
