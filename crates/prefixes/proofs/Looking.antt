-- The latest, the newest and the earliest index that passes a test: what is found passes it, and none beyond it does.
use Prim.Native.Nat.{ℕ, zero, suc, ◌≤◌, ◌<◌}
use native.Mathlib.Omega.{arith}
use native.Mathlib.Nat.{eq-or-lt_of_le}
use mathlib.Core.Path.{◌≡◌, refl, sym, ap, ◌∙◌, subst}
use mathlib.Core.Logic.{◌⊎◌, inl, inr, ⊎_elim}
use mathlib.Core.Bool.{Bool, true, false, cond}
use Rattle.refusals.specs.declared.Refusal.{Refusal}
use Rattle.std.specs.Prelude.{Ok}
use Rattle.refusals.proofs.Order.{refused-good, below_suc}
use Rattle.places.specs.Looking.{latest, Found, at, nothing, is_found, newest, earliest}
use Rattle.places.specs.Verdict.{when_found}
use Rattle.prefixes.proofs.Tests.{true_false, not_so, order}

pub pick_true : {A : Type 0} (t : Bool) (a b : A) → t ≡ true → cond t a b ≡ a
pick_true t a b e = rw e

pub pick_false : {A : Type 0} (t : Bool) (a b : A) → t ≡ false → cond t a b ≡ b
pick_false t a b e = rw e

pub at-nothing : (q : ℕ) → at q ≡ nothing → ⊥
at-nothing q e = let z : ◌≡◌ {A = ℕ} 0 1 = cc in omega arith

pub not_found : (f : Found) → is_found f ≡ false → f ≡ nothing
not_found (at q) e = absurd (true_false refl e)
not_found nothing e = refl

-- none before i passes the test
abbrev pub None : (ℕ → Bool) → ℕ → Type 0
None t i = (q : ℕ) → q < i → t q ≡ false

-- ---- the last that passes
pub record LatestRow (t : ℕ → Bool) (i : ℕ) : Type 0 where
  pub row : ℕ
  pub before : row < i
  pub holds : t row ≡ true
  pub after : (q : ℕ) → row < q → q < i → t q ≡ false

pub latest-row : (t : ℕ → Bool) (i : ℕ) → None t i ⊎ LatestRow t i
latest-row t zero = inl (λ q h. absurd (omega arith))
latest-row t (suc i) = go (latest-row t i) (t i) refl
  where
    go : None t i ⊎ LatestRow t i → (b : Bool) → t i ≡ b → None t (suc i) ⊎ LatestRow t (suc i)
    go r true e = inr (record { row = i; before = omega arith; holds = e; after = λ q u v. absurd (omega arith) })
    go r false e =
        ⊎_elim (λ n. inl (below_suc (λ k. t k ≡ false) i n e))
        (λ n.
        inr
        (record {
          row = n.row;
          before = omega (arith, n.before);
          holds = n.holds;
          after = λ q u v. below_suc (λ k. n.row < k → t k ≡ false) i (λ k x y. n.after k y x) (λ x. e) q v u;
        }))
        r

pub not_after : {t : ℕ → Bool} {i : ℕ} (r : LatestRow t i) (q : ℕ) → q < i → t q ≡ true → q ≤ r.row
not_after r q h e = ⊎_elim (λ l. absurd (true_false e (r.after q l h))) (λ l. l) (order r.row q)

-- a walk that takes f of each index that passes the test ends with f of the last one
module _ {A : Type 0} (t : ℕ → Bool) (f walk : ℕ → A) (step : (i : ℕ) → walk (suc i) ≡ cond (t i) (f i) (walk i)) where
  walk_none : (i : ℕ) → None t i → walk i ≡ walk 0
  walk_none zero n = refl
  walk_none (suc i) n = step i ∙ pick_false (t i) (f i) (walk i) (n i (omega arith)) ∙ walk_none i (λ q h. n q (omega arith))

  walk_is : (i : ℕ) (r : LatestRow t i) → walk i ≡ f r.row
  walk_is zero r = absurd (let h = r.before in omega arith)
  walk_is (suc i) r =
      ⊎_elim
      (λ z. subst (λ (y : ℕ). walk (suc y) ≡ f r.row) z (step r.row ∙ pick_true (t r.row) (f r.row) (walk r.row) r.holds))
      (λ l.
      step i ∙ pick_false (t i) (f i) (walk i) (r.after i l (omega arith))
      ∙ walk_is i (record { row = r.row; before = l; holds = r.holds; after = λ q u v. r.after q u (omega arith) }))
      (eq-or-lt_of_le (let w : r.row ≤ i = let h = r.before in omega arith in w))

pub latest-none : (t : ℕ → Bool) (f : ℕ → ℕ) (i : ℕ) → None t i → latest t f 0 i ≡ 0
latest-none t f = walk_none t f (latest t f 0) (λ i. refl)

pub latest-is : (t : ℕ → Bool) (f : ℕ → ℕ) (i : ℕ) (r : LatestRow t i) → latest t f 0 i ≡ f r.row
latest-is t f = walk_is t f (latest t f 0) (λ i. refl)

pub newest-none : (t : ℕ → Bool) (i : ℕ) → None t i → newest t i ≡ nothing
newest-none t = walk_none t at (newest t) (λ i. refl)

pub newest-is : (t : ℕ → Bool) (i : ℕ) (r : LatestRow t i) → newest t i ≡ at r.row
newest-is t = walk_is t at (newest t) (λ i. refl)

-- ---- the first that passes
pub record EarliestRow (t : ℕ → Bool) (n q : ℕ) : Type 0 where
  pub before : q < n
  pub holds : t q ≡ true
  pub earlier : None t q

-- none passes and none is found, or the first that passes is found
abbrev pub Sought : (ℕ → Bool) → ℕ → Type 0
Sought t n = (None t n × (earliest t n ≡ nothing)) ⊎ ((q : ℕ) × EarliestRow t n q × (earliest t n ≡ at q))

pub earliest-row : (t : ℕ → Bool) (n : ℕ) → Sought t n
earliest-row t zero = inl ((λ q h. absurd (omega arith)), refl)
earliest-row t (suc n) = go (earliest-row t n) (t n) refl
  where
    go : Sought t n → (b : Bool) → t n ≡ b → Sought t (suc n)
    go (inl f) true e = inr (n, record { before = omega arith; holds = e; earlier = f.0 }, rw (f.1, e))
    go (inl f) false e = inl (below_suc (λ k. t k ≡ false) n f.0 e, rw (f.1, e))
    go (inr f) b e =
        let r = f.1 in
        inr (f.0, record { before = omega (arith, r.before); holds = r.holds; earlier = r.earlier }, rw f.2)

-- ---- the last and the first: one is found where the other is, and they are the same where no two pass
-- before one that passes none does
abbrev pub Once : (ℕ → Bool) → ℕ → Type 0
Once t n = (q : ℕ) → q < n → t q ≡ true → None t q

module _ (t : ℕ → Bool) (n : ℕ) where
  pub newest-found : is_found (newest t n) ≡ is_found (earliest t n)
  newest-found =
      ⊎_elim (λ x. ap is_found (newest-none t n x.0 ∙ sym x.1))
      (λ x. ⊎_elim (λ none. absurd (true_false x.1.holds (none x.0 x.1.before))) (λ m. ap is_found (newest-is t n m) ∙ sym (ap is_found x.2)) (latest-row t n))
      (earliest-row t n)

  pub newest-earliest : Once t n → newest t n ≡ earliest t n
  newest-earliest once =
      ⊎_elim (λ x. newest-none t n x.0 ∙ sym x.1)
      (λ x.
      let r = x.1 in
      newest-is t n (record { row = x.0; before = r.before; holds = r.holds; after = λ q u v. not_so (t q) (λ e. true_false r.holds (once q v e x.0 u)) })
      ∙ sym x.2)
      (earliest-row t n)

-- a refusal for what is found: none is found
module _ (t : ℕ → Bool) (i : ℕ) (r : ℕ → Refusal) where
  pub found-good : when_found (newest t i) r ≡ Ok tt → None t i
  found-good e =
      ⊎_elim (λ n. n) (λ m. absurd (refused-good _ (sym (ap (λ (f : Found). when_found f r) (newest-is t i m)) ∙ e))) (latest-row t i)

  pub good-found : ((k : ℕ) → k < i → t k ≡ true → ⊥) → when_found (newest t i) r ≡ Ok tt
  good-found h = ap (λ (f : Found). when_found f r) (newest-none t i (λ q l. not_so _ (h q l)))
