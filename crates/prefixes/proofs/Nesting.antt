-- Which loops are open: at each level below the nesting stands one start, and a start is closed where the nesting falls to its own level.
use Prim.Native.Nat.{ℕ, zero, suc, ◌+◌, ◌-◌, ◌≤◌, ◌<◌}
use native.Mathlib.Omega.{arith}
use native.Mathlib.Nat.{eq-or-lt_of_le}
use mathlib.Core.Path.{◌≡◌, refl, sym, subst}
use mathlib.Core.Logic.{◌⊎◌, inl, inr, ⊎_elim}
use mathlib.Core.Bool.{true, ◌&&◌}
use lib.Dec.{eqb}
use borrow.Author.Tests.{eq-eqb, ne_eqb, eqb-true}
use Rattle.coded.specs.Coded.{Coded}
use Rattle.places.specs.Items.{about, nest}
use Rattle.places.specs.Looking.{at, opener, deepest, closer}
use Rattle.prefixes.proofs.Tests.{order, not_so, and_both, and_second}
use Rattle.prefixes.proofs.Looking.{latest-is, newest-is}
use Rattle.prefixes.proofs.Traits.{one_way}

module _ (it : ℕ → Coded) where
  -- the loop start b is open before i
  pub record OpenAt (b i : ℕ) : Type 0 where
    pub opens : (about (it b)).opens ≡ 1
    pub before : b < i
    pub deep : (k : ℕ) → b < k → k ≤ i → nest it b < nest it k

  pub nest-opens : (b : ℕ) → (about (it b)).opens ≡ 1 → nest it (suc b) ≡ nest it b + 1
  nest-opens b e = let w = one_way (it b) in omega arith

  pub nest-closes : (e : ℕ) → (about (it e)).closes ≡ 1 → nest it (suc e) ≡ nest it e - 1
  nest-closes e c = let w = one_way (it e) in omega arith

  pub open_now : (b : ℕ) → (about (it b)).opens ≡ 1 → OpenAt b (suc b)
  open_now b e =
      record {
        opens = e;
        before = omega arith;
        deep = λ k u v. let w : k ≡ suc b = omega arith in subst (λ (x : ℕ). nest it b < nest it x) (sym w) (let y = nest-opens b e in omega arith);
      }

  pub still_open : {b i : ℕ} → OpenAt b i → nest it b < nest it (suc i) → OpenAt b (suc i)
  still_open {b} {i} o h =
      record {
        opens = o.opens;
        before = omega (arith, o.before);
        deep = λ k p q. ⊎_elim (λ e. subst (λ (x : ℕ). nest it b < nest it x) (sym e) h) (λ l. o.deep k p (omega arith)) (eq-or-lt_of_le q);
      }

  -- ---- at every level below the nesting stands an open loop
  pub record AtLevel (i t : ℕ) : Type 0 where
    pub row : ℕ
    pub open_at : OpenAt row i
    pub level : nest it row ≡ t

  pub at_level : (i t : ℕ) → t < nest it i → AtLevel i t
  at_level zero t h = absurd (omega arith)
  at_level (suc i) t h =
      ⊎_elim
      (λ l. let r = at_level i t l in record { row = r.row; open_at = still_open r.open_at (let e = r.level in omega arith); level = r.level })
      (λ l.
      let w = one_way (it i) in
      let o : (about (it i)).opens ≡ 1 = omega arith in
      record { row = i; open_at = open_now i o; level = omega arith })
      (order t (nest it i))

  -- ---- where a loop is closed
  pub record Closing (b n : ℕ) : Type 0 where
    pub row : ℕ
    pub before : row < n
    pub closes : (about (it row)).closes ≡ 1
    pub level : nest it row ≡ nest it b + 1
    pub open_at : OpenAt b row

  open_or_closed : (b : ℕ) → (about (it b)).opens ≡ 1 → (n : ℕ) → b < n → OpenAt b n ⊎ Closing b n
  open_or_closed b o zero h = absurd (omega arith)
  open_or_closed b o (suc n) h =
      ⊎_elim (λ e. inl (subst (λ (x : ℕ). OpenAt b (suc x)) e (open_now b o)))
      (λ l.
      ⊎_elim
      (λ p.
      ⊎_elim (λ d. inl (still_open p d))
      (λ d.
      let w = one_way (it n) in
      let u = p.deep n l (omega arith) in
      inr (record { row = n; before = omega arith; closes = omega arith; level = omega arith; open_at = p }))
      (order (nest it b) (nest it (suc n))))
      (λ c. inr (record { row = c.row; before = omega (arith, c.before); closes = c.closes; level = c.level; open_at = c.open_at }))
      (open_or_closed b o n l))
      (eq-or-lt_of_le (let w : b ≤ n = omega arith in w))

  pub closing : (b n : ℕ) → (about (it b)).opens ≡ 1 → b < n → nest it n ≤ nest it b → Closing b n
  closing b n o h d = ⊎_elim (λ p. absurd (let u = p.deep n h (omega arith) in omega arith)) (λ c. c) (open_or_closed b o n h)

  -- a loop that is open before i ends at i or after
  pub not_before : {b i e : ℕ} → OpenAt b i → (about (it e)).closes ≡ 1 → nest it e ≡ nest it b + 1 → b < e → i ≤ e
  not_before {b} {i} {e} o c l h =
      ⊎_elim (λ u. absurd (let v = o.deep (suc e) (omega arith) u in let w = nest-closes e c in omega arith)) (λ u. u) (order e i)

  -- ---- the innermost
  pub opener-is : (b i : ℕ) → OpenAt b i → nest it i ≡ nest it b + 1 → opener it i ≡ b
  opener-is b i o e =
      latest-is (λ k. eqb (about (it k)).opens 1 && eqb (nest it k + 1) (nest it i)) (λ k. k) i
      (record {
        row = b;
        before = o.before;
        holds = rw (o.opens, eq-eqb (nest it b + 1) (nest it i) (sym e)) refl;
        after = λ q u v. and_second (eqb (about (it q)).opens 1) _ (ne_eqb _ _ (λ (z : nest it q + 1 ≡ nest it i). let w = o.deep q u (omega arith) in omega arith));
      })

  -- the innermost loop that is open before i
  pub record Innermost (i b : ℕ) : Type 0 where
    pub open_at : OpenAt b i
    pub level : nest it i ≡ nest it b + 1

  pub innermost : (i : ℕ) → 0 < nest it i → Innermost i (opener it i)
  innermost i h =
      let a = at_level i (nest it i - 1) (omega arith) in
      let l = a.level in
      let e : nest it i ≡ nest it a.row + 1 = omega arith in
      rw (opener-is a.row i a.open_at e) (record { open_at = a.open_at; level = e })

  -- where each end closes a loop, the end of a loop is what looks so
  pub closer-is : (n b e : ℕ) → ((q : ℕ) → q < n → (about (it q)).closes ≡ 1 → 0 < nest it q)
      → e < n → (about (it e)).closes ≡ 1 → OpenAt b e → nest it e ≡ nest it b + 1 → closer it n b ≡ at e
  closer-is n b e matched h c o l =
      newest-is (λ q. eqb (about (it q)).closes 1 && eqb (opener it q) b) n
      (record {
        row = e;
        before = h;
        holds = rw (c, opener-is b e o l) (eq-eqb b b refl);
        after = λ q u v. not_so _ (λ t. later q u v (and_both _ _ t));
      })
    where
      later : (q : ℕ) → e < q → q < n → (eqb (about (it q)).closes 1 ≡ true) × (eqb (opener it q) b ≡ true) → ⊥
      later q u v t =
          let m = innermost q (matched q v (eqb-true _ _ t.0)) in
          let p : OpenAt b q = subst (λ (x : ℕ). OpenAt x q) (eqb-true _ _ t.1) m.open_at in
          let w = not_before p c l o.before in
          omega arith

  -- ---- the deepest nesting
  pub nest-deepest : (i : ℕ) → nest it i ≤ deepest it i
  nest-deepest zero = omega arith
  nest-deepest (suc i) = omega arith
