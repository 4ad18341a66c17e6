-- How many of the first n indices pass a test: each that passes has its number, and each number below the count has its index.
use Prim.Native.Nat.{ℕ, zero, suc, ◌+◌, ◌*◌, ◌≤◌, ◌<◌}
use native.Mathlib.Omega.{arith}
use mathlib.Core.Path.{◌≡◌, refl, ◌∙◌}
use mathlib.Core.Logic.{⊎_elim}
use mathlib.Core.Bool.{Bool, true, false, cond}
use mathlib.Core.List.{List}
use lib.ListN.{length, length-append}
use Rattle.places.specs.Left.{gather}
use Rattle.prefixes.proofs.Tests.{order}
use Rattle.widening.specs.Widening.{how_many}
use Rattle.widening.proofs.Changing.{how_many_up}

module _ (t : ℕ → Bool) where
  pub count-here : (i : ℕ) → t i ≡ true → how_many t (suc i) ≡ how_many t i + 1
  count-here i e = rw e

  count_not : (i : ℕ) → t i ≡ false → how_many t (suc i) ≡ how_many t i
  count_not i e = rw e (omega arith)

  -- one that passes is counted
  pub count-within : (i n : ℕ) → i < n → t i ≡ true → how_many t i < how_many t n
  count-within i n h e = let a = count-here i e in let b = how_many_up t (suc i) n h in omega arith

  -- none passes
  pub count_none : (n : ℕ) → ((i : ℕ) → i < n → t i ≡ false) → how_many t n ≡ 0
  count_none zero h = refl
  count_none (suc n) h = count_not n (h n (omega arith)) ∙ count_none n (λ i l. h i (omega arith))

  -- the index with the number p
  pub record Nth (p n : ℕ) : Type 0 where
    pub index : ℕ
    pub before : index < n
    pub passes : t index ≡ true
    pub number : how_many t index ≡ p

  pub nth : (p n : ℕ) → p < how_many t n → Nth p n
  nth p zero h = absurd (omega arith)
  nth p (suc n) h =
      ⊎_elim
      (λ l. let r = nth p n l in record { index = r.index; before = omega (arith, r.before); passes = r.passes; number = r.number })
      (λ l. go l (t n) refl)
      (order p (how_many t n))
    where
      go : how_many t n ≤ p → (b : Bool) → t n ≡ b → Nth p (suc n)
      go l true e = let c = count-here n e in record { index = n; before = omega arith; passes = e; number = omega arith }
      go l false e = let c = count_not n e in absurd (omega arith)

  pub nth-order : {p q n : ℕ} → p < q → (a : Nth p n) (b : Nth q n) → a.index < b.index
  nth-order h a b =
      ⊎_elim (λ l. l) (λ l. absurd (let u = how_many_up t b.index a.index l in let v = a.number in let w = b.number in omega arith)) (order a.index b.index)

  -- two numbers for each that passes
  pub pairs-length : (f : ℕ → List ℕ) → ((i : ℕ) → length (f i) ≡ cond (t i) 2 0) → (n : ℕ) → length (gather f n) ≡ how_many t n * 2
  pairs-length f h zero = omega arith
  pairs-length f h (suc n) = go (pairs-length f h n) (t n) refl
    where
      go : length (gather f n) ≡ how_many t n * 2 → (b : Bool) → t n ≡ b → length (gather f (suc n)) ≡ how_many t (suc n) * 2
      go r true e = let c = rw e at (h n) in let d = count-here n e in simp length-append (omega arith)
      go r false e = let c = rw e at (h n) in let d = count_not n e in simp length-append (omega arith)
