-- Where the items of two lists count alike, the same loops are open before each, the same rows are in tails, and loops pair in both or in neither.
use Prim.Native.Nat.{ℕ, zero, suc, ◌+◌, ◌-◌}
use mathlib.Core.Path.{◌≡◌, refl, sym, ap, ◌∙◌, subst}
use mathlib.Core.Bool.{◌&&◌, not}
use lib.Dec.{ltb, leb, eqb}
use Rattle.coded.specs.Coded.{Coded}
use Rattle.places.specs.Items.{Kernel, about, is_entry, entries, nest}
use Rattle.places.specs.Looking.{latest, is_found, newest, opener}
use Rattle.rules.specs.Rules.{Pair}
use Rattle.rules.proofs.Pairs.{pair_of, pair_open}
use Rattle.widening.specs.Widening.{pairs, tailed}

-- each item is an instruction entry, a loop start and a loop end in both lists or in neither
pub record Alike (it jt : ℕ → Coded) : Type 0 where
  pub entry : (i : ℕ) → is_entry (it i) ≡ is_entry (jt i)
  pub opens : (i : ℕ) → (about (it i)).opens ≡ (about (jt i)).opens
  pub closes : (i : ℕ) → (about (it i)).closes ≡ (about (jt i)).closes

pub alike-back : {it jt : ℕ → Coded} → Alike it jt → Alike jt it
alike-back a = record { entry = λ i. sym (a.entry i); opens = λ i. sym (a.opens i); closes = λ i. sym (a.closes i) }

module _ (it jt : ℕ → Coded) (a : Alike it jt) where
  pub entries-alike : (i : ℕ) → entries it i ≡ entries jt i
  entries-alike zero = refl
  entries-alike (suc i) = λ j. entries-alike i j + a.entry i j

  pub nest-alike : (i : ℕ) → nest it i ≡ nest jt i
  nest-alike zero = refl
  nest-alike (suc i) = λ j. nest-alike i j + a.opens i j - a.closes i j

  opener-alike : (i : ℕ) → opener it i ≡ opener jt i
  opener-alike i = λ j. latest (λ k. eqb (a.opens k j) 1 && eqb (nest-alike k j + 1) (nest-alike i j)) (λ k. k) 0 i

module _ (k l : Kernel) (a : Alike k.it l.it) (n : k.n ≡ l.n) where
  pub pairs-alike : pairs k ≡ pairs l
  pairs-alike = λ j.
      not (is_found (newest (λ e. eqb (a.closes e j) 1 && eqb (nest-alike k.it l.it a e j) 0) (n j)))
      && eqb (subst (λ (m : ℕ). nest k.it k.n ≡ nest l.it m) n (nest-alike k.it l.it a k.n) j) 0

  pub tailed-alike : (i : ℕ) → tailed k i ≡ tailed l i
  tailed-alike i = λ j.
      is_found
      (newest
      (λ e.
      eqb (a.closes e j) 1
      && (ltb i e
      && (ltb (opener-alike k.it l.it a e j) i && leb (entries-alike k.it l.it a e j) (entries-alike k.it l.it a i j + 11))))
      (n j))

  -- and the same brackets are a pair
  pub pair-alike : (b e : ℕ) → Pair k b e → Pair l b e
  pair-alike b e p =
      let N = nest-alike k.it l.it a in
      let o = pair_open k p in
      pair_of l b e (rw (sym n) p.before_end) (sym (a.closes e) ∙ ap (λ (x : Coded). (about x).closes) p.closes)
      (sym (N e) ∙ p.level ∙ ap (λ (m : ℕ). m + 1) (N b))
      (record {
        opens = sym (a.opens b) ∙ o.opens;
        before = o.before;
        deep = λ q u v. rw (sym (N b), sym (N q)) (o.deep q u v);
      })
