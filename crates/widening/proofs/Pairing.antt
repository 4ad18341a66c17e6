-- Going on over the rows, the depth is the nesting, and each end so far closes a loop.
use mathlib.Core.Path.{◌≡◌, refl, ap, ◌∙◌}
use mathlib.Core.Logic.{⊎_elim}
use mathlib.Core.Bool.{Bool, true, false, ◌&&◌}
use Prim.Native.Nat.{ℕ, zero, suc, ◌+◌, ◌-◌, ◌≤◌, ◌<◌}
use native.Mathlib.Omega.{arith}
use native.Mathlib.Numerals.{add-one}
use borrow.Author.Count.{below_more}
use lib.Dec.{eqb}
use borrow.Author.Tests.{eqb-true}
use Rattle.coded.specs.Coded.{Coded}
use Rattle.places.specs.Items.{Kernel, about, is_end, nest}
use Rattle.places.specs.Looking.{is_found, newest}
use Rattle.prefixes.proofs.Tests.{true_false, not_so, and_both}
use Rattle.prefixes.proofs.Looking.{None, latest-row, newest-is, newest-none}
use Rattle.prefixes.proofs.Traits.{one_way}
use Rattle.widening.specs.declared.tails.Counted.{Counted}
use Rattle.widening.specs.Widening.{pairs}
use Rattle.widening.proofs.Marks.{Marked}

-- what passes a test before n is found
pub some-found : (t : ℕ → Bool) (n q : ℕ) → q < n → t q ≡ true → is_found (newest t n) ≡ true
some-found t n q h e = ⊎_elim (λ none. absurd (true_false e (none q h))) (λ m. ap is_found (newest-is t n m)) (latest-row t n)

pub none_found : (t : ℕ → Bool) (n : ℕ) → None t n → is_found (newest t n) ≡ false
none_found t n none = ap is_found (newest-none t n none)

-- an end that closes no loop
abbrev pub stray : (ℕ → Coded) → ℕ → Bool
stray it e = is_end (it e) && eqb (nest it e) 0

pub record Pairing (it : ℕ → Coded) (i depth : ℕ) : Type 0 where
  pub level : depth ≡ nest it i
  pub closed : None (stray it) i

pub pairing_start : (it : ℕ → Coded) → Pairing it 0 0
pairing_start it = record { level = refl; closed = λ q u. absurd (omega arith) }

module _ (k : Kernel) {i depth : ℕ} (p : Pairing k.it i depth) where
  open k use {it, n}

  module _ {m : Counted} (marked : Marked m (it i)) where
    -- the end in row i closes no loop
    pub pairing_stop : i < n → depth < m.closes → false ≡ pairs k
    pairing_stop h c =
        let w = one_way (it i) in
        let s = marked.closes in
        let e : (about (it i)).closes ≡ 1 = omega arith in
        let z : nest it i ≡ 0 = omega (arith, p.level) in
        rw (some-found (stray it) n i h (rw (e, z) refl))

    pub pairing_on : m.closes ≤ depth → Pairing it (i + 1) (depth + m.opens - m.closes)
    pairing_on c =
        record {
          level = rw (add-one i, ← marked.opens, ← marked.closes, ← p.level);
          closed = below_more (λ (q : ℕ). stray it q ≡ false) i p.closed (not_so (stray it i) (λ t. let l = at-end (and_both _ _ t) in omega arith));
        }
      where
        at-end : (is_end (it i) ≡ true) × (eqb (nest it i) 0 ≡ true) → depth < m.closes
        at-end t =
            let e : (about (it i)).closes ≡ 1 = eqb-true _ _ t.0 in
            let z : nest it i ≡ 0 = eqb-true _ _ t.1 in
            let s = marked.closes in
            omega (arith, p.level)

  pub pairing_end : n ≤ i → i ≤ n → eqb depth 0 ≡ pairs k
  pairing_end u v = let e : i ≡ n = omega arith in rw (none_found (stray it) n (rw e at p.closed)) (ap (λ (d : ℕ). eqb d 0) (p.level ∙ ap (nest it) e))

-- where loops pair each end closes a loop
pub pairs-closed : (k : Kernel) → pairs k ≡ true → (e : ℕ) → e < k.n → (about (k.it e)).closes ≡ 1 → 0 < nest k.it e
pairs-closed k h e u c = go (nest k.it e) refl
  where
    go : (d : ℕ) → nest k.it e ≡ d → 0 < d
    go zero z = absurd (true_false h (let f : is_found (newest (stray k.it) k.n) ≡ true = some-found (stray k.it) k.n e u (rw (c, z) refl) in rw f refl))
    go (suc d) z = omega arith
