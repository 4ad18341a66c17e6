-- A pair of brackets is a loop that is open up to its end and closed there.
use Prim.Native.Nat.{ℕ, ◌+◌, ◌≤◌, ◌<◌}
use native.Mathlib.Omega.{arith}
use mathlib.Core.Path.{◌≡◌, sym, ap, ◌∙◌}
use Rattle.coded.specs.Coded.{Coded}
use Rattle.places.specs.Items.{Kernel, about, nest}
use Rattle.places.specs.Looking.{opener}
use Rattle.prefixes.proofs.Traits.{opens_begin, closes-end}
use Rattle.prefixes.proofs.Nesting.{OpenAt, closing, not_before, opener-is, innermost}
use Rattle.rules.specs.Rules.{Pair}

module _ (k : Kernel) where
  open k use {it, n}

  abbrev pub pair_open : {b e : ℕ} → Pair k b e → OpenAt it b e
  pair_open p = record { opens = ap (λ (y : Coded). (about y).opens) p.opens; before = p.order; deep = p.deep }

  pub pair-opener : {b e : ℕ} → Pair k b e → opener it e ≡ b
  pair-opener {b} {e} p = opener-is it b e (pair_open p) p.level

  -- an open loop and an end one level up are a pair
  pub pair_of : (b e : ℕ) → e < n → (about (it e)).closes ≡ 1 → nest it e ≡ nest it b + 1 → OpenAt it b e → Pair k b e
  pair_of b e h c l o =
      let x = opens_begin (it b) o.opens in
      record {
        count = x.0;
        mode = x.1;
        opens = x.2;
        closes = closes-end (it e) c;
        order = o.before;
        before_end = h;
        level = l;
        deep = o.deep;
      }

  -- ---- under rule 3 each start has one end, and each end one start
  pub record PairFrom (b : ℕ) : Type 0 where
    pub end : ℕ
    pub pair : Pair k b end

  pub pair-from : (b : ℕ) → nest it n ≡ 0 → b < n → (about (it b)).opens ≡ 1 → PairFrom b
  pair-from b z h o =
      let c = closing it b n o h (omega arith) in
      record { end = c.row; pair = pair_of b c.row c.before c.closes c.level c.open_at }

  pub pair_to : (e : ℕ) → 0 < nest it e → e < n → (about (it e)).closes ≡ 1 → Pair k (opener it e) e
  pair_to e d h c = let m = innermost it e d in pair_of (opener it e) e h c m.level m.open_at

  pub one-start : (b b' e : ℕ) → Pair k b e → Pair k b' e → b ≡ b'
  one-start b b' e p q = sym (pair-opener p) ∙ pair-opener q

  no-later : {b e e' : ℕ} → Pair k b e → Pair k b e' → e ≤ e'
  no-later p q = not_before it (pair_open p) (ap (λ (y : Coded). (about y).closes) q.closes) q.level q.order

  pub one_end : (b e e' : ℕ) → Pair k b e → Pair k b e' → e ≡ e'
  one_end b e e' p q = let u = no-later p q in let v = no-later q p in omega arith
