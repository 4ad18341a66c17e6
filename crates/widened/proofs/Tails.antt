-- The definition's tests are the rules' words: loops pair, a row is in a tail, a row gives way.
use Prim.Native.Nat.{ℕ, ◌+◌, ◌<◌}
use native.Mathlib.Omega.{arith}
use mathlib.Core.Path.{◌≡◌, refl, ap}
use mathlib.Core.Logic.{◌↔◌, ⊎_elim}
use mathlib.Core.Bool.{Bool, true, false, ◌&&◌}
use mathlib.Core.List.{List}
use lib.Dec.{ltb}
use borrow.Author.Tests.{lt-ltb, le-leb, eq-eqb, ltb-true, leb-true, eqb-true, not-true}
use Rattle.std.specs.Prelude.{Ok, Err}
use Rattle.refusals.specs.Answers.{Verdict}
use Rattle.refusals.specs.Order.{if_good}
use Rattle.items.specs.declared.Item.TheVariants.{LoopEnd}
use Rattle.coded.specs.Coded.{encodes}
use Rattle.places.specs.Items.{Kernel, kernel_of, row_at, is_end, entries, nest}
use Rattle.places.specs.Looking.{is_found, newest, opener, is_in_tail}
use Rattle.prefixes.proofs.Tests.{true_false, not_so, and_both}
use Rattle.prefixes.proofs.Traits.{closes-end}
use Rattle.prefixes.proofs.Looking.{None, LatestRow, latest-row, newest-none}
use Rattle.rules.proofs.Pairs.{pair_to, pair-opener}
use Rattle.widening.specs.Widening.{pairs, tailed, changes}
use Rattle.widening.proofs.Pairing.{stray, some-found}
use Rattle.widened.specs.Tails.{Paired, InTail, GivesWay}

-- ---- something is found exactly where something passes
module _ (t : ℕ → Bool) (n : ℕ) where
  found-row : is_found (newest t n) ≡ true → LatestRow t n
  found-row e = ⊎_elim (λ none. absurd (true_false e (ap is_found (newest-none t n none)))) (λ r. r) (latest-row t n)

  found_none : is_found (newest t n) ≡ false → None t n
  found_none e q h = not_so (t q) (λ p. true_false (some-found t n q h p) e)

module _ (k : Kernel) where
  open k use {it, n}

  -- ---- loops pair
  end-matched : None (stray it) n → (e : ℕ) → e < n → it e ≡ Ok LoopEnd → 0 < nest it e
  end-matched none e h c =
      let z : nest it e ≡ 0 → ⊥ = λ z. true_false (let w : stray it e ≡ true = rw (c, eq-eqb (nest it e) 0 z) refl in w) (none e h) in
      omega arith

  matched-end : ((e : ℕ) → e < n → it e ≡ Ok LoopEnd → 0 < nest it e) → (e : ℕ) → e < n → stray it e ≡ true → ⊥
  matched-end matched e h c =
      let x = and_both _ _ c in
      let deep = matched e h (closes-end (it e) (eqb-true _ _ x.0)) in
      let none = eqb-true (nest it e) 0 x.1 in
      omega arith

  pub pairs-exactly : (pairs k ≡ true) ↔ Paired k
  pairs-exactly = (
    (λ e.
        let p = and_both _ _ e in
        record { matched = end-matched (found_none (stray it) n (not-true _ p.0)); closed = eqb-true _ _ p.1 }),
    (λ p. rw (newest-none (stray it) n (λ e h. not_so _ (matched-end p.matched e h)), eq-eqb (nest it n) 0 p.closed) refl),
  )

  -- ---- a row is in a tail
  abbrev test : ℕ → ℕ → Bool
  test i e = is_end (it e) && (ltb i e && is_in_tail it e i)

  tail_of : Paired k → (i : ℕ) → tailed k i ≡ true → InTail k i
  tail_of p i e =
      let r = found-row (test i) n e in
      let a = and_both _ _ r.holds in
      let b = and_both _ _ a.1 in
      let c = and_both _ _ b.1 in
      let closes = eqb-true _ _ a.0 in
      record {
        start = opener it r.row;
        end = r.row;
        pair = pair_to k r.row (p.matched r.row r.before (closes-end (it r.row) closes)) r.before closes;
        after = ltb-true _ _ c.0;
        before = ltb-true _ _ b.0;
        near = leb-true _ _ c.1;
      }

  of-tail : (i : ℕ) → InTail k i → tailed k i ≡ true
  of-tail i x =
      let e = x.end in
      some-found (test i) n e x.pair.before_end
      (rw (x.pair.closes, lt-ltb i e x.before, pair-opener k x.pair, lt-ltb x.start i x.after, le-leb (entries it e) (entries it i + 11) x.near) refl)

  pub tailed-exactly : Paired k → (i : ℕ) → (tailed k i ≡ true) ↔ InTail k i
  tailed-exactly p i = (tail_of p i, of-tail i)

-- ---- a row gives way
if-good : (v : Verdict) → if_good v true false ≡ true → v ≡ Ok tt
if-good (Ok _) e = refl
if-good (Err w) e = absurd (true_false e refl)

pub changes-exactly : (rows names : List ℕ) (i : ℕ) → (changes rows names i ≡ true) ↔ GivesWay rows names i
changes-exactly rows names i = (
  (λ c.
      let p = and_both _ _ c in
      let h = and_both _ _ p.1 in
      let e = and_both _ _ h.1 in
      let paired = (pairs-exactly (kernel_of rows names)).0 p.0 in
      record {
        paired = paired;
        in_tail = (tailed-exactly (kernel_of rows names) paired i).0 e.1;
        kind_has_twin = h.0;
        row_encodes = if-good (encodes (row_at rows names i)) e.0;
      }),
  (λ w.
      rw (
        (pairs-exactly (kernel_of rows names)).1 w.paired,
        w.kind_has_twin,
        w.row_encodes,
        (tailed-exactly (kernel_of rows names) w.paired i).1 w.in_tail,
      )),
)
