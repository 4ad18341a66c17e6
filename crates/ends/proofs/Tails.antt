-- Looking back for another end on the same instruction, and for a short instruction of the tail.
use Prim.Native.Nat.{ℕ, suc, ◌+◌, ◌-◌, ◌≤◌, ◌<◌}
use native.Mathlib.Omega.{arith}
use native.Mathlib.Nat.{eq-or-lt_of_le}
use mathlib.Core.Path.{◌≡◌, refl, sym, ap}
use mathlib.Core.Logic.{⊎_elim}
use mathlib.Core.Bool.{Bool, true, false, ◌&&◌}
use lib.Dec.{eqb, ltb, leb}
use borrow.Author.Tests.{eq-eqb, ne_eqb, eqb-true, lt-ltb, le-ltb, le-leb, lt-leb}
use Rattle.refusals.specs.declared.Refusal.{Refusal}
use Rattle.std.specs.Prelude.{Ok, Err}
use Rattle.coded.specs.Coded.{Coded}
use Rattle.places.specs.Items.{about, is_end, is_short, size, is_entry, place, address, entries}
use Rattle.places.specs.Looking.{Found, is_found, opener, sharer, is_in_tail, short_one}
use Rattle.places.specs.Verdict.{when_found}
use Rattle.prefixes.proofs.Tests.{and_second, not_so, and_both, true_false}
use Rattle.prefixes.proofs.Totals.{total-up}
use Rattle.prefixes.proofs.Traits.{entry-bit, short-entry, closes-end}
use Rattle.prefixes.proofs.Looking.{newest-none, None}
use Rattle.ends.proofs.Looked.{Looked, looked-start, looked-on, looked-newest, looked-none, looked-all, row_before}

module _ (it : ℕ → Coded) (end : ℕ) where
  entry-up : (i : ℕ) → 0 < i → entries it i ≡ entries it (i - 1) + is_entry (it (i - 1))
  entry-up = row_before (λ (y k : ℕ). entries it y ≡ entries it k + is_entry (it k)) (λ k. refl)

  place_up : (i : ℕ) → 0 < i → place it i ≡ place it (i - 1) + size (it (i - 1))
  place_up = row_before (λ (y k : ℕ). place it y ≡ place it k + size (it k)) (λ k. refl)

  closes_no_entry : (x : Coded) → (about x).closes ≡ 1 → is_entry x ≡ 0
  closes_no_entry x e = rw (closes-end x e)

  -- ---- another end on the same instruction
  abbrev pub shares : ℕ → Bool
  shares k = is_end (it k) && eqb (entries it k) (entries it end)

  pub record Bare (i : ℕ) : Type 0 where
    pub looked : Looked shares end i
    pub level : entries it i ≡ entries it end

  pub bare-start : Bare end
  bare-start = record { looked = looked-start shares end; level = refl }

  module _ {i : ℕ} (some : 0 < i) (b : Bare i) where
    pub bare-found : (about (it (i - 1))).closes ≡ 1 → true ≡ is_found (sharer it end)
    bare-found c =
        let u = entry-up i some in
        let z = closes_no_entry (it (i - 1)) c in
        let e : entries it (i - 1) ≡ entries it end = omega (arith, b.level) in
        sym (ap is_found (looked-newest shares end some b.looked (rw (c, eq-eqb _ _ e) refl)))

    pub bare-stop : (about (it (i - 1))).entry ≡ 1 → ((about (it (i - 1))).closes ≡ 1 → ⊥) → false ≡ is_found (sharer it end)
    bare-stop e n =
        sym
        (ap is_found
        (newest-none shares end
        (looked-none shares end b.looked
        (λ q h.
        and_second (is_end (it q)) _
        (ne_eqb _ _ (λ (z : entries it q ≡ entries it end). let u = entry-up i some in let w = total-up is_entry it q (i - 1) (omega arith) in omega (arith, b.level)))))))

    pub bare-on : ((about (it (i - 1))).entry ≡ 1 → ⊥) → ((about (it (i - 1))).closes ≡ 1 → ⊥) → Bare (i - 1)
    bare-on e n =
        let u = entry-up i some in
        let z : is_entry (it (i - 1)) ≡ 0 = ⊎_elim (λ y. absurd (e y)) (λ l. omega arith) (eq-or-lt_of_le (entry-bit (it (i - 1)))) in
        record { looked = looked-on shares end some b.looked (rw (ne_eqb _ _ n) refl); level = omega (arith, b.level) }

  pub bare-none : {i : ℕ} → Bare i → i ≤ 0 → false ≡ is_found (sharer it end)
  bare-none b z = sym (ap is_found (newest-none shares end (looked-all shares end b.looked z)))

  -- ---- a short instruction of the tail
  abbrev pub narrow : ℕ → Bool
  narrow k = is_short (it k) && is_in_tail it end k

  pub record Behind (i p seen : ℕ) : Type 0 where
    pub looked : Looked narrow end i
    pub level : entries it end ≡ entries it i + seen
    pub here : p ≡ place it i

  pub behind_start : {p : ℕ} → p ≡ place it end → Behind end p 0
  behind_start e = record { looked = looked-start narrow end; level = omega arith; here = e }

  none_told : None narrow end → (r : ℕ → Refusal) → (Ok tt) ≡ when_found (short_one it end) r
  none_told n r = sym (ap (λ (f : Found). when_found f r) (newest-none narrow end n))

  module _ (start : ℕ) (is : start ≡ opener it end) {i p seen : ℕ} (b : Behind i p seen) where
    pub behind_size : 0 < i → size (it (i - 1)) ≤ p
    behind_size some = let u = place_up i some in omega (arith, b.here)

    pub behind_place : 0 < i → p - size (it (i - 1)) ≡ address it (i - 1)
    behind_place some = let u = place_up i some in omega (arith, b.here)

    pub behind_found : start + 1 < i → seen < 11 → (about (it (i - 1))).short ≡ 1 → (r : ℕ → Refusal) → Err (r (i - 1)) ≡ when_found (short_one it end) r
    behind_found h s e r =
        let some : 0 < i = omega arith in
        let u = entry-up i some in
        let y = (short-entry (it (i - 1)) e).0 in
        let l : entries it end ≤ entries it (i - 1) + 11 = omega (arith, b.level) in
        let w : opener it end < i - 1 = omega (arith, is) in
        sym (ap (λ (f : Found). when_found f r) (looked-newest narrow end some b.looked (rw (e, lt-ltb _ _ w, le-leb _ _ l) refl)))

    pub behind_on : 0 < i → ((about (it (i - 1))).short ≡ 1 → ⊥) → Behind (i - 1) (p - size (it (i - 1))) (seen + is_entry (it (i - 1)))
    behind_on some e =
        let u = entry-up i some in
        let v = place_up i some in
        record { looked = looked-on narrow end some b.looked (rw (ne_eqb _ _ e) refl); level = omega (arith, b.level); here = omega (arith, b.here) }

    -- past the body, or past the last 11
    pub behind_body : i ≤ start + 1 → (r : ℕ → Refusal) → (Ok tt) ≡ when_found (short_one it end) r
    behind_body h r =
        none_told
        (looked-none narrow end b.looked (λ q u. and_second (is_short (it q)) _ (rw (le-ltb (opener it end) q (omega (arith, is))) refl)))
        r

    pub behind_tail : 11 ≤ seen → (r : ℕ → Refusal) → (Ok tt) ≡ when_found (short_one it end) r
    behind_tail h r =
        none_told
        (looked-none narrow end b.looked
        (λ q u. not_so (narrow q) (λ t.
        let x = and_both (is_short (it q)) (is_in_tail it end q) t in
        let s = (short-entry (it q) (eqb-true _ _ x.0)).0 in
        let y = and_both (ltb (opener it end) q) (leb (entries it end) (entries it q + 11)) x.1 in
        let w = total-up is_entry it (suc q) i u in
        let z : entries it (suc q) ≡ entries it q + is_entry (it q) = refl in
        far q (omega (arith, b.level)) y.1)))
        r
      where
        far : (q : ℕ) → entries it q + 11 < entries it end → leb (entries it end) (entries it q + 11) ≡ true → ⊥
        far q l t = true_false t (lt-leb _ _ l)
