-- Looking on from a row for the end of the loop that it stands in: loops in between are passed over, and no end of theirs has the row in its tail.
use mathlib.Core.Path.{◌≡◌, refl, sym, subst}
use mathlib.Core.Logic.{⊎_elim}
use mathlib.Core.Bool.{Bool, true, false, ◌&&◌}
use Prim.Native.Nat.{ℕ, suc, ◌+◌, ◌-◌, ◌≤◌, ◌<◌}
use native.Mathlib.Omega.{arith}
use native.Mathlib.Numerals.{add-one}
use native.Mathlib.Nat.{eq-or-lt_of_le}
use lib.Dec.{ltb, leb}
use borrow.Author.Tests.{lt-ltb, le-leb, eqb-true, ltb-true, leb-true}
use Rattle.refusals.proofs.Order.{below_suc}
use Rattle.places.specs.Items.{Kernel, about, is_entry, is_end, entries, nest}
use Rattle.places.specs.Looking.{opener, is_in_tail}
use Rattle.prefixes.proofs.Tests.{not_so, and_both, order}
use Rattle.prefixes.proofs.Looking.{None}
use Rattle.prefixes.proofs.Traits.{one_way}
use Rattle.prefixes.proofs.Totals.{total-up}
use Rattle.prefixes.proofs.Nesting.{innermost}
use Rattle.widening.specs.declared.tails.Counted.{Counted}
use Rattle.widening.specs.Widening.{pairs, tailed}
use Rattle.widening.specs.Walks.{mark}
use Rattle.widening.proofs.Marks.{Marked}
use Rattle.widening.proofs.Pairing.{some-found, none_found, pairs-closed}

module _ (k : Kernel) (row : ℕ) where
  open k use {it, n}

  -- the end e has the row in its tail
  abbrev ends : ℕ → Bool
  ends e = is_end (it e) && (ltb row e && is_in_tail it e row)

  -- before row i: `inner` loops that started after the row are open, and `seen` instructions stand from the row on
  pub record Ahead (i inner seen : ℕ) : Type 0 where
    pub after : row < i
    pub level : nest it i ≡ nest it (suc row) + inner
    pub deep : (q : ℕ) → row < q → q ≤ i → nest it (suc row) ≤ nest it q
    pub count : entries it i ≡ entries it row + seen
    pub passed : None ends i

  record Ends (e : ℕ) : Type 0 where
    closes : (about (it e)).closes ≡ 1
    after : row < e
    outside : opener it e < row
    near : entries it e ≤ entries it row + 11

  ends_so : (e : ℕ) → ends e ≡ true → Ends e
  ends_so e t =
      let a = and_both (is_end (it e)) (ltb row e && is_in_tail it e row) t in
      let b = and_both (ltb row e) (is_in_tail it e row) a.1 in
      let c = and_both (ltb (opener it e) row) (leb (entries it e) (entries it row + 11)) b.1 in
      record { closes = eqb-true _ _ a.0; after = ltb-true _ _ b.0; outside = ltb-true _ _ c.0; near = leb-true _ _ c.1 }

  no-earlier : (e : ℕ) → e ≤ row → ends e ≡ false
  no-earlier e h = not_so (ends e) (λ t. omega (arith, (ends_so e t).after))

  module _ (marked : Marked (mark 1 0 0) (it row)) where
    pub ahead-start : Ahead (row + 1) 0 1
    ahead-start =
        rw add-one
        (record {
          after = omega arith;
          level = omega arith;
          deep = λ q u v. subst (λ (y : ℕ). nest it (suc row) ≤ nest it y) (let e : suc row ≡ q = omega arith in e) (omega arith);
          count = rw marked.entry refl;
          passed = λ q u. no-earlier q (omega arith);
        })

    module _ (paired : pairs k ≡ true) {i inner seen : ℕ} (a : Ahead i inner seen) where
      module _ {m : Counted} (is : Marked m (it i)) (h : i < n) where
        -- the end in row i closes the loop that the row stands in
        pub ahead-found : seen ≤ 11 → inner < m.closes → true ≡ tailed k row
        ahead-found few c =
            let w = one_way (it i) in
            let s = is.closes in
            let e : (about (it i)).closes ≡ 1 = omega arith in
            let z : nest it i ≡ nest it (suc row) = omega (arith, a.level) in
            let o = innermost it i (pairs-closed k paired i h e) in
            let l : opener it i < row = outside (opener it i) o.open_at.opens o.open_at.before (omega (arith, o.level)) in
            let g : is_in_tail it i row ≡ true = rw (lt-ltb _ _ l, le-leb (entries it i) (entries it row + 11) (omega (arith, a.count))) refl in
            sym (some-found ends n i h (rw (e, lt-ltb row i a.after, g) refl))
          where
            outside : (b : ℕ) → (about (it b)).opens ≡ 1 → b < i → nest it b < nest it (suc row) → b < row
            outside b o u v =
                ⊎_elim (λ lt. lt)
                (λ le.
                ⊎_elim (λ same. absurd (let y : (about (it row)).opens ≡ 1 = rw same o in omega (arith, marked.opens))) (λ lt. absurd (let d = a.deep b lt (omega arith) in omega arith))
                (eq-or-lt_of_le le))
                (order b row)

        -- a loop in between
        pub ahead-on : m.closes ≤ inner → Ahead (i + 1) (inner + m.opens - m.closes) (seen + m.entry)
        ahead-on c =
            let w = one_way (it i) in
            let s = is.closes in
            let o = is.opens in
            let y : nest it (suc i) ≡ nest it (suc row) + (inner + m.opens - m.closes) = omega (arith, a.level) in
            rw add-one
            (record {
              after = omega (arith, a.after);
              level = y;
              deep = λ q u v. ⊎_elim (λ e. subst (λ (y : ℕ). nest it (suc row) ≤ nest it y) (sym e) (omega arith)) (λ lt. a.deep q u (omega arith)) (eq-or-lt_of_le v);
              count = omega (arith, a.count, is.entry);
              passed = below_suc (λ (q : ℕ). ends q ≡ false) i a.passed (not_so (ends i) not_it);
            })
          where
            not_it : ends i ≡ true → ⊥
            not_it t =
                let e = ends_so i t in
                let o = innermost it i (pairs-closed k paired i h e.closes) in
                let d = o.open_at.deep (suc row) (omega (arith, e.outside)) a.after in
                omega (arith, a.level, o.level, is.closes, e.closes)

      -- past the last row, or past the last 11
      pub ahead-end : n ≤ i → i ≤ n → false ≡ tailed k row
      ahead-end u v = let e : i ≡ n = omega arith in sym (none_found ends n (rw e at a.passed))

      pub ahead-far : 11 < seen → false ≡ tailed k row
      ahead-far far =
          sym
          (none_found ends n
          (λ e u.
          ⊎_elim (λ lt. a.passed e lt)
          (λ le.
          not_so (ends e)
          (λ t.
          let up = total-up is_entry it i e le in
          omega (arith, a.count, (ends_so e t).near)))
          (order e i)))
