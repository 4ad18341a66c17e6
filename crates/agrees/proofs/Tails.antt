-- At a loop end in an open loop: what the state keeps of the latest end and of the latest short instruction tells what the items say.
use mathlib.Core.Path.{◌≡◌, refl, ap, ◌∙◌, sym}
use mathlib.Core.Logic.{⊎_elim}
use mathlib.Core.Bool.{Bool, true, false, ◌&&◌}
use Prim.Native.Nat.{ℕ, suc, ◌+◌, ◌≤◌, ◌<◌}
use native.Mathlib.Omega.{arith}
use lib.Dec.{ltb, leb, eqb}
use borrow.Author.Tests.{ltb-true, lt-ltb, le-ltb, leb-true, le-leb, eqb-true, eqb-false, ne_eqb}
use Rattle.refusals.specs.declared.Refusal.TheVariants.{SharedLoopEnd, LoopTailNotFullWidth}
use Rattle.coded.specs.Coded.{Coded}
use Rattle.places.specs.Items.{is_entry, is_end, is_short, address, entries, nest}
use Rattle.refusals.specs.Order.{when}
use Rattle.places.specs.Looking.{Found, opener, sharer, short_one}
use Rattle.places.specs.Verdict.{when_found}
use Rattle.prefixes.proofs.Tests.{true_false, not_so, and_both, order}
use Rattle.prefixes.proofs.Looking.{None, LatestRow, latest-row, latest-is, latest-none, newest-is, newest-none, not_after}
use Rattle.prefixes.proofs.Traits.{opens-entry}
use Rattle.prefixes.proofs.Totals.{total-up}
use Rattle.prefixes.proofs.Nesting.{innermost}
use Rattle.machine.specs.Machine.{tail_short}
use Rattle.agrees.proofs.Prefix.{short_no, short_at, end_no}

module _ (it : ℕ → Coded) (i : ℕ) (inside : 0 < nest it i) where
  -- the loop start is an instruction before i
  past : entries it (opener it i) + 1 ≤ entries it i
  past =
      let o = (innermost it i inside).open_at in
      let y = opens-entry (it (opener it i)) o.opens in
      let w = total-up is_entry it (suc (opener it i)) i o.before in
      omega arith

  -- ---- 25
  abbrev sharing : ℕ → Bool
  sharing k = is_end (it k) && eqb (entries it k) (entries it i)

  pub shared-is : when (eqb (end_no it i) (entries it i)) SharedLoopEnd ≡ when_found (sharer it i) (λ k. SharedLoopEnd)
  shared-is = ⊎_elim none (λ m. some m (eqb (entries it m.row) (entries it i)) refl) (latest-row (λ k. is_end (it k)) i)
    where
      none : None (λ k. is_end (it k)) i → when (eqb (end_no it i) (entries it i)) SharedLoopEnd ≡ when_found (sharer it i) (λ k. SharedLoopEnd)
      none m =
          let w = latest-none (λ k. is_end (it k)) (λ k. entries it k) i m in
          let p = past in
          ap (λ (t : Bool). when t SharedLoopEnd) (ne_eqb (end_no it i) (entries it i) (λ (z : end_no it i ≡ entries it i). omega arith))
          ∙ ap (λ (f : Found). when_found f (λ k. SharedLoopEnd)) (sym (newest-none sharing i (λ q h. not_so _ (λ t. true_false (and_both _ _ t).0 (m q h)))))

      some : (m : LatestRow (λ k. is_end (it k)) i) (t : Bool) → eqb (entries it m.row) (entries it i) ≡ t → when (eqb (end_no it i) (entries it i)) SharedLoopEnd ≡ when_found (sharer it i) (λ k. SharedLoopEnd)
      some m true e =
          let w = latest-is (λ k. is_end (it k)) (λ k. entries it k) i m in
          ap (λ (x : ℕ). when (eqb x (entries it i)) SharedLoopEnd) w ∙ ap (λ (t : Bool). when t SharedLoopEnd) e
          ∙ ap (λ (f : Found). when_found f (λ k. SharedLoopEnd))
          (sym (newest-is sharing i (record { row = m.row; before = m.before; holds = rw (m.holds, e) refl; after = λ q u v. not_so _ (λ t. true_false (and_both _ _ t).0 (m.after q u v)) })))
      some m false e =
          let w = latest-is (λ k. is_end (it k)) (λ k. entries it k) i m in
          let b = m.before in
          let x = total-up is_entry it m.row i (omega arith) in
          let y = eqb-false (entries it m.row) (entries it i) e in
          ap (λ (x : ℕ). when (eqb x (entries it i)) SharedLoopEnd) w ∙ ap (λ (t : Bool). when t SharedLoopEnd) e
          ∙ ap (λ (f : Found). when_found f (λ k. SharedLoopEnd))
          (sym (newest-none sharing i (λ q h. not_so _ (λ t. let g = and_both _ _ t in let s = eqb-true (entries it q) (entries it i) g.1 in let u = total-up is_entry it q m.row (not_after m q h g.0) in y (omega arith)))))

  -- ---- 26
  abbrev tailing : ℕ → Bool
  tailing k = is_short (it k) && (ltb (opener it i) k && leb (entries it i) (entries it k + 11))

  -- by the entries: after the start, one of the last 11
  in_tail : (k : ℕ) → k < i → is_short (it k) ≡ true → tail_short (entries it (opener it i) + 1) (entries it k + 1) (entries it i) ≡ true → tailing k ≡ true
  in_tail k h s t =
      let g = and_both _ _ t in
      let u = ltb-true (entries it (opener it i) + 1) (entries it k + 1) g.0 in
      let v = ltb-true (entries it i) (entries it k + 1 + 11) g.1 in
      let l : opener it i < k = ⊎_elim (λ x. x) (λ x. absurd (let y = total-up is_entry it k (opener it i) x in omega arith)) (order (opener it i) k) in
      rw (s, lt-ltb (opener it i) k l, le-leb (entries it i) (entries it k + 11) (omega arith)) refl

  -- the latest short one is in the tail if any is
  tail_in : (k q : ℕ) → k < i → tailing k ≡ true → k ≤ q → tail_short (entries it (opener it i) + 1) (entries it q + 1) (entries it i) ≡ true
  tail_in k q h t l =
      let h₁ = (and_both (is_short (it k)) (ltb (opener it i) k && leb (entries it i) (entries it k + 11)) t).1 in
      let g = and_both (ltb (opener it i) k) (leb (entries it i) (entries it k + 11)) h₁ in
      let u = ltb-true (opener it i) k g.0 in
      let v = leb-true (entries it i) (entries it k + 11) g.1 in
      let o = (innermost it i inside).open_at in
      let y = opens-entry (it (opener it i)) o.opens in
      let w = total-up is_entry it (suc (opener it i)) k u in
      let x = total-up is_entry it k q l in
      rw (lt-ltb (entries it (opener it i) + 1) (entries it q + 1) (omega arith), lt-ltb (entries it i) (entries it q + 1 + 11) (omega arith)) refl

  abbrev Says : Type 0
  Says = when (tail_short (entries it (opener it i) + 1) (short_no it i) (entries it i)) (LoopTailNotFullWidth (short_at it i)) ≡ when_found (short_one it i) (λ k. LoopTailNotFullWidth (address it k))

  pub short-is : when (tail_short (entries it (opener it i) + 1) (short_no it i) (entries it i)) (LoopTailNotFullWidth (short_at it i)) ≡ when_found (short_one it i) (λ k. LoopTailNotFullWidth (address it k))
  short-is = ⊎_elim none (λ m. some m (tail_short (entries it (opener it i) + 1) (entries it m.row + 1) (entries it i)) refl) (latest-row (λ k. is_short (it k)) i)
    where
      none : None (λ k. is_short (it k)) i → Says
      none m =
          ap (λ (x : ℕ). when (tail_short (entries it (opener it i) + 1) x (entries it i)) (LoopTailNotFullWidth (short_at it i))) (latest-none (λ k. is_short (it k)) (λ k. entries it k + 1) i m)
          ∙ ap (λ (t : Bool). when (t && ltb (entries it i) 11) (LoopTailNotFullWidth (short_at it i))) (le-ltb (entries it (opener it i) + 1) 0 (omega arith))
          ∙ ap (λ (f : Found). when_found f (λ k. LoopTailNotFullWidth (address it k))) (sym (newest-none tailing i (λ q h. not_so _ (λ t. true_false (and_both _ _ t).0 (m q h)))))

      by : (m : LatestRow (λ k. is_short (it k)) i) → when (tail_short (entries it (opener it i) + 1) (short_no it i) (entries it i)) (LoopTailNotFullWidth (short_at it i)) ≡ when (tail_short (entries it (opener it i) + 1) (entries it m.row + 1) (entries it i)) (LoopTailNotFullWidth (address it m.row))
      by m =
          ap (λ (x : ℕ). when (tail_short (entries it (opener it i) + 1) x (entries it i)) (LoopTailNotFullWidth (short_at it i))) (latest-is (λ k. is_short (it k)) (λ k. entries it k + 1) i m)
          ∙ ap (λ (x : ℕ). when (tail_short (entries it (opener it i) + 1) (entries it m.row + 1) (entries it i)) (LoopTailNotFullWidth x)) (latest-is (λ k. is_short (it k)) (λ k. address it k) i m)

      some : (m : LatestRow (λ k. is_short (it k)) i) (t : Bool) → tail_short (entries it (opener it i) + 1) (entries it m.row + 1) (entries it i) ≡ t → Says
      some m true e =
          by m ∙ ap (λ (t : Bool). when t (LoopTailNotFullWidth (address it m.row))) e
          ∙ ap (λ (f : Found). when_found f (λ k. LoopTailNotFullWidth (address it k)))
          (sym (newest-is tailing i (record { row = m.row; before = m.before; holds = in_tail m.row m.before m.holds e; after = λ q u v. not_so _ (λ t. true_false (and_both _ _ t).0 (m.after q u v)) })))
      some m false e =
          by m ∙ ap (λ (t : Bool). when t (LoopTailNotFullWidth (address it m.row))) e
          ∙ ap (λ (f : Found). when_found f (λ k. LoopTailNotFullWidth (address it k)))
          (sym (newest-none tailing i (λ q h. not_so _ (λ t. true_false (tail_in q m.row h t (not_after m q h (and_both _ _ t).0)) e))))
