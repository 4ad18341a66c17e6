-- The word of a loop start, and what its end is refused for, from what was looked up.
use Prim.Native.Nat.{ℕ, suc, ◌+◌, ◌≤◌, ◌<◌}
use native.Mathlib.Omega.{arith}
use native.Mathlib.Nat.{eq-or-lt_of_le}
use mathlib.Core.Path.{◌≡◌, refl, sym, ap, ◌∙◌, subst}
use mathlib.Core.Logic.{⊎_elim}
use mathlib.Core.Bool.{Bool, true, false}
use lib.Dec.{eqb}
use lib.IntN.{pos, ◌-ℤ◌, +ℤ-neg_ℤ_cancel}
use borrow.Author.Tests.{eq-eqb, ne_eqb, eqb-true}
use Rattle.refusals.specs.declared.Refusal.{Refusal}
use Rattle.refusals.specs.declared.Refusal.TheVariants.{EmptyLoop, UnmatchedLoopEnd, SharedLoopEnd, LoopTailNotFullWidth}
use Rattle.std.specs.Prelude.{Ok, Err}
use Rattle.refusals.specs.Answers.{Verdict}
use Rattle.coded.specs.Coded.{Coded}
use Rattle.refusals.specs.Order.{first}
use Rattle.refusals.proofs.Order.{last_one}
use Rattle.items.specs.declared.LoopCount.{LoopCount}
use Rattle.items.specs.declared.LoopMode.{LoopMode}
use Rattle.encode.specs.Encoding.{form_verdict, loop_form}
use Rattle.items.specs.declared.Item.TheVariants.{LoopBegin, LoopEnd}
use Rattle.places.specs.declared.Rooms.{Rooms}
use Rattle.places.specs.Items.{Kernel, about, is_entry, place, address, entries, nest}
use Rattle.places.specs.Looking.{Found, at, nothing, is_found, last_at, opener, sharer, short_one}
use Rattle.places.specs.Verdict.{when_found, loop_offset, loop_row, faults}
use Rattle.prefixes.proofs.Tests.{true_false}
use Rattle.prefixes.proofs.Totals.{total-up, flat, no-entry}
use Rattle.prefixes.proofs.Traits.{opens-entry}
use Rattle.prefixes.proofs.Looking.{LatestRow, latest-row, latest-is, not_after, not_found}
use Rattle.prefixes.proofs.Nesting.{innermost}
use Rattle.ends.specs.Ends.{last_row}

module _ (it : ℕ → Coded) (end : ℕ) (start : ℕ) (before : start < end) (opens : (about (it start)).opens ≡ 1) where
  -- the last instruction before the end is the start, or one of the body
  pub record Last (row : ℕ) : Type 0 where
    pub from : start ≤ row
    pub before_end : row < end
    pub address_is : last_at it end ≡ address it row
    pub entry : is_entry (it row) ≡ 1
    pub none_after : entries it (suc row) ≡ entries it end

  abbrev test : ℕ → Bool
  test k = eqb (is_entry (it k)) 1

  starts : test start ≡ true
  starts = eq-eqb _ _ (opens-entry (it start) opens)

  pub last : Last (last_row it end)
  last = ⊎_elim (λ n. absurd (true_false starts (n start before))) by (latest-row test end)
    where
      by : LatestRow test end → Last (last_row it end)
      by r =
          subst Last (sym (latest-is test (λ k. k) end r))
          (record {
            from = not_after r start before starts;
            before_end = r.before;
            address_is = latest-is test (λ k. address it k) end r;
            entry = eqb-true _ _ r.holds;
            none_after = flat is_entry it (suc r.row) end r.before (λ q u v. no-entry it q (r.after q u v));
          })

  pub word-is : {x : Coded} {c : LoopCount} {m : LoopMode} (offset : ℕ) → offset + place it start ≡ place it (last_row it end) → x ≡ it start → x ≡ Ok (LoopBegin c m)
      → loop_form c m (pos offset -ℤ pos 0) ≡ loop_row it end start (it start)
  word-is {x} {c} {m} offset e r s =
      let o : pos offset -ℤ pos 0 ≡ pos offset = ap pos (let y : offset + 0 ≡ offset = omega arith in y) in
      let w : it start ≡ (Ok (LoopBegin c m)) = sym r ∙ s in
      let z : pos offset ≡ loop_offset it end start =
      sym (+ℤ-neg_ℤ_cancel (pos offset) (pos (place it start))) ∙ ap (λ (y : ℕ). pos y -ℤ pos (place it start)) (e ∙ sym last.address_is) in
      ap (loop_form c m) (o ∙ z) ∙ ap (loop_row it end start) (sym w)

  -- empty: the last instruction is the start
  pub empty-is : last_row it end ≡ start → eqb (entries it end) (entries it start + 1) ≡ true
  empty-is e =
      let l = last in
      let n : entries it (suc start) ≡ entries it end = rw e at l.none_after in
      let o = opens-entry (it start) opens in
      eq-eqb _ _ (let z : entries it end ≡ entries it start + 1 = omega arith in z)

  pub not_empty : (last_row it end ≡ start → ⊥) → eqb (entries it end) (entries it start + 1) ≡ false
  not_empty e =
      let l = last in
      ne_eqb _ _
      (λ (z : entries it end ≡ entries it start + 1).
      ⊎_elim (λ y. e (sym y))
      (λ lt.
      let o = opens-entry (it start) opens in
      let u = total-up is_entry it (suc start) (last_row it end) lt in
      let n = l.none_after in
      let p = l.entry in
      omega arith)
      (eq-or-lt_of_le l.from))

-- ---- the verdict on a loop end
module _ (k : Kernel) (i : ℕ) (rooms : Rooms) where
  open k use {it}

  abbrev tail : Verdict
  tail = when_found (short_one it i) (λ q. LoopTailNotFullWidth (address it q))

  pub no_loop : nest it i ≡ 0 → Err UnmatchedLoopEnd ≡ first (faults k rooms i (Ok LoopEnd))
  no_loop e = rw e refl

  module _ (some : 0 < nest it i) where
    inside : eqb (nest it i) 0 ≡ false
    inside = ne_eqb _ _ (λ (z : nest it i ≡ 0). omega arith)

    pub no_body : last_row it i ≡ opener it i → Err EmptyLoop ≡ first (faults k rooms i (Ok LoopEnd))
    no_body e = let o = (innermost it i some).open_at in rw (inside, empty-is it i (opener it i) o.before o.opens e) refl

    module _ (body : last_row it i ≡ opener it i → ⊥) where
      filled : eqb (entries it i) (entries it (opener it i) + 1) ≡ false
      filled = let o = (innermost it i some).open_at in not_empty it i (opener it i) o.before o.opens body

      pub not_alone : is_found (sharer it i) ≡ true → Err SharedLoopEnd ≡ first (faults k rooms i (Ok LoopEnd))
      not_alone e = go (sharer it i) refl e
        where
          go : (f : Found) → sharer it i ≡ f → is_found f ≡ true → Err SharedLoopEnd ≡ first (faults k rooms i (Ok LoopEnd))
          go (at q) e h = rw (inside, filled, e) refl
          go nothing e h = absurd (true_false h refl)

      module _ (alone : is_found (sharer it i) ≡ false) where
        pub too_short : {r : Refusal} → tail ≡ Err r → Err r ≡ first (faults k rooms i (Ok LoopEnd))
        too_short e = rw (inside, filled, not_found (sharer it i) alone, e) refl

        pub by_word : tail ≡ Ok tt → form_verdict (loop_row it i (opener it i) (it (opener it i))) ≡ first (faults k rooms i (Ok LoopEnd))
        by_word e = rw (inside, filled, not_found (sharer it i) alone, e) (sym (last_one _))
