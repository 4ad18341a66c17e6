-- Where the rules hold, every loop end passes, and what may not stand in a loop stands outside of all.
use Prim.Native.Nat.{ℕ, suc, ◌+◌, ◌≤◌, ◌<◌}
use native.Mathlib.Omega.{arith}
use mathlib.Core.Path.{◌≡◌, sym, ap, ◌∙◌, subst}
use mathlib.Core.Logic.{⊎_elim}
use mathlib.Core.Bool.{true, false, ◌&&◌}
use lib.Dec.{ltb, leb, eqb}
use borrow.Author.Tests.{ltb-true, leb-true, le-ltb, ne_eqb, eqb-true}
use Rattle.items.specs.Kinds.{is_branch}
use Rattle.items.specs.declared.LoopCount.{LoopCount}
use Rattle.coded.specs.declared.Coding.{Coding}
use Rattle.items.specs.declared.Item.TheVariants.{Instruction, LoopBegin, LoopEnd}
use Rattle.std.specs.Prelude.{Ok}
use Rattle.coded.specs.Coded.{Coded}
use Rattle.encode.specs.Encoding.{form_verdict}
use Rattle.encode.proofs.Reach.{loop-reach}
use Rattle.places.specs.declared.Rooms.{Rooms}
use Rattle.places.specs.Items.{Kernel, about, size, is_entry, is_end, is_short, address, entries, nest}
use Rattle.places.specs.Looking.{last_at, opener}
use Rattle.places.specs.Verdict.{faults, loop_row}
use Rattle.prefixes.proofs.Tests.{true_false, and_both, order}
use Rattle.refusals.proofs.Order.{AllGood, good-when}
use Rattle.prefixes.proofs.Looking.{good-found}
use Rattle.prefixes.proofs.Traits.{closes-end, short-entry}
use Rattle.prefixes.proofs.Totals.{total-up, LastEntry, last_entry, last-is}
use Rattle.prefixes.proofs.Nesting.{innermost, not_before}
use Rattle.rules.specs.Rules.{Pair, Last, Valid}
use Rattle.rules.proofs.Pairs.{pair-from, pair_to}

module _ (k : Kernel) (r : Rooms) (valid : Valid k r) where
  open k use {it, n}

  -- ---- outside of loops
  -- a pair around row i
  record Inside (i : ℕ) : Type 0 where
    start : ℕ
    end : ℕ
    pair : Pair k start end
    after : start < i
    before : i < end

  inside : (i : ℕ) → i < n → 0 < nest it i → (about (it i)).closes ≡ 0 → Inside i
  inside i h d c =
      let o = (innermost it i d).open_at in
      let b = o.before in
      let x = pair-from k (opener it i) (omega (arith, valid.rule3.closed)) (omega arith) o.opens in
      let p = x.pair in
      let q : (about (it x.end)).closes ≡ 1 = ap (λ (y : Coded). (about y).closes) p.closes in
      record {
        start = opener it i;
        end = x.end;
        pair = p;
        after = b;
        before = ⊎_elim (λ l. l) (λ l. let w = not_before it o q p.level p.order in let e : x.end ≡ i = omega arith in let z : (about (it i)).closes ≡ 1 = rw e at q in absurd (omega arith)) (order i x.end);
      }

  pub outside : (i : ℕ) → i < n → (about (it i)).closes ≡ 0 → ((b e : ℕ) → Pair k b e → b < i → i < e → ⊥) → ltb 0 (nest it i) ≡ false
  outside i h c f =
      ⊎_elim (λ d. let x = inside i h d c in absurd (f x.start x.end x.pair x.after x.before)) (λ d. le-ltb 0 (nest it i) d) (order 0 (nest it i))

  pub no_branch : (i : ℕ) (v : Coding) → i < n → it i ≡ Ok (Instruction v) → (is_branch v.kind && ltb 0 (nest it i)) ≡ true → ⊥
  no_branch i v h e t =
      let y = and_both _ _ t in
      let x = inside i h (ltb-true 0 (nest it i) y.1) (ap (λ (s : Coded). (about s).closes) e) in
      true_false y.0 (valid.rule3.no_branch x.start x.end i v x.pair x.after x.before e)

  -- ---- a loop end and its start
  module _ (i : ℕ) (h : i < n) (e : it i ≡ Ok LoopEnd) where
    inner : 0 < nest it i
    inner = valid.rule3.matched i h e

    abbrev b : ℕ
    b = opener it i

    pair : Pair k b i
    pair = pair_to k i inner h (ap (λ (y : Coded). (about y).closes) e)

    one : is_entry (it b) ≡ 1
    one = ap is_entry pair.opens

    -- the start and what stands before it
    past : entries it b + 1 ≤ entries it i
    past = let w = total-up is_entry it (suc b) i pair.order in let y = one in omega arith

    last : LastEntry it i
    last = last_entry it i (let w = past in omega arith)

    last_of : Last k last.row i
    last_of = record { before = last.before; entry = last.entry; none_after = last.none_after }

    not_empty : entries it i ≡ entries it b + 1 → ⊥
    not_empty z =
        let q = valid.rule3.some b i pair in
        let y = one in
        let x = q.entry in
        let u = total-up is_entry it (suc b) q.row (omega (arith, q.after)) in
        let w = total-up is_entry it (suc q.row) i q.before in
        omega arith

    -- an end with as many instructions before it ends on the same one
    not_shared : (f : ℕ) → f < i → (is_end (it f) && eqb (entries it f) (entries it i)) ≡ true → ⊥
    not_shared f l t =
        let g = and_both _ _ t in
        let c = eqb-true (about (it f)).closes 1 g.0 in
        let s = eqb-true (entries it f) (entries it i) g.1 in
        let p = pair_to k f (valid.rule3.matched f (omega arith) (closes-end (it f) c)) (omega arith) c in
        let q = last.row in
        let x = last.entry in
        let y = last.none_after in
        let u : q < f = ⊎_elim (λ u. u) (λ u. absurd (let w = total-up is_entry it f q u in omega arith)) (order q f) in
        let z = valid.rule4.apart (opener it f) f b i q p pair (record { before = u; entry = x; none_after = y ∙ sym s }) last_of in
        omega arith

    full-width : (q : ℕ) → q < i → (is_short (it q) && (ltb b q && leb (entries it i) (entries it q + 11))) ≡ true → ⊥
    full-width q l t =
        let g = and_both _ _ t in
        let u = and_both _ _ g.1 in
        let s = short-entry (it q) (eqb-true _ _ g.0) in
        let w : entries it i ≤ entries it q + 11 = leb-true _ _ u.1 in
        s.1 (valid.rule4.tail b i q pair (ltb-true _ _ u.0) l s.0 (omega arith))

    form : form_verdict (loop_row it i b (it b)) ≡ Ok tt
    form =
        let p = pair in
        let q = last.row in
        let y = one in
        let w = last-is it q i last.before last.entry last.none_after in
        let g = valid.rule5.near b i q p last_of in
        let l : b ≤ q = ⊎_elim (λ u. absurd (let x = total-up is_entry it (suc q) b u in let z = past in let s = last.none_after in omega arith)) (λ u. u) (order q b) in
        let x = total-up size it b q l in
        subst (λ (y : Coded). form_verdict (loop_row it i b y) ≡ Ok tt) (sym p.opens)
        ((loop-reach p.count p.mode (last_at it i) (address it b)).1
        (omega arith, omega arith, λ z. let d = valid.rule5.counted b 0 p.mode (omega (arith, p.order)) (p.opens ∙ ap (λ (c : LoopCount). (Ok (LoopBegin c p.mode))) z) in omega arith))

    pub end-passes : AllGood (faults k r i (Ok LoopEnd))
    end-passes = (
      good-when _ _ (ne_eqb _ _ (λ (z : nest it i ≡ 0). let w = inner in omega arith)),
      (
        good-when _ _ (ne_eqb _ _ not_empty),
        (good-found _ i _ not_shared, (good-found _ i _ full-width, (form, tt))),
      ),
    )
