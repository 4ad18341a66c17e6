-- Where every row passes, rules 3 to 5 hold: a pair of brackets is closed by an end whose refusals are not met.
use Prim.Native.Nat.{ℕ, suc, ◌+◌, ◌≤◌, ◌<◌}
use native.Mathlib.Omega.{arith}
use mathlib.Core.Path.{◌≡◌, refl, sym, ap, ◌∙◌, subst}
use mathlib.Core.Bool.{true, false, ◌&&◌}
use lib.Dec.{ltb, leb, eqb}
use lib.IntN.{pos, ◌-ℤ◌}
use borrow.Author.Tests.{lt-ltb, le-leb, ltb-false, eq-eqb, eqb-false}
use Rattle.items.specs.declared.LoopCount.TheVariants.{Immediate}
use Rattle.items.specs.declared.Item.TheVariants.{Instruction, Label, Jump, LoopEnd}
use Rattle.std.specs.Prelude.{Ok}
use Rattle.coded.specs.Coded.{Coded}
use Rattle.encode.specs.Encoding.{form_verdict, loop_form}
use Rattle.encode.proofs.Reach.{loop-reach}
use Rattle.places.specs.declared.Rooms.{Rooms}
use Rattle.places.specs.Items.{Kernel, about, size, is_entry, is_end, is_short, address, entries, nest}
use Rattle.places.specs.Looking.{last_at, opener}
use Rattle.places.specs.Verdict.{faults, loop_row}
use Rattle.prefixes.proofs.Tests.{true_false, not_so, and_first, same_row}
use Rattle.refusals.proofs.Order.{when-good, AllGood}
use Rattle.prefixes.proofs.Looking.{found-good}
use Rattle.prefixes.proofs.Traits.{entry-bit, opens-entry, wide-entry}
use Rattle.prefixes.proofs.Totals.{total-up, counted, last-is}
use Rattle.rules.specs.Rules.{Pair, Body, Rule3, Last, Rule4, Rule5}
use Rattle.rules.proofs.Pairs.{pair_open, pair-opener, pair-from}
use Rattle.rules.specs.WhichRow.{RowsPass}
use Rattle.rules.proofs.Rows.{passed}

module _ (k : Kernel) (r : Rooms) (rows : RowsPass k r) where
  open k use {it, n}

  -- the refusals of the loop end e, none of them met
  module _ (b e : ℕ) (p : Pair k b e) where
    one : is_entry (it b) ≡ 1
    one = opens-entry (it b) (pair_open k p).opens

    closing : AllGood (faults k r e (Ok LoopEnd))
    closing = passed k r rows e p.before_end (Ok LoopEnd) p.closes

    pub loop-form : form_verdict (loop_form p.count p.mode (pos (last_at it e) -ℤ pos (address it b))) ≡ Ok tt
    loop-form =
        subst (λ (y : Coded). form_verdict (loop_row it e b y) ≡ Ok tt) p.opens
        (subst (λ (x : ℕ). form_verdict (loop_row it e x (it x)) ≡ Ok tt) (pair-opener k p) closing.1.1.1.1.0)

    some : Body k b e
    some =
        let t : entries it e ≡ entries it b + 1 → ⊥ =
        subst (λ (x : ℕ). entries it e ≡ entries it x + 1 → ⊥) (pair-opener k p)
        (eqb-false (entries it e) (entries it (opener it e) + 1) (when-good _ _ closing.1.0)) in
        let w = total-up is_entry it (suc b) e p.order in
        let c = counted is_entry it (suc b) e (let y = one in omega arith) in
        record { row = c.row; after = omega (arith, c.from); before = c.before; entry = let x = entry-bit (it c.row) in let y = c.counts in omega arith }

    tail : (q : ℕ) → b < q → q < e → is_entry (it q) ≡ 1 → entries it e ≤ entries it q + 11 → size (it q) ≡ 3
    tail q u v o t =
        wide-entry (it q) o
        (λ s.
        true_false (let w : (is_short (it q) && (ltb b q && leb (entries it e) (entries it q + 11))) ≡ true = rw (s, lt-ltb b q u, le-leb (entries it e) (entries it q + 11) t) refl in w)
        (subst (λ (x : ℕ). (is_short (it q) && (ltb x q && leb (entries it e) (entries it q + 11))) ≡ false) (pair-opener k p) (found-good _ e _ closing.1.1.1.0 q v)))

    near : (q : ℕ) → Last k q e → address it q ≤ address it b + 0x3f_ffff
    near q l =
        let w = last-is it q e l.before l.entry l.none_after in
        let g = ((loop-reach p.count p.mode (last_at it e) (address it b)).0 loop-form).1 in
        omega arith

  outside : (q : ℕ) → ltb 0 (nest it q) ≡ false → (b e : ℕ) → Pair k b e → b < q → q < e → ⊥
  outside q z b e p u v = let w = ltb-false 0 (nest it q) z in let d = p.deep q u (omega arith) in omega arith

  pub rule3 : nest it n ≡ 0 → Rule3 k
  rule3 closed =
      record {
        matched = λ e h z. let w : nest it e ≡ 0 → ⊥ = eqb-false _ _ (when-good _ _ (passed k r rows e h (Ok LoopEnd) z).0) in omega arith;
        closed = omega arith;
        no_label = λ b e q a c p u v z.
            outside q (when-good _ _ (passed k r rows q (omega (arith, p.before_end)) (Ok (Label a c)) z).0) b e p u v;
        no_jump = λ b e q c a d p u v z.
            outside q (when-good _ _ (passed k r rows q (omega (arith, p.before_end)) (Ok (Jump c a d)) z).0) b e p u v;
        no_branch = λ b e q w p u v z.
            not_so _ (λ t. outside q (and_first _ _ t (when-good _ _ (passed k r rows q (omega (arith, p.before_end)) (Ok (Instruction w)) z).0)) b e p u v);
        some = some;
      }

  alone : (e f : ℕ) → e < f → f < n → it e ≡ Ok LoopEnd → it f ≡ Ok LoopEnd → entries it e ≡ entries it f → ⊥
  alone e f l h x y z =
      true_false (let w : (is_end (it e) && eqb (entries it e) (entries it f)) ≡ true = rw (x, eq-eqb _ _ z) refl in w)
      (found-good _ f _ (passed k r rows f h (Ok LoopEnd) y).1.1.0 e l)

  pub rule4 : Rule4 k
  rule4 =
      record {
        apart = λ b e d f q p o u v.
            let s : entries it e ≡ entries it f = sym u.none_after ∙ v.none_after in
            let w = same_row e f (λ l. alone e f l o.before_end p.closes o.closes s) (λ l. alone f e l p.before_end o.closes p.closes (sym s)) in
            omega arith;
        tail = λ b e q p u v o t. tail b e p q u v o (omega arith);
      }

  pub rule5 : nest it n ≡ 0 → Rule5 k
  rule5 closed =
      record {
        counted = λ b c m h z.
            let x = pair-from k b closed h (ap (λ (y : Coded). (about y).opens) z) in
            let p = x.pair in
            let g = ((loop-reach p.count p.mode (last_at it x.end) (address it b)).0 (loop-form b x.end p)).2 in
            let s : p.count ≡ Immediate c = cc in
            let q : c ≡ 0 → ⊥ = λ y. g (s ∙ ap Immediate y) in
            omega arith;
        near = λ b e q p l. let w = near b e p q l in omega arith;
      }
