-- Only a loop end's fourth refusal tells 26, and what it found is the latest short one of the pair's body.
use Prim.Native.Nat.{ℕ, ◌+◌, ◌<◌}
use native.Mathlib.Omega.{arith}
use mathlib.Core.Path.{◌≡◌, refl, sym, ap, subst}
use mathlib.Core.Logic.{⊎_elim}
use mathlib.Core.Bool.{Bool, true, false, ◌&&◌}
use mathlib.Core.List.{List, [], ◌∷◌}
use lib.Dec.{ltb, leb, eqb}
use lib.IntN.{pos}
use borrow.Author.Tests.{lt-ltb, le-leb, ltb-true, leb-true, eqb-true, eqb-false}
use Rattle.refusals.specs.declared.Told.{Told}
use Rattle.refusals.specs.declared.Refusal.{Refusal}
use Rattle.refusals.specs.declared.Refusal.TheVariants.{RowSlice, DuplicateLabel, UndefinedLabel, EmptyLoop, UnclosedLoop, UnmatchedLoopEnd, SharedLoopEnd, LoopTailNotFullWidth, BranchInLoop, LabelInLoop, NoRoomForParcels, NoRoomForLabels, NoRoomForJumps, NoRoomForLoops}
use Rattle.std.specs.Prelude.{Ok, Err}
use Rattle.refusals.specs.Answers.{Verdict}
use Rattle.coded.specs.Coded.{Coded, read_verdict, encodes}
use Rattle.refusals.specs.Numbers.{told_of, answer_in, answered, among}
use Rattle.refusals.specs.Calls.{reading, encoding}
use Rattle.refusals.proofs.Numbered.{checked}
use Rattle.refusals.proofs.Within.{Tells, none, other}
use Rattle.encode.proofs.Numbers.{loop_numbers}
use Rattle.items.specs.declared.Item.TheVariants.{LoopEnd}
use Rattle.places.specs.Items.{Kernel, kernel_of, about, is_entry, is_short, address, entries, nest}
use Rattle.places.specs.Looking.{Found, opener, is_in_tail, short_one}
use Rattle.places.specs.Verdict.{when_found, verdict}
use Rattle.places.specs.Left.{Lent, rooms_of_lent, Builds}
use Rattle.prefixes.proofs.Tests.{true_false, and_both}
use Rattle.prefixes.proofs.Looking.{LatestRow, latest-row, newest-is, newest-none}
use Rattle.prefixes.proofs.Traits.{short-entry, wide-entry}
use Rattle.prefixes.proofs.Totals.{total-up}
use Rattle.rules.specs.Short.{LatestShort}
use Rattle.rules.proofs.Pairs.{pair_to}
use Rattle.rules.proofs.Walk.{Holds, verdict-holds, build-holds}

module _ (k : Kernel) where
  open k use {it, n}

  -- what is promised of what is told, and of a verdict
  abbrev pub Detail : Told → Type 0
  Detail t = t.number ≡ 26 → LatestShort k t.first

  record Promised (v : Verdict) : Type 0 where
    detail : Detail (checked v)

  good : Promised (Ok tt)
  good = record { detail = λ e. absurd (omega arith) }

  -- a refusal of another number, a verdict of other numbers
  another : (r : Refusal) → eqb (told_of r).number 26 ≡ false → Promised (Err r)
  another r f = record { detail = λ e. absurd (eqb-false (told_of r).number 26 f e) }

  others : (ns : List ℕ) (v : Verdict) → none (0 ∷ ns) (26 ∷ []) ≡ true → Tells ns v → Promised v
  others ns v p h =
      record {
        detail = λ e. absurd (true_false (let w : among (26 ∷ []) (checked v).number ≡ true = rw e refl in w) (other (0 ∷ ns) (26 ∷ []) (checked v).number p h));
      }

  -- ---- the loop end e, which closes a loop
  module _ (e : ℕ) (closes : it e ≡ Ok LoopEnd) (h : e < n) (d : 0 < nest it e) where
    latest-short : (m : LatestRow (λ q. is_short (it q) && is_in_tail it e q) e) → LatestShort k (pos (address it m.row))
    latest-short m =
        let t = and_both _ _ m.holds in
        let u = and_both _ _ t.1 in
        let x = short-entry (it m.row) (eqb-true _ _ t.0) in
        let a = ltb-true _ _ u.0 in
        let l = leb-true _ _ u.1 in
        record {
          start = opener it e;
          end = e;
          pair = pair_to k e d h (ap (λ (y : Coded). (about y).closes) closes);
          row = m.row;
          after = a;
          before = m.before;
          entry = x.0;
          in_tail = l;
          short = x.1;
          latest = λ q p s o.
              wide-entry (it q) o
              (λ z.
              let g = total-up is_entry it m.row q (omega arith) in
              true_false
              (let w : (is_short (it q) && (ltb (opener it e) q && leb (entries it e) (entries it q + 11))) ≡ true =
              rw (z, lt-ltb (opener it e) q (omega arith), le-leb (entries it e) (entries it q + 11) (omega arith)) refl in w)
              (m.after q (omega arith) (omega arith)));
          detail = refl;
        }

    tail-told : Promised (when_found (short_one it e) (λ q. LoopTailNotFullWidth (address it q)))
    tail-told =
        let t : ℕ → Bool = λ q. is_short (it q) && is_in_tail it e q in
        ⊎_elim
        (λ z. subst (λ (f : Found). Promised (when_found f (λ q. LoopTailNotFullWidth (address it q)))) (sym (newest-none t e z)) good)
        (λ m. subst (λ (f : Found). Promised (when_found f (λ q. LoopTailNotFullWidth (address it q)))) (sym (newest-is t e m)) (record { detail = λ s. latest-short m }))
        (latest-row t e)

  -- ---- each refusal
  holds : Holds k Promised
  holds =
      record {
        good = good;
        reads = λ v h. others reading v refl h;
        codes = λ v h. others encoding v refl h;
        loops = λ v h. others loop_numbers v refl h;
        branch = another BranchInLoop refl;
        label = λ i a b e. (another (LabelInLoop a b) refl, another (DuplicateLabel a b) refl);
        undefined = λ i c a b e. another (UndefinedLabel a b) refl;
        unmatched = another UnmatchedLoopEnd refl;
        empty = another EmptyLoop refl;
        shared = another SharedLoopEnd refl;
        tail = λ e h z d. tail-told e z h d;
        unclosed = another UnclosedLoop refl;
        parcels-room = λ m. another (NoRoomForParcels m) refl;
        labels-room = λ m. another (NoRoomForLabels m) refl;
        jumps-room = λ m. another (NoRoomForJumps m) refl;
        loops-room = λ m. another (NoRoomForLoops m) refl;
      }

  -- so of the verdict on its rows
  pub verdict-short : (lent : Lent) → ((i : ℕ) → Tells reading (read_verdict (it i))) → ((i : ℕ) → Tells encoding (encodes (it i))) → Detail (checked (verdict k (rooms_of_lent lent)))
  verdict-short lent reads codes = (verdict-holds k lent Promised holds reads codes).detail

  answer-told : (row : ℕ) (v : Verdict) (count : ℕ) → Promised v → Detail (answered (answer_in row v count))
  answer-told row (Ok _) count p = λ e. absurd (omega arith)
  answer-told row (Err w) count p = p.detail

-- THE THEOREM: where a build tells 26, its detail is the parcel of the latest short one of a body's last 11
pub short-told : (rows names : List ℕ) (lent : Lent) (t : Told) (x : Lent) → Builds rows names lent t x → t.number ≡ 26 → LatestShort (kernel_of rows names) t.first
short-told rows names lent t x b =
    let k = kernel_of rows names in
    build-holds rows names lent (Promised k) (holds k) (another k RowSlice refl) (Detail k) (answer-told k) t x b
