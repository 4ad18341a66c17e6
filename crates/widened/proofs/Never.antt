-- The build of a widened list tells no 26: the short row that it would name passed, so it encodes, so it was changed, so it is not short.
use Prim.Native.Nat.{ℕ, ◌<◌}
use native.Mathlib.Omega.{arith}
use mathlib.Core.Path.{◌≡◌, refl, sym, ap, ◌∙◌}
use mathlib.Core.Bool.{Bool, true, false}
use mathlib.Core.List.{List}
use Rattle.refusals.specs.declared.Told.{Told}
use Rattle.std.specs.Prelude.{Ok, Err}
use Rattle.coded.specs.Coded.{Coded, read_verdict, encodes}
use Rattle.items.specs.declared.Item.TheVariants.{Instruction, Label, Jump, LoopBegin, LoopEnd}
use Rattle.places.specs.declared.Rooms.{Rooms}
use Rattle.places.specs.Items.{Kernel, kernel_of, row_at, row_count, size, is_entry}
use Rattle.places.specs.Verdict.{verdict_at}
use Rattle.places.specs.Left.{Lent, rooms_of_lent, Builds}
use Rattle.counts.specs.Counts.{Passes}
use Rattle.prefixes.proofs.Tests.{true_false}
use Rattle.prefixes.proofs.Passing.{passed}
use Rattle.widening.specs.declared.ToldWidened.{ToldWidened}
use Rattle.widening.specs.Widening.{changes, Widens}
use Rattle.widened.specs.Tails.{InTail, OnlyTwinsShort}
use Rattle.widened.specs.Widened.{widened_rows}
use Rattle.widened.proofs.Alike.{alike-back, entries-alike, pair-alike}
use Rattle.widened.proofs.Changes.{wide_rows, wide-count, changed-width, stays-item, wide-alike}
use Rattle.widened.proofs.Tails.{changes-exactly}
use Rattle.widened.proofs.Twice.{passes, widened_is}
use Rattle.widened.proofs.Passed.{ShortPasses, tells_short_passed}

-- a row that passes encodes
passing-encodes : (k : Kernel) (r : Rooms) (i : ℕ) → verdict_at k r i ≡ Ok tt → encodes (k.it i) ≡ Ok tt
passing-encodes k r i g = go (k.it i) refl
  where
    go : (x : Coded) → k.it i ≡ x → encodes x ≡ Ok tt
    go (Ok (Instruction c)) e = (passed k r i g (Ok (Instruction c)) e).1.0
    go (Ok (Label a b)) e = refl
    go (Ok (Jump c a b)) e = refl
    go (Ok (LoopBegin c m)) e = refl
    go (Ok LoopEnd) e = refl
    go (Err w) e = refl

module _ (rows names : List ℕ) (read : Passes read_verdict rows names) (only : OnlyTwinsShort rows names) (lent : Lent) where
  abbrev wide : List ℕ
  wide = wide_rows rows names read

  module _ (s : ShortPasses (kernel_of wide names) lent) where
    abbrev q : ℕ
    q = s.short.row

    within : q < row_count rows
    within = let e = wide-count rows names read in let h = s.short.pair.before_end in let u = s.short.before in omega arith

    -- a changed row takes three parcels
    was_changed : changes rows names q ≡ true → ⊥
    was_changed c = s.short.short (changed-width rows names read q within c).full

    -- one that was not changed would have been
    was_not : changes rows names q ≡ false → ⊥
    was_not c =
        let same = stays-item rows names read q within c in
        let alike = alike-back (wide-alike rows names read) in
        let E = entries-alike (row_at wide names) (row_at rows names) alike in
        let tail : InTail (kernel_of rows names) q =
        record {
          start = s.short.start;
          end = s.short.end;
          pair = pair-alike (kernel_of wide names) (kernel_of rows names) alike (wide-count rows names read) s.short.start s.short.end s.short.pair;
          after = s.short.after;
          before = s.short.before;
          near = rw (E s.short.end, E q) at s.short.in_tail;
        } in
        let good : encodes (row_at rows names q) ≡ Ok tt = sym (ap encodes same) ∙ passing-encodes (kernel_of wide names) (rooms_of_lent lent) q s.passes in
        true_false
        ((changes-exactly rows names q).1
        (record {
          paired = only.paired;
          in_tail = tail;
          kind_has_twin = only.twin_or_full q tail (sym (ap is_entry same) ∙ s.short.entry) good (λ e. s.short.short (ap size same ∙ e));
          row_encodes = good;
        }))
        c

    no_short : ⊥
    no_short = go (changes rows names q) refl
      where
        go : (b : Bool) → changes rows names q ≡ b → ⊥
        go true c = was_changed c
        go false c = was_not c

-- THE THEOREM: where loops pair and only kinds with a twin are short in the tails, no build of what was widened tells 26
pub widened_never_tells_26 :
    (rows names copy list : List ℕ) {t : ToldWidened} {copy' list' : List ℕ} → Widens rows names copy list t copy' list' → t.number ≡ 0 → OnlyTwinsShort rows names →
    (lent : Lent) (told : Told) (left : Lent) → Builds (widened_rows rows copy') names lent told left → told.number ≡ 26 → ⊥
widened_never_tells_26 rows names copy list w z only lent told left b e =
    let r = passes rows names copy list w z in
    no_short rows names r only lent (tells_short_passed (wide_rows rows names r) names lent told left (rw (widened_is rows names copy list w z) at b) e)
