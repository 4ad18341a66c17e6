-- What a build accepts, the parcel count counts alike: a row that the build takes in is read and encodes.
use mathlib.Core.Path.{◌≡◌, refl, sym, ap, ◌∙◌}
use mathlib.Core.Bool.{Bool, true, false}
use mathlib.Core.List.{List}
use Prim.Native.Nat.{ℕ}
use lib.ListN.{length}
use Rattle.std.specs.Prelude.{Ok, Err}
use Rattle.coded.specs.Coded.{Coded}
use Rattle.refusals.specs.declared.Refusal.TheVariants.{RowSlice}
use Rattle.refusals.specs.declared.Told.{Told}
use Rattle.refusals.specs.Numbers.{answer_of, answered}
use Rattle.refusals.specs.Order.{first, first_of}
use Rattle.refusals.proofs.Numbered.{zero_accepts}
use Rattle.rows.specs.Rows.{well_formed}
use Rattle.items.specs.declared.Item.TheVariants as coded
use Rattle.places.specs.declared.Rooms.{Rooms}
use Rattle.places.specs.Items.{Kernel, kernel_of, row_at, row_count, place}
use Rattle.places.specs.Verdict.{faults, verdict_at, judgement, verdict}
use Rattle.places.specs.Left.{Lent, rooms_of_lent, build_of, Builds}
use Rattle.counts.proofs.Tally.{answer-good}
use Rattle.refusals.proofs.Order.{refused-accepted, or_else-good, first_good, first-all, all_first}
use Rattle.counts.specs.declared.Counting.TheVariants.{Parcels}
use Rattle.counts.specs.Counts.{row_verdict, count_of, Counts}

module _ (k : Kernel) (r : Rooms) where
  taken-encodes : (i : ℕ) (x : Coded) → first (faults k r i x) ≡ Ok tt → row_verdict Parcels x ≡ Ok tt
  taken-encodes i (Ok (coded.Instruction y)) e = (first_good (faults k r i (Ok (coded.Instruction y))) e).1.0
  taken-encodes i (Ok (coded.Label a b)) e = refl
  taken-encodes i (Ok (coded.Jump c a b)) e = refl
  taken-encodes i (Ok (coded.LoopBegin c m)) e = refl
  taken-encodes i (Ok coded.LoopEnd) e = refl
  taken-encodes i (Err why) e = (first_good (faults k r i (Err why)) e).0

  -- a good verdict of the build's leaves every row good
  rows-good : verdict k r ≡ Ok tt → first_of (λ i. row_verdict Parcels (k.it i)) k.n ≡ Ok tt
  rows-good e =
      let all = first-all (verdict_at k r) k.n (or_else-good (first_of (verdict_at k r) k.n) _ e).0 in
      all_first (λ i. row_verdict Parcels (k.it i)) k.n (λ i h. taken-encodes i (k.it i) (all i h))

module _ (rows names : List ℕ) (lent : Lent) where
  pub verdict_agrees : well_formed (length rows) ≡ true → verdict (kernel_of rows names) (rooms_of_lent lent) ≡ Ok tt → count_of Parcels rows names ≡ Ok (place (row_at rows names) (row_count rows))
  verdict_agrees w e = rw (w, rows-good (kernel_of rows names) (rooms_of_lent lent) e)

  by-test : (w : Bool) → well_formed (length rows) ≡ w → {n : ℕ} → (build_of rows names lent).answer ≡ Ok n → count_of Parcels rows names ≡ Ok n
  by-test true w {n} e =
      let j = judgement (kernel_of rows names) (rooms_of_lent lent) in
      let m = place (row_at rows names) (row_count rows) in
      let q : answer_of j m ≡ Ok n = rw w at e in
      let g = answer-good j.row j.verdict m q in
      verdict_agrees w g.0 ∙ ap Ok (sym g.1)
  by-test false w {n} e = let q : Err (record { why = RowSlice; row = 0 }) ≡ Ok n = rw w at e in absurd (refused-accepted _ n q)

  -- the count of an accepted build is the parcel count
  pub count_agrees : {n : ℕ} → (build_of rows names lent).answer ≡ Ok n → count_of Parcels rows names ≡ Ok n
  count_agrees e = by-test (well_formed (length rows)) refl e

  -- what a build tells with number 0, the parcel count tells too
  pub told_agrees : {told : Told} {left : Lent} → Builds rows names lent told left → told.number ≡ 0 → Counts Parcels rows names told
  told_agrees b z =
      let a = zero_accepts (build_of rows names lent).answer (sym (ap (λ (t : Told). t.number) b.answer) ∙ z) in
      b.answer ∙ ap answered (a.1 ∙ sym (count_agrees a.1))
