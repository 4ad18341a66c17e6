-- What the slot check tells: 0 exactly where every row is read and the slots of every jump are filled; else 1, a row refusal, or 33.
use mathlib.Core.Path.{◌≡◌, refl, sym, ap, ap₂, ◌∙◌}
use mathlib.Core.Bool.{◌&&◌, not}
use mathlib.Core.List.{List, [], ◌∷◌}
use mathlib.Core.Logic.{◌↔◌}
use Prim.Native.Nat.{ℕ, ◌+◌}
use lib.ListN.{length, drop}
use Rattle.refusals.specs.declared.Refusal.TheVariants.{RowSlice, BrokenSlot}
use Rattle.std.specs.Prelude.{Ok}
use Rattle.refusals.specs.Answers.{Verdict}
use Rattle.refusals.specs.declared.Told.{Told}
use Rattle.refusals.specs.Calls.{slot_check, numbers_of, Listed}
use Rattle.refusals.specs.Order.{when, or_else, first_of}
use Rattle.refusals.proofs.Numbered.{answers_zero}
use Rattle.refusals.proofs.Within.{Tells, tells-when, tells_first, tells-first_of}
use Rattle.refusals.proofs.Calls.{answer-listed}
use Rattle.rows.specs.Rows.{well_formed}
use Rattle.coded.specs.Coded.{read_verdict}
use Rattle.places.specs.Items.{row_at, row_count}
use Rattle.refusals.proofs.Order.{or_else-good, good-or_else, last_one, first-all, all_first}
use Rattle.counts.specs.Counts.{list_judged}
use Rattle.counts.proofs.Numbers.{listed-verdict, passes-good, list_tells, read-tells}
use Rattle.slots.specs.Slots.{opens, items, unlabelled, filled, slot_verdict, slot_check_of, Filled, Checks}

module _ (rows names : List ℕ) where
  abbrev slot : ℕ → Verdict
  slot i = slot_verdict (row_at rows names) (row_count rows) i

  -- without its row it is "1, then the first row refusal, then 33 for the first such jump"
  pub checked-verdict :
      (slot_check_of rows names).verdict
      ≡ or_else (or_else (when (not (well_formed (length rows))) RowSlice) (first_of (λ i. read_verdict (row_at rows names i)) (row_count rows))) (first_of slot (row_count rows))
  checked-verdict = ap₂ or_else (listed-verdict read_verdict rows names) (last_one (first_of slot (row_count rows)))

  check-good : ((slot_check_of rows names).verdict ≡ Ok tt) ↔ Filled rows names
  check-good =
      let p = passes-good read_verdict rows names in
      let read = (list_judged read_verdict rows names).verdict in (
        (λ e.
            let g = or_else-good read (or_else (first_of slot (row_count rows)) (Ok tt)) e in
            record { passes = p.0 g.0; slots = first-all slot (row_count rows) (sym (last_one (first_of slot (row_count rows))) ∙ g.1) }),
        (λ f. good-or_else read (or_else (first_of slot (row_count rows)) (Ok tt)) (p.1 f.passes) (last_one (first_of slot (row_count rows)) ∙ all_first slot (row_count rows) f.slots)),
      )

  abbrev slot_numbers : List ℕ
  slot_numbers = numbers_of slot_check

  slot-tells : (i : ℕ) → Tells slot_numbers (slot i)
  slot-tells i = tells-when slot_numbers (opens (row_at rows names i) && not (filled (unlabelled (drop (i + 1) (items (row_at rows names) (row_count rows)))))) (BrokenSlot i) refl

  -- ---- THE THEOREMS
  module _ {told : Told} (c : Checks rows names told) where
    pub check_zero : (told.number ≡ 0) ↔ Filled rows names
    check_zero =
        let z = answers_zero (slot_check_of rows names).row (slot_check_of rows names).verdict 0 in
        let e = ap (λ (t : Told). t.number) c in
        ((λ h. check-good.0 (z.0 (sym e ∙ h))), (λ h. e ∙ z.1 (check-good.1 h)))

    pub check-numbers : Listed slot_check told.number
    check-numbers =
        answer-listed slot_check (slot_check_of rows names).row (slot_check_of rows names).verdict 0 c
        (tells_first slot_numbers ((list_judged read_verdict rows names).verdict ∷ first_of slot (row_count rows) ∷ [])
        (list_tells read_verdict rows names slot_numbers refl (λ i. read-tells rows names i slot_numbers refl), (tells-first_of slot_numbers slot (row_count rows) slot-tells, tt)))
