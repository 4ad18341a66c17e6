-- What widening tells: 0 exactly where every row is read and both rooms suffice, with what is then left; else 1, a row refusal, or 36.
use mathlib.Core.Path.{◌≡◌, refl, sym, ap, ◌∙◌}
use mathlib.Core.Logic.{◌↔◌}
use mathlib.Core.Bool.{Bool}
use mathlib.Core.List.{List, [], ◌∷◌, ◌++◌}
use Prim.Native.Nat.{ℕ, ◌*◌, ◌≤◌}
use native.Mathlib.Omega.{arith}
use lib.Dec.{ltb}
use lib.ListN.{length, drop}
use borrow.Author.Tests.{ltb-false, le-ltb}
use Rattle.refusals.specs.declared.Refusal.TheVariants.{NoRoomForRows}
use Rattle.std.specs.Prelude.{Ok, Err}
use Rattle.refusals.specs.Answers.{Verdict, Judged}
use Rattle.refusals.specs.Numbers.{among}
use Rattle.refusals.specs.Calls.{widen, numbers_of, Listed}
use Rattle.refusals.specs.Order.{when}
use Rattle.refusals.proofs.Numbered.{checked, zero_good}
use Rattle.refusals.proofs.Within.{tells-when, tells_first}
use Rattle.refusals.proofs.Order.{when-good, good-when, first_good, good-first}
use Rattle.rows.specs.Rows.{row_width}
use Rattle.coded.specs.Coded.{read_verdict}
use Rattle.places.specs.Items.{kernel_of, row_count}
use Rattle.places.specs.Left.{gather}
use Rattle.counts.specs.Counts.{list_judged}
use Rattle.counts.proofs.Numbers.{passes-good, list_tells, read-tells}
use Rattle.widening.specs.declared.ToldWidened.{ToldWidened}
use Rattle.widening.specs.Widening.{pairs, copied, listed, changed, change_width, copy_room, list_room, widen_judged, widened_in, told_widened, laid, Widens, Fits}

module _ (rows names copy list : List ℕ) where
  abbrev pub judged : Judged
  judged = widen_judged rows names copy list

  -- the three that are asked in turn
  abbrev asked : List Verdict
  asked =
      (list_judged read_verdict rows names).verdict
      ∷ when (ltb (copy_room copy) (row_count rows)) (NoRoomForRows (copy_room copy))
      ∷ when (ltb (list_room list) (changed rows names)) (NoRoomForRows (list_room list))
      ∷ []

  pub widen_good : (judged.verdict ≡ Ok tt) ↔ Fits rows names copy list
  widen_good =
      let p = passes-good read_verdict rows names in (
        (λ e.
            let g = first_good asked e in
            record { passes = p.0 g.0; copy_fits = ltb-false _ _ (when-good _ _ g.1.0); list_fits = ltb-false _ _ (when-good _ _ g.1.1.0) }),
        (λ f.
            good-first asked (p.1 f.passes, (good-when _ _ (le-ltb _ _ f.copy_fits), (good-when _ _ (le-ltb _ _ f.list_fits), tt)))),
      )

  abbrev widen_numbers : List ℕ
  widen_numbers = numbers_of widen

  -- the number is the verdict's
  number_in : (row : ℕ) (v : Verdict) (n : ℕ) (paired : Bool) → (told_widened (widened_in row v n paired)).number ≡ (checked v).number
  number_in row (Ok _) n paired = refl
  number_in row (Err r) n paired = refl

  -- ---- THE THEOREMS
  module _ {t : ToldWidened} {c l : List ℕ} (w : Widens rows names copy list t c l) where
    number_is : t.number ≡ (checked judged.verdict).number
    number_is = ap (λ (t : ToldWidened). t.number) w.answer ∙ number_in judged.row judged.verdict (changed rows names) (pairs (kernel_of rows names))

    pub widen_zero : (t.number ≡ 0) ↔ Fits rows names copy list
    widen_zero = (
      (λ e. widen_good.0 (zero_good judged.verdict (sym number_is ∙ e))),
      (λ f. number_is ∙ ap (λ (v : Verdict). (checked v).number) (widen_good.1 f)),
    )

    pub widen-numbers : Listed widen t.number
    widen-numbers =
        ap (among (0 ∷ widen_numbers)) number_is
        ∙ tells_first widen_numbers asked (
          list_tells read_verdict rows names widen_numbers refl (λ i. read-tells rows names i widen_numbers refl),
          (
            tells-when widen_numbers (ltb (copy_room copy) (row_count rows)) (NoRoomForRows (copy_room copy)) refl,
            (tells-when widen_numbers (ltb (list_room list) (changed rows names)) (NoRoomForRows (list_room list)) refl, tt),
          ),
        )

    -- what is told and left where the number is 0
    module _ (z : t.number ≡ 0) where
      good : judged.verdict ≡ Ok tt
      good = widen_good.1 (widen_zero.0 z)

      pub widened-told : t ≡ told_widened (Ok (record { changes = changed rows names; paired = pairs (kernel_of rows names) }))
      widened-told = w.answer ∙ ap (λ (v : Verdict). told_widened (widened_in judged.row v (changed rows names) (pairs (kernel_of rows names)))) good

      pub widened-copy : c ≡ gather (copied rows names) (row_count rows) ++ drop (length (gather (copied rows names) (row_count rows))) copy
      widened-copy = w.copy_left ∙ ap (λ (v : Verdict). laid v (gather (copied rows names) (row_count rows)) copy) good

      pub widened-list : l ≡ gather (listed rows names) (row_count rows) ++ drop (length (gather (listed rows names) (row_count rows))) list
      widened-list = w.list_left ∙ ap (λ (v : Verdict). laid v (gather (listed rows names) (row_count rows)) list) good

      pub widened-fits : (row_count rows * row_width ≤ length copy) × (change_width * t.changes ≤ length list)
      widened-fits =
          let f = widen_zero.0 z in
          let c = ap (λ (t : ToldWidened). t.changes) widened-told in
          (omega (arith, f.copy_fits), omega (arith, f.list_fits))

    -- "nothing is written in any refusal"
    pub refused_writes_nothing : (t.number ≡ 0 → ⊥) → (c ≡ copy) × (l ≡ list)
    refused_writes_nothing some = go judged.verdict refl
      where
        go : (v : Verdict) → judged.verdict ≡ v → (c ≡ copy) × (l ≡ list)
        go (Ok _) e = absurd (some (number_is ∙ ap (λ (v : Verdict). (checked v).number) e))
        go (Err r) e = (w.copy_left ∙ rw e, w.list_left ∙ rw e)
