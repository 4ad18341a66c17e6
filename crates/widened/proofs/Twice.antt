-- A second widening changes nothing: a twin has no twin, and a row that stayed stays, for the copy's rows count for what the given rows count for.
use Prim.Native.Nat.{ℕ, ◌≤◌, ◌<◌}
use mathlib.Core.Path.{◌≡◌, refl, sym, ap, ◌∙◌}
use mathlib.Core.Logic.{◌↔◌, ⊎_elim}
use mathlib.Core.Bool.{Bool, true, false, cond, ◌&&◌}
use mathlib.Core.List.{List}
use lib.ListN.{length}
use lib.Seq.{take_at}
use Rattle.refusals.specs.Order.{if_good}
use Rattle.coded.specs.Coded.{read_verdict, encodes}
use Rattle.places.specs.Items.{kernel_of, row_count}
use Rattle.counts.specs.Counts.{Passes}
use Rattle.prefixes.proofs.Tests.{true_false, not_so, order}
use Rattle.widening.specs.declared.ToldWidened.{ToldWidened}
use Rattle.widening.specs.Widening.{has_twin, pairs, tailed, row_of, changes, copy_room, Widens}
use Rattle.widening.proofs.Numbers.{widen_zero, widened-copy}
use Rattle.widened.specs.Widened.{Unchanged, widened_rows}
use Rattle.widened.proofs.Twins.{twin_has_none}
use Rattle.widened.proofs.Tails.{changes-exactly}
use Rattle.widened.proofs.Alike.{alike-back, pairs-alike, tailed-alike}
use Rattle.widened.proofs.Changes.{wide_rows, copied-twin, copied_self, wide-length, wide-count, wide_row, no_wide_row, stays-item, wide-alike, wide-passes}
use Rattle.widened.proofs.Unchanged.{zero_exactly_with_room, none-changed, paired_is}

-- a row without a twin is not changed
no-twin : (rows names : List ℕ) (i : ℕ) → has_twin (row_of rows i) ≡ false → changes rows names i ≡ false
no-twin rows names i h = not_so (changes rows names i) (λ c. true_false ((changes-exactly rows names i).0 c).kind_has_twin h)

module _ (rows names : List ℕ) (passes : Passes read_verdict rows names) where
  abbrev wide : List ℕ
  wide = wide_rows rows names passes

  pub same_pairing : pairs (kernel_of wide names) ≡ pairs (kernel_of rows names)
  same_pairing = pairs-alike (kernel_of wide names) (kernel_of rows names) (alike-back (wide-alike rows names passes)) (wide-count rows names passes)

  same_tails : (i : ℕ) → tailed (kernel_of wide names) i ≡ tailed (kernel_of rows names) i
  same_tails = tailed-alike (kernel_of wide names) (kernel_of rows names) (alike-back (wide-alike rows names passes)) (wide-count rows names passes)

  stays-again : (i : ℕ) → i < row_count rows → changes rows names i ≡ false → changes wide names i ≡ changes rows names i
  stays-again i h c = λ j.
      same_pairing j
      && (has_twin ((wide_row rows names passes i h ∙ copied_self rows names passes i c) j)
      && (if_good (encodes (stays-item rows names passes i h c j)) true false && same_tails i j))

  -- THE THEOREM of its own output
  pub widened_has_no_change : (i : ℕ) → changes wide names i ≡ false
  widened_has_no_change i =
      ⊎_elim (λ h. go h (changes rows names i) refl) (λ h. no-twin wide names i (ap has_twin (no_wide_row rows names passes i h))) (order i (row_count rows))
    where
      go : i < row_count rows → (b : Bool) → changes rows names i ≡ b → changes wide names i ≡ false
      go h true c =
          no-twin wide names i
          (ap has_twin (wide_row rows names passes i h ∙ copied-twin rows names passes i c) ∙ twin_has_none (row_of rows i) ((changes-exactly rows names i).0 c).kind_has_twin)
      go h false c = stays-again i h c ∙ c

-- ---- of an accepted widening
module _ (rows names copy list : List ℕ) {t : ToldWidened} {copy' list' : List ℕ} (w : Widens rows names copy list t copy' list') (z : t.number ≡ 0) where
  abbrev pub passes : Passes read_verdict rows names
  passes = ((widen_zero rows names copy list w).0 z).passes

  pub widened_is : widened_rows rows copy' ≡ wide_rows rows names passes
  widened_is = rw (widened-copy rows names copy list w z) (take_at (wide_rows rows names passes) _ (length rows) (wide-length rows names passes))

  -- every row of the output is read
  pub widened-passes : Passes read_verdict (widened_rows rows copy') names
  widened-passes = rw widened_is (wide-passes rows names passes)

  -- THE THEOREMS: widened again, if there is room for the copy, it comes back as it is, and loops pair as before
  module _ (copy₂ list₂ : List ℕ) {t₂ : ToldWidened} {copy₂' list₂' : List ℕ} (v : Widens (widened_rows rows copy') names copy₂ list₂ t₂ copy₂' list₂') where
    no_change : (i : ℕ) → i < row_count (widened_rows rows copy') → changes (widened_rows rows copy') names i ≡ false
    no_change i h = rw widened_is (widened_has_no_change rows names passes i)

    pub widened_again_exactly_with_room : (t₂.number ≡ 0) ↔ (row_count (widened_rows rows copy') ≤ copy_room copy₂)
    widened_again_exactly_with_room = zero_exactly_with_room (widened_rows rows copy') names copy₂ list₂ v no_change widened-passes

    pub widened_again_unchanged : t₂.number ≡ 0 → Unchanged (widened_rows rows copy') copy₂ list₂ t₂ copy₂' list₂' × (t₂.paired ≡ t.paired)
    widened_again_unchanged y = (
      none-changed (widened_rows rows copy') names copy₂ list₂ v no_change y,
      paired_is (widened_rows rows copy') names copy₂ list₂ v y
          ∙ ap (λ (x : List ℕ). cond (pairs (kernel_of x names)) 1 0) widened_is
          ∙ ap (λ (b : Bool). cond b 1 0) (same_pairing rows names passes)
          ∙ sym (paired_is rows names copy list w z),
    )
