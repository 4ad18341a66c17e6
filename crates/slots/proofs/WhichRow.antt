-- A refusal is the list's or, where every row is read, that of the first jump whose slots are broken.
use mathlib.Core.Path.{◌≡◌, refl, sym, ap, ◌∙◌, subst}
use mathlib.Core.Logic.{◌⊎◌, inl, inr, ⊎_elim}
use mathlib.Core.Bool.{true, false, ◌&&◌, not}
use mathlib.Core.List.{List, [], ◌∷◌}
use Prim.Native.Nat.{ℕ, ◌+◌}
use native.Mathlib.Omega.{arith}
use lib.ListN.{drop}
use Rattle.refusals.specs.declared.Refusal.{Refusal}
use Rattle.refusals.specs.declared.Refusal.TheVariants.{BrokenSlot}
use Rattle.std.specs.Prelude.{Ok, Err}
use Rattle.refusals.specs.Answers.{Verdict, Judged}
use Rattle.refusals.specs.declared.Told.{Told}
use Rattle.refusals.specs.Numbers.{told_of, in_row, answer_of, answered, among}
use Rattle.refusals.specs.Calls.{reading}
use Rattle.refusals.specs.Order.{first_in}
use Rattle.refusals.proofs.Numbered.{checked}
use Rattle.refusals.proofs.Order.{first-at}
use Rattle.refusals.proofs.Within.{none, other}
use Rattle.coded.specs.Coded.{read_verdict}
use Rattle.places.specs.Items.{row_at, row_count}
use Rattle.counts.specs.Counts.{list_judged, Passes}
use Rattle.counts.specs.WhichRow.{NamesFirst}
use Rattle.counts.proofs.Numbers.{passes-good, read-tells}
use Rattle.counts.proofs.WhichRow.{which, when-refused, Says, listed-says, names-other}
use Rattle.slots.specs.Slots.{opens, items, unlabelled, filled, slot_verdict, slot_check_of, Checks}
use Rattle.slots.specs.WhichRow.{NamesRow}

module _ (rows names : List ℕ) where
  abbrev slot : ℕ → Verdict
  slot i = slot_verdict (row_at rows names) (row_count rows) i

  abbrev OfJump : Told → Type 0
  OfJump told = Passes read_verdict rows names × NamesFirst slot (row_count rows) told

  abbrev judged : Judged
  judged = slot_check_of rows names

  said-by : (v : Verdict) → judged.verdict ≡ v → Says read_verdict rows names (answered (answer_of judged 0)) ⊎ OfJump (answered (answer_of judged 0))
  said-by (Ok _) e = inl (inl (rw e))
  said-by (Err why) e =
      ⊎_elim (λ w. inl (subst (λ (j : Judged). Says read_verdict rows names (answered (answer_of j 0))) (sym w.1) (listed-says read_verdict rows names 0)))
      (λ w. inr (
        (passes-good read_verdict rows names).0 w.0,
        subst (λ (j : Judged). NamesFirst slot (row_count rows) (answered (answer_of j 0))) (sym w.2)
            (record { row = (first_in slot (row_count rows)).row; why = why; first = first-at slot (row_count rows) w.1; said = rw w.1 }),
      ))
      (which (list_judged read_verdict rows names) (first_in slot (row_count rows)) e)

  -- ---- a row refusal is neither 1 nor 33, and a jump's is 33 with its row
  read-other : (m : ℕ) → none (0 ∷ reading) (m ∷ []) ≡ true → (i : ℕ) → among (m ∷ []) (checked (read_verdict (row_at rows names i))).number ≡ false
  read-other m h i = other (0 ∷ reading) (m ∷ []) (checked (read_verdict (row_at rows names i))).number h (read-tells rows names i reading refl)

  jump-said : {told : Told} (w : NamesFirst slot (row_count rows) told) → told ≡ in_row w.row (told_of (BrokenSlot w.row))
  jump-said w =
      let b = opens (row_at rows names w.row) && not (filled (unlabelled (drop (w.row + 1) (items (row_at rows names) (row_count rows))))) in
      w.said ∙ ap (λ (r : Refusal). in_row w.row (told_of r)) (sym (when-refused b (BrokenSlot w.row) w.first.refused))

  -- ---- THE THEOREM
  module _ {told : Told} (c : Checks rows names told) where
    says : Says read_verdict rows names told ⊎ OfJump told
    says = subst (λ (t : Told). Says read_verdict rows names t ⊎ OfJump t) (sym c) (said-by judged.verdict refl)

    abbrev number : Told → ℕ
    number t = t.number

    by_33 : told.number ≡ 33 → OfJump told
    by_33 e =
        ⊎_elim (⊎_elim (λ z. absurd (omega arith)) (⊎_elim (λ q. absurd (let o = ap number q in omega arith)) (λ w. absurd (names-other 33 (read-other 33 refl) w e))))
        (λ w. w) says

    pub slot_check_names_row : NamesRow rows names told
    slot_check_names_row = record {
      none = λ e.
          ⊎_elim (⊎_elim (λ z. absurd (omega arith)) (⊎_elim (λ q. q) (λ w. absurd (names-other 1 (read-other 1 refl) w e))))
          (λ w. absurd (let o = ap number (jump-said w.1) in omega arith)) says;
      row = λ z o t.
          ⊎_elim (⊎_elim (λ e. absurd (z e)) (⊎_elim (λ q. absurd (o (ap number q))) (λ w. w)))
          (λ w. absurd (t (ap number (jump-said w.1)))) says;
      jump = by_33;
      twice = λ e. let s = jump-said (by_33 e).1 in ap (λ (t : Told). t.third) s ∙ sym (ap (λ (t : Told). t.first) s);
    }
