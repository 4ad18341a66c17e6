-- A list's refusal is 1, which names no row, or that of its first row at fault.
use mathlib.Core.Path.{◌≡◌, refl, sym, ap, ◌∙◌, subst}
use mathlib.Core.Logic.{◌⊎◌, inl, inr, ⊎_elim}
use mathlib.Core.Bool.{Bool, true, false, true≢false, not}
use mathlib.Core.List.{List, [], ◌∷◌}
use Prim.Native.Nat.{ℕ}
use native.Mathlib.Omega.{arith}
use lib.ListN.{length}
use borrow.Author.Tests.{eq-eqb}
use Rattle.refusals.specs.declared.Refusal.{Refusal}
use Rattle.refusals.specs.declared.Refusal.TheVariants.{RowSlice}
use Rattle.std.specs.Prelude.{Ok, Err}
use Rattle.refusals.specs.Answers.{Verdict, Judged}
use Rattle.coded.specs.Coded.{Coded}
use Rattle.refusals.specs.declared.Told.{Told}
use Rattle.refusals.specs.Numbers.{alone, told_of, answer_of, answered, among}
use Rattle.refusals.specs.Order.{when, said_of_row, first_in, foremost, FirstAt}
use Rattle.refusals.proofs.Numbered.{checked}
use Rattle.refusals.proofs.Order.{refused-good, last_one, first-at, foremost-here, foremost-on}
use Rattle.rows.specs.Rows.{well_formed}
use Rattle.places.specs.Items.{row_at, row_count, total}
use Rattle.counts.specs.declared.Counting.{Counting}
use Rattle.counts.specs.Counts.{row_verdict, amount, list_judged, Counts}
use Rattle.counts.specs.WhichRow.{NamesFirst, NamesRow}
use Rattle.counts.proofs.Numbers.{row, row_not_one}

-- ---- of two, the refusal is the first's, or the second's where the first is good
module _ (a b : Judged) {why : Refusal} (e : (foremost (a ∷ b ∷ [])).verdict ≡ Err why) where
  abbrev Which : Type 0
  Which = ((a.verdict ≡ Err why) × (foremost (a ∷ b ∷ []) ≡ a)) ⊎ ((a.verdict ≡ Ok tt) × (b.verdict ≡ Err why) × (foremost (a ∷ b ∷ []) ≡ b))

  which-by : (v : Verdict) → a.verdict ≡ v → Which
  which-by (Err r) h = inl (h ∙ (rw h at e), foremost-here a (b ∷ []) h)
  which-by (Ok _) h = let q = sym (last_one b.verdict) ∙ (rw h at e) in inr (h, q, foremost-on a (b ∷ []) h ∙ foremost-here b [] q)

  pub which : Which
  which = which-by a.verdict refl

-- ---- the row of a list's refusal
pub when-refused : (t : Bool) (r : Refusal) {why : Refusal} → when t r ≡ Err why → r ≡ why
when-refused true r e = cc
when-refused false r {why} e = absurd (refused-good why (sym e))

module _ (f : Coded → Verdict) (rows names : List ℕ) where
  abbrev listed : Judged
  listed = list_judged f rows names

  pub listed-row : {why : Refusal} → listed.verdict ≡ Err why → (listed ≡ said_of_row 0 (Err RowSlice)) ⊎ FirstAt (row f rows names) (row_count rows) why listed.row
  listed-row {why} e =
      ⊎_elim (λ w. inl (w.1 ∙ ap (said_of_row 0) (w.0 ∙ ap Err (sym (when-refused (not (well_formed (length rows))) RowSlice w.0)))))
      (λ w. inr (subst (λ (j : Judged). FirstAt (row f rows names) (row_count rows) why j.row) (sym w.2) (first-at (row f rows names) (row_count rows) w.1)))
      (which (said_of_row 0 (when (not (well_formed (length rows))) RowSlice)) (first_in (row f rows names) (row_count rows)) e)

  -- what is told then: 0, or 1 and no row, or the first row at fault
  abbrev pub Says : Told → Type 0
  Says told = (told.number ≡ 0) ⊎ ((told ≡ alone 1) ⊎ NamesFirst (row f rows names) (row_count rows) told)

  says-by : (n : ℕ) (v : Verdict) → listed.verdict ≡ v → Says (answered (answer_of listed n))
  says-by n (Ok _) e = inl (rw e)
  says-by n (Err why) e =
      ⊎_elim (λ j. inr (inl (ap (λ (j : Judged). answered (answer_of j n)) j)))
      (λ w. inr (inr (record { row = listed.row; why = why; first = w; said = rw e })))
      (listed-row e)

  pub listed-says : (n : ℕ) → Says (answered (answer_of listed n))
  listed-says n = says-by n listed.verdict refl

-- ---- a number that no row is refused for is not told of one
pub names-other : {f : ℕ → Verdict} {n : ℕ} {told : Told} (m : ℕ) → ((i : ℕ) → among (m ∷ []) (checked (f i)).number ≡ false) → NamesFirst f n told → told.number ≡ m → ⊥
names-other m none w e =
    let q : (told_of w.why).number ≡ m = sym (ap (λ (t : Told). t.number) w.said) ∙ e in
    true≢false (rw (w.first.refused, eq-eqb (told_of w.why).number m q) at (none w.row))

-- ---- THE THEOREM
module _ (what : Counting) (rows names : List ℕ) {told : Told} (c : Counts what rows names told) where
  says : Says (row_verdict what) rows names told
  says = subst (Says (row_verdict what) rows names) (sym c) (listed-says (row_verdict what) rows names (total (amount what) (row_at rows names) (row_count rows)))

  pub count_names_row : NamesRow (λ i. row_verdict what (row_at rows names i)) (row_count rows) told
  count_names_row = record {
    none = λ e. ⊎_elim (λ z. absurd (omega arith)) (⊎_elim (λ q. q) (λ w. absurd (names-other 1 (row_not_one what rows names) w e))) says;
    named = λ z o. ⊎_elim (λ e. absurd (z e)) (⊎_elim (λ q. absurd (o (ap (λ (t : Told). t.number) q))) (λ w. w)) says;
  }
