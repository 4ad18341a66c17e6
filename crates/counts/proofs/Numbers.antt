-- What a count tells: 0 exactly where the list is well formed and every row passes; else 1, or what a row is refused for.
use mathlib.Core.Path.{◌≡◌, refl, sym, ap, ◌∙◌, subst}
use mathlib.Core.Bool.{Bool, true, false, true≢false, not}
use mathlib.Core.List.{List, [], ◌∷◌, ◌++◌}
use mathlib.Core.Logic.{◌↔◌}
use Prim.Native.Nat.{ℕ, ◌*◌}
use lib.ListN.{length, take, drop}
use Rattle.refusals.specs.declared.Refusal.TheVariants.{RowSlice}
use Rattle.std.specs.Prelude.{Ok}
use Rattle.refusals.specs.Answers.{Verdict, Judged}
use Rattle.coded.specs.Coded.{Coded, read_verdict, encodes}
use Rattle.refusals.specs.declared.Told.{Told}
use Rattle.refusals.specs.Numbers.{among}
use Rattle.refusals.specs.Calls.{reading, encoding, numbers_of, Listed}
use Rattle.refusals.specs.Order.{when, or_else, first_of}
use Rattle.refusals.proofs.Numbered.{checked, answers_zero}
use Rattle.refusals.proofs.Within.{Tells, tells-when, tells-or_else, tells-first_of, part, tells-wider, none, other}
use Rattle.refusals.proofs.Calls.{answer-listed}
use Rattle.rows.specs.Rows.{row_width, well_formed}
use Rattle.coded.proofs.Numbers.{row-tells, encodes-tells}
use Rattle.places.specs.Items.{row_at, row_count, total}
use Rattle.refusals.proofs.Order.{or_else-good, when-good, last_one, first-all, all_first}
use Rattle.counts.specs.declared.Counting.{Counting}
use Rattle.counts.specs.declared.Counting.TheVariants.{Parcels, Instructions}
use Rattle.counts.specs.Counts.{row_verdict, amount, list_judged, Passes, Counts, call_for}

-- ---- the list's verdict is good exactly where the list is well formed and every row passes
not_true : (b : Bool) → not b ≡ false → b ≡ true
not_true true e = refl
not_true false e = absurd (true≢false e)

module _ (f : Coded → Verdict) (rows names : List ℕ) where
  abbrev pub row : ℕ → Verdict
  row i = f (row_at rows names i)

  -- without its row it is "1; then rows in turn"
  pub listed-verdict : (list_judged f rows names).verdict ≡ or_else (when (not (well_formed (length rows))) RowSlice) (first_of row (row_count rows))
  listed-verdict = ap (λ (v : Verdict). or_else (when (not (well_formed (length rows))) RowSlice) v) (last_one (first_of row (row_count rows)))

  pub passes-good : ((list_judged f rows names).verdict ≡ Ok tt) ↔ Passes f rows names
  passes-good = (
    (λ e.
        let g = or_else-good (when (not (well_formed (length rows))) RowSlice) (first_of row (row_count rows)) (sym listed-verdict ∙ e) in
        record { formed = not_true _ (when-good (not (well_formed (length rows))) RowSlice g.0); each = first-all row (row_count rows) g.1 }),
    (λ p. listed-verdict ∙ rw p.formed (all_first row (row_count rows) p.each)),
  )

  pub list_tells : (ns : List ℕ) → Tells ns (when true RowSlice) → ((i : ℕ) → Tells ns (row i)) → Tells ns (list_judged f rows names).verdict
  list_tells ns one h =
      subst (Tells ns) (sym listed-verdict)
      (tells-or_else ns (when (not (well_formed (length rows))) RowSlice) _ (tells-when ns (not (well_formed (length rows))) RowSlice one) (tells-first_of ns row (row_count rows) h))

-- ---- row i
-- what a row is refused for
abbrev row_numbers : Counting → List ℕ
row_numbers Parcels = reading ++ encoding
row_numbers Instructions = reading

module _ (rows names : List ℕ) (i : ℕ) where
  abbrev cells : List ℕ
  cells = take row_width (drop (i * row_width) rows)

  pub read-tells : (ns : List ℕ) → part (0 ∷ reading) (0 ∷ ns) ≡ true → Tells ns (read_verdict (row_at rows names i))
  read-tells ns p = tells-wider reading ns (read_verdict (row_at rows names i)) p (row-tells cells (length names))

  row_verdict_tells : (what : Counting) → Tells (row_numbers what) (row_verdict what (row_at rows names i))
  row_verdict_tells Parcels =
      tells-or_else (row_numbers Parcels) (read_verdict (row_at rows names i)) (encodes (row_at rows names i)) (read-tells (row_numbers Parcels) refl)
      (tells-wider encoding (row_numbers Parcels) (encodes (row_at rows names i)) refl (encodes-tells cells (length names)))
  row_verdict_tells Instructions = read-tells (row_numbers Instructions) refl

-- what a list is refused for
record Numbered (what : Counting) : Type 0 where
  one : Tells (numbers_of (call_for what)) (when true RowSlice)
  rows : part (0 ∷ row_numbers what) (0 ∷ numbers_of (call_for what)) ≡ true
  not_one : none (0 ∷ row_numbers what) (1 ∷ []) ≡ true

numbered : (what : Counting) → Numbered what
numbered Parcels = record { one = refl; rows = refl; not_one = refl }
numbered Instructions = record { one = refl; rows = refl; not_one = refl }

-- no row is refused for 1
pub row_not_one : (what : Counting) (rows names : List ℕ) (i : ℕ) → among (1 ∷ []) (checked (row_verdict what (row_at rows names i))).number ≡ false
row_not_one what rows names i = other (0 ∷ row_numbers what) (1 ∷ []) (checked (row_verdict what (row_at rows names i))).number (numbered what).not_one (row_verdict_tells rows names i what)

-- ---- THE THEOREMS
module _ (what : Counting) (rows names : List ℕ) {told : Told} (c : Counts what rows names told) where
  abbrev judged : Judged
  judged = list_judged (row_verdict what) rows names

  abbrev sum : ℕ
  sum = total (amount what) (row_at rows names) (row_count rows)

  pub count_zero : (told.number ≡ 0) ↔ Passes (row_verdict what) rows names
  count_zero =
      let z = answers_zero judged.row judged.verdict sum in
      let p = passes-good (row_verdict what) rows names in
      let e = ap (λ (t : Told). t.number) c in
      ((λ h. p.0 (z.0 (sym e ∙ h))), (λ h. e ∙ z.1 (p.1 h)))

  pub count-numbers : Listed (call_for what) told.number
  count-numbers =
      answer-listed (call_for what) judged.row judged.verdict sum c
      (list_tells (row_verdict what) rows names (numbers_of (call_for what)) (numbered what).one
      (λ i. tells-wider (row_numbers what) (numbers_of (call_for what)) (row_verdict what (row_at rows names i)) (numbered what).rows (row_verdict_tells rows names i what)))
