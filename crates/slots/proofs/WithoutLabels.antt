-- A well-formed list passes the slot check exactly where the list without its labels does.
use mathlib.Core.Path.{◌≡◌, refl, sym, ap₂, ◌∙◌, subst}
use mathlib.Core.Logic.{◌↔◌}
use mathlib.Core.Bool.{Bool, true, false, cond}
use mathlib.Core.List.{List, [], ◌∷◌, ◌++◌, append-nil}
use Prim.Native.Nat.{ℕ, zero, suc, ◌+◌, ◌*◌, ◌%◌, ◌≤◌, ◌<◌}
use native.Mathlib.Omega.{arith}
use native.Mathlib.Numerals.{add-one}
use borrow.Author.Tests.{eq-eqb, le-leb}
use lib.ListN.{length, take, drop, length-append, length-drop}
use lib.Seq.{length-take-le}
use Rattle.refusals.specs.declared.Refusal.TheVariants.{BrokenSlot}
use Rattle.refusals.specs.declared.Told.{Told}
use Rattle.rows.specs.Rows.{row_width, most_rows, well_formed}
use Rattle.rows.proofs.Limit.{rows_few}
use Rattle.std.specs.Prelude.{Ok}
use Rattle.coded.specs.Coded.{Coded}
use Rattle.items.specs.declared.Item.TheVariants.{LoopEnd}
use Rattle.places.specs.Items.{row_at, row_count}
use Rattle.places.specs.Left.{gather}
use Rattle.refusals.proofs.Order.{when-good, good-when}
use Rattle.slots.specs.Slots.{items, label, unlabelled, Filled, Checks}
use Rattle.slots.specs.WithoutLabels.{without_labels}
use Rattle.slots.proofs.Items.{items-length, items_at, items_of, one-item, items-joined}
use Rattle.slots.proofs.Labels.{unlabelled-joined, Sound, Fine, fine-at, at-fine, fine-unlabelled}
use Rattle.slots.proofs.Numbers.{check_zero}

-- ---- a list passes exactly where its items are fine
module _ (rows names : List ℕ) where
  abbrev it : ℕ → Coded
  it = row_at rows names

  abbrev xs : List Coded
  xs = items_of rows names

  filled-fine : Filled rows names → Fine xs
  filled-fine f =
      at-fine (Ok LoopEnd) xs
      (λ k h.
      let l : k < row_count rows = rw items-length at h in
      rw (items_at it (row_count rows) k l, ← add-one k) (f.passes.each k l, when-good _ (BrokenSlot k) (f.slots k l)))

  fine-filled : well_formed (length rows) ≡ true → Fine xs → Filled rows names
  fine-filled w f =
      let at : (k : ℕ) → k < row_count rows → Sound (it k) (drop (k + 1) xs) = λ k l. rw (items_at it (row_count rows) k l, ← add-one k) at (fine-at (Ok LoopEnd) xs f k (rw items-length l)) in
      record { passes = record { formed = w; each = λ k l. (at k l).0 }; slots = λ k l. good-when _ (BrokenSlot k) (at k l).1 }

whole-formed : (n rows : ℕ) → n ≡ rows * row_width → rows ≤ most_rows → well_formed n ≡ true
whole-formed n rows e h = rw (eq-eqb (n % row_width) 0 (omega arith), le-leb n (most_rows * row_width) (omega arith))

-- ---- what is kept of the first k rows
module _ (rows names : List ℕ) where
  abbrev cut : ℕ → List ℕ
  cut i = take row_width (drop (i * row_width) rows)

  abbrev part : ℕ → List ℕ
  part i = cond (label (row_at rows names i)) [] (cut i)

  record Kept (k : ℕ) (kept : List ℕ) : Type 0 where
    count : ℕ
    few : count ≤ k
    whole : length kept ≡ count * row_width
    same : items_of kept names ≡ unlabelled (items (row_at rows names) k)

  cut-length : (k : ℕ) → k < row_count rows → length (cut k) ≡ row_width
  cut-length k l = length-take-le row_width (drop (k * row_width) rows) (rw length-drop (omega arith))

  one_more : (k : ℕ) → unlabelled (items (row_at rows names) (suc k)) ≡ unlabelled (items (row_at rows names) k) ++ cond (label (row_at rows names k)) [] (row_at rows names k ∷ [])
  one_more k = unlabelled-joined (items (row_at rows names) k) (row_at rows names k ∷ [])

  next : (k : ℕ) → k < row_count rows → {old : List ℕ} → Kept k old → Kept (suc k) (old ++ part k)
  next k l {old} s = go (label (row_at rows names k)) refl
    where
      go : (b : Bool) → label (row_at rows names k) ≡ b → Kept (suc k) (old ++ cond b [] (cut k))
      go true e =
          rw append-nil
          (record { count = s.count; few = omega arith; whole = s.whole; same = s.same ∙ sym (one_more k ∙ rw (e, append-nil)) })
      go false e =
          record {
            count = s.count + 1;
            few = omega arith;
            whole = length-append old (cut k) ∙ (let w : length old + length (cut k) ≡ (s.count + 1) * row_width = omega (arith, cut-length k l) in w);
            same =
                items-joined names old (cut k) s.count s.whole ∙ ap₂ ◌++◌ s.same (one-item names (cut k) (cut-length k l))
                ∙ sym (one_more k ∙ rw e);
          }

  kept : (k : ℕ) → k ≤ row_count rows → Kept k (gather part k)
  kept zero h = record { count = 0; few = omega arith; whole = refl; same = refl }
  kept (suc k) h = next k (omega arith) (kept k (omega arith))

  all-kept : Kept (row_count rows) (without_labels rows names)
  all-kept = kept (row_count rows) (omega arith)

  -- ---- THE THEOREM
  module _ (w : well_formed (length rows) ≡ true) where
    pub still_formed : well_formed (length (without_labels rows names)) ≡ true
    still_formed = let k = all-kept in whole-formed (length (without_labels rows names)) k.count k.whole (omega (arith, k.few, rows_few (length rows) w))

    pub passes_without_labels : {told other : Told} → Checks rows names told → Checks (without_labels rows names) names other → (told.number ≡ 0) ↔ (other.number ≡ 0)
    passes_without_labels c d =
        let here = check_zero rows names c in
        let there = check_zero (without_labels rows names) names d in
        let strip = fine-unlabelled (items_of rows names) in
        let same = all-kept.same in (
          (λ z. there.1 (fine-filled (without_labels rows names) names still_formed (subst Fine (sym same) (strip.0 (filled-fine rows names (here.0 z)))))),
          (λ z. here.1 (fine-filled rows names w (strip.1 (subst Fine same (filled-fine (without_labels rows names) names (there.0 z)))))),
        )
