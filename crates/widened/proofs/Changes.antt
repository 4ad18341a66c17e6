-- Row by row: a changed row keeps what it moves, and each row of the copy counts for what the given row counts for.
use Prim.Native.Nat.{ℕ, ◌*◌, ◌/◌, ◌≤◌, ◌<◌}
use native.Mathlib.Omega.{arith}
use mathlib.Core.Path.{◌≡◌, refl, sym, ap, ◌∙◌, subst}
use mathlib.Core.Logic.{⊎_elim}
use mathlib.Core.Bool.{Bool, true, false}
use mathlib.Core.List.{List, [], ◌++◌, append-nil}
use lib.ListN.{length}
use Rattle.std.specs.Prelude.{Ok, Err, Result}
use Rattle.items.specs.declared.Item.{Item}
use Rattle.items.specs.declared.VisaInstruction.{VisaInstruction}
use Rattle.refusals.specs.declared.Refusal.{Refusal}
use Rattle.coded.specs.Coded.{Coded, coded_of, read_verdict}
use Rattle.refusals.proofs.Order.{refused-good}
use Rattle.encode.specs.Encoding.{parcels_of}
use Rattle.rows.specs.Rows.{row_width, read_of}
use Rattle.places.specs.Items.{row_at, row_count, about, size, is_entry}
use Rattle.places.specs.Left.{gather}
use Rattle.counts.specs.Counts.{Passes}
use Rattle.prefixes.proofs.Tests.{order}
use Rattle.prefixes.proofs.Looking.{pick_true, pick_false}
use Rattle.widening.specs.Widening.{twin, row_of, changes, copied}
use Rattle.widening.proofs.Writing.{copied-whole}
use Rattle.widened.specs.Moves.{KeepsMove}
use Rattle.widened.proofs.Twins.{twin-keeps}
use Rattle.widened.proofs.Tails.{changes-exactly}
use Rattle.widened.proofs.Alike.{Alike}
use Rattle.widened.proofs.Rows.{rows_whole, no_row, gather-length, gather-rows}

-- a row that is not refused is read
readable : (r : Result (Item VisaInstruction) Refusal) → read_verdict (coded_of r) ≡ Ok tt → (x : Item VisaInstruction) × (r ≡ Ok x)
readable (Ok x) e = (x, refl)
readable (Err w) e = absurd (refused-good w e)

module _ (rows names : List ℕ) (passes : Passes read_verdict rows names) where
  -- the rows of the copy
  abbrev pub wide_rows : List ℕ
  wide_rows = gather (copied rows names) (row_count rows)

  -- THE THEOREM of a changed row
  pub changed-keeps : (i : ℕ) → i < row_count rows → changes rows names i ≡ true → KeepsMove (row_of rows i) (twin (row_of rows i)) (length names)
  changed-keeps i h c =
      let w = (changes-exactly rows names i).0 c in
      let r = readable (read_of (row_of rows i) (length names)) (passes.each i h) in
      twin-keeps (row_of rows i) (length names) r.0 r.1 w.kind_has_twin w.row_encodes

  pub copied-twin : (i : ℕ) → changes rows names i ≡ true → copied rows names i ≡ twin (row_of rows i)
  copied-twin i c = pick_true (changes rows names i) (twin (row_of rows i)) (row_of rows i) c

  pub copied_self : (i : ℕ) → changes rows names i ≡ false → copied rows names i ≡ row_of rows i
  copied_self i c = pick_false (changes rows names i) (twin (row_of rows i)) (row_of rows i) c

  pub whole : length rows ≡ row_count rows * row_width
  whole = rows_whole rows passes.formed

  pub wide-length : length wide_rows ≡ length rows
  wide-length = gather-length (copied rows names) row_width (row_count rows) (copied-whole rows names) ∙ sym whole

  pub wide-count : row_count wide_rows ≡ row_count rows
  wide-count = ap (λ (n : ℕ). n / row_width) wide-length

  -- row i of the copy, whatever stands behind
  pub copy-row : (rest : List ℕ) (i : ℕ) → i < row_count rows → row_of (wide_rows ++ rest) i ≡ copied rows names i
  copy-row rest i h = gather-rows (copied rows names) (row_count rows) rest (copied-whole rows names) i h

  pub wide_row : (i : ℕ) → i < row_count rows → row_of wide_rows i ≡ copied rows names i
  wide_row i h = subst (λ (l : List ℕ). row_of l i ≡ copied rows names i) (append-nil wide_rows) (copy-row [] i h)

  pub no_wide_row : (i : ℕ) → row_count rows ≤ i → row_of wide_rows i ≡ []
  no_wide_row i h = no_row wide_rows i (let e = wide-length in let w = whole in omega arith)

  -- what a row that stays comes to
  abbrev comes : List ℕ → Coded
  comes row = coded_of (read_of row (length names))

  pub stays-item : (i : ℕ) → i < row_count rows → changes rows names i ≡ false → row_at wide_rows names i ≡ row_at rows names i
  stays-item i h c = ap comes (wide_row i h ∙ copied_self i c)

  past-item : (i : ℕ) → row_count rows ≤ i → row_at wide_rows names i ≡ row_at rows names i
  past-item i h = ap comes (no_wide_row i h ∙ sym (no_row rows i (let w = whole in omega arith)))

  -- ---- both count alike
  abbrev Counts : Coded → Coded → Type 0
  Counts x y = (is_entry x ≡ is_entry y) × ((about x).opens ≡ (about y).opens) × ((about x).closes ≡ (about y).closes)

  same-counts : {x y : Coded} → x ≡ y → Counts y x
  same-counts e = (sym (ap is_entry e), sym (ap (λ (z : Coded). (about z).opens) e), sym (ap (λ (z : Coded). (about z).closes) e))

  -- a changed row is an instruction of one parcel or two, its twin one of three
  pub record Width (i : ℕ) : Type 0 where
    pub entry : is_entry (row_at rows names i) ≡ 1
    pub short : size (row_at rows names i) < 3
    pub full : size (row_at wide_rows names i) ≡ 3

  pub changed-width : (i : ℕ) → i < row_count rows → changes rows names i ≡ true → Width i
  unfolding parcels_of
  changed-width i h c =
      let k = changed-keeps i h c in
      record {
        entry = rw k.is_before refl;
        short = rw k.is_before k.short;
        full = rw (ap comes (wide_row i h ∙ copied-twin i c), k.is_after) k.full;
      }

  changed-counts : (i : ℕ) → i < row_count rows → changes rows names i ≡ true → Counts (row_at rows names i) (row_at wide_rows names i)
  changed-counts i h c =
      let k = changed-keeps i h c in
      rw (ap comes (wide_row i h ∙ copied-twin i c), k.is_before, k.is_after) (refl, refl, refl)

  each_counts : (i : ℕ) → Counts (row_at rows names i) (row_at wide_rows names i)
  each_counts i = ⊎_elim (λ h. go h (changes rows names i) refl) (λ h. same-counts (past-item i h)) (order i (row_count rows))
    where
      go : i < row_count rows → (b : Bool) → changes rows names i ≡ b → Counts (row_at rows names i) (row_at wide_rows names i)
      go h true c = changed-counts i h c
      go h false c = same-counts (stays-item i h c)

  pub wide-alike : Alike (row_at rows names) (row_at wide_rows names)
  wide-alike = record { entry = λ i. (each_counts i).0; opens = λ i. (each_counts i).1; closes = λ i. (each_counts i).2 }

  -- every row of the copy is read
  pub wide-passes : Passes read_verdict wide_rows names
  wide-passes = record { formed = rw wide-length passes.formed; each = λ i h. go i (rw (sym wide-count) h) (changes rows names i) refl }
    where
      go : (i : ℕ) → i < row_count rows → (b : Bool) → changes rows names i ≡ b → read_verdict (row_at wide_rows names i) ≡ Ok tt
      go i h true c = let k = changed-keeps i h c in rw (ap comes (wide_row i h ∙ copied-twin i c), k.is_after) refl
      go i h false c = rw (stays-item i h c) (passes.each i h)
