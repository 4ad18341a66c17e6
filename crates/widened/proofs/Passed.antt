-- Where a build tells 26, a row in a tail that passed does not take three parcels: the rows up to the one that it names are a list of their own.
use Prim.Native.Nat.{ℕ, suc, ◌≤◌}
use native.Mathlib.Omega.{arith}
use mathlib.Core.Path.{◌≡◌, refl, sym, ap, ◌∙◌}
use mathlib.Core.Logic.{⊎_elim}
use mathlib.Core.Bool.{Bool, true, false}
use mathlib.Core.List.{List}
use lib.IntN.{ℤ}
use lib.ListN.{length}
use Rattle.refusals.specs.declared.Told.{Told}
use Rattle.refusals.specs.declared.Refusal.{Refusal}
use Rattle.std.specs.Prelude.{Ok, Err}
use Rattle.refusals.specs.Answers.{Verdict}
use Rattle.refusals.specs.Numbers.{told_of}
use Rattle.refusals.specs.Order.{first_of, FirstAt}
use Rattle.refusals.proofs.Numbered.{checked}
use Rattle.refusals.proofs.Order.{stop-first}
use Rattle.rows.specs.Rows.{well_formed}
use Rattle.coded.proofs.Numbers.{row-tells, encodes-tells}
use Rattle.places.specs.Items.{Kernel, kernel, kernel_of}
use Rattle.places.specs.Verdict.{verdict_at, verdict}
use Rattle.places.specs.Left.{Lent, rooms_of_lent, Builds}
use Rattle.rules.specs.Rules.{Pair}
use Rattle.rules.specs.Short.{LatestShort}
use Rattle.rules.specs.WhichRow.{RowsPass}
use Rattle.rules.proofs.Short.{verdict-short, short-told}
use Rattle.rules.proofs.WhichRow.{build_names_none, build_names_row}
use Rattle.widening.specs.Widening.{row_of}

module _ (k : Kernel) (lent : Lent) where
  open k use {it, n}

  -- the latest short one of a body's last 11 passes
  pub record ShortPasses : Type 0 where
    pub detail : ℤ
    pub short : LatestShort k detail
    pub passes : verdict_at k (rooms_of_lent lent) short.row ≡ Ok tt

  -- where every row passes
  all_pass : RowsPass k (rooms_of_lent lent) → {z : ℤ} → LatestShort k z → ShortPasses
  all_pass all {z} s =
      let h = s.pair.before_end in
      let u = s.before in
      record { detail = z; short = s; passes = all s.row (omega arith) }

  -- the first m rows
  abbrev up_to : ℕ → Kernel
  up_to m = kernel k.names it m

  up-pair : {m b e : ℕ} → m ≤ n → Pair (up_to m) b e → Pair k b e
  up-pair h p =
      let l = p.before_end in
      record { count = p.count; mode = p.mode; opens = p.opens; closes = p.closes; order = p.order; before_end = omega arith; level = p.level; deep = p.deep }

  abbrev up-short : {m : ℕ} {z : ℤ} → m ≤ n → LatestShort (up_to m) z → LatestShort k z
  up-short h s =
      record {
        start = s.start;
        end = s.end;
        pair = up-pair h s.pair;
        row = s.row;
        after = s.after;
        before = s.before;
        entry = s.entry;
        in_tail = s.in_tail;
        short = s.short;
        latest = s.latest;
        detail = s.detail;
      }

  -- where every row before this one passes
  module _ {why : Refusal} {row : ℕ} (f : FirstAt (verdict_at k (rooms_of_lent lent)) n why row) where
    first-told : verdict (up_to (suc row)) (rooms_of_lent lent) ≡ Err why
    first-told =
        let e : first_of (verdict_at k (rooms_of_lent lent)) (suc row) ≡ Err why =
        stop-first (verdict_at k (rooms_of_lent lent)) (suc row) (record { row = row; why = why; before = omega arith; fails = f.refused; earlier = f.earlier }) in
        rw e

    first_passes : {z : ℤ} → LatestShort (up_to (suc row)) z → ShortPasses
    first_passes {z} s =
        let h = s.pair.before_end in
        let u = s.before in
        record { detail = z; short = up-short f.within s; passes = f.earlier s.row (omega arith) }

-- THE THEOREM of what a 26 is about
module _ (rows names : List ℕ) (lent : Lent) (t : Told) (x : Lent) (b : Builds rows names lent t x) (e : t.number ≡ 26) where
  abbrev k : Kernel
  k = kernel_of rows names

  all_told : RowsPass k (rooms_of_lent lent) → ShortPasses k lent
  all_told all = all_pass k lent all (short-told rows names lent t x b e)

  first_short : {why : Refusal} {row : ℕ} → (told_of why).number ≡ 26 → FirstAt (verdict_at k (rooms_of_lent lent)) k.n why row → ShortPasses k lent
  first_short {why} {row} m f =
      first_passes k lent f
      (verdict-short (up_to k lent (suc row)) lent (λ i. row-tells (row_of rows i) (length names)) (λ i. encodes-tells (row_of rows i) (length names))
      (ap (λ (v : Verdict). (checked v).number) (first-told k lent f) ∙ m))

  pub tells_short_passed : ShortPasses k lent
  tells_short_passed = go (well_formed (length rows)) refl
    where
      go : (w : Bool) → well_formed (length rows) ≡ w → ShortPasses k lent
      go false w = absurd (let h = ap (λ (s : Told). s.number) (build_names_none rows names lent t x b w) in omega arith)
      go true w =
          let n = build_names_row rows names lent t x b w (λ z. omega arith) in
          ⊎_elim (first_short (sym (ap (λ (s : Told). s.number) n.told) ∙ e)) (⊎_elim (λ p. all_told p.0) (λ p. all_told p.0)) n.is
