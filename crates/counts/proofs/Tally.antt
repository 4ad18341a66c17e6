-- After i rows, all of them good, the count is their sum.
use mathlib.Core.Path.{◌≡◌, refl, sym, ap, ◌∙◌}
use mathlib.Core.Bool.{Bool, true, false, cond}
use Prim.Native.Nat.{ℕ, ◌+◌, ◌*◌, ◌≤◌, ◌<◌}
use native.Mathlib.Omega.{arith}
use native.Mathlib.Numerals.{add-one}
use borrow.Author.Count.{below_more}
use lib.Dec.{eqb}
use Rattle.std.specs.Prelude.{Ok, Err}
use Rattle.refusals.specs.declared.Refused.{Refused}
use Rattle.refusals.specs.Numbers.{answer_in}
use Rattle.refusals.specs.Answers.{Verdict}
use Rattle.coded.specs.Coded.{Coded}
use Rattle.refusals.specs.Order.{first_of, passing}
use Rattle.encode.proofs.Sizes.{form-few}
use Rattle.items.specs.declared.Item.TheVariants as coded
use Rattle.places.specs.Items.{total}
use Rattle.refusals.proofs.Order.{refused-accepted, AllPass, StopsAt, all_first, stop-first, stop-passing}
use Rattle.counts.specs.declared.Counting.{Counting}
use Rattle.counts.specs.declared.Counting.TheVariants.{Parcels, Instructions}
use Rattle.counts.specs.Counts.{row_verdict, amount}

issued-few : (t : Bool) → cond t 4 1 ≤ 6
issued-few true = omega arith
issued-few false = omega arith

amount-few : (what : Counting) (x : Coded) → amount what x ≤ 6
amount-few Parcels (Ok (coded.Instruction y)) = form-few y.form
amount-few Parcels (Ok (coded.Label a b)) = omega arith
amount-few Parcels (Ok (coded.Jump c a b)) = omega arith
amount-few Parcels (Ok (coded.LoopBegin c m)) = omega arith
amount-few Parcels (Ok coded.LoopEnd) = omega arith
amount-few Parcels (Err r) = omega arith
amount-few Instructions (Ok (coded.Instruction y)) = issued-few (eqb y.kind.number 31)
amount-few Instructions (Ok (coded.Label a b)) = omega arith
amount-few Instructions (Ok (coded.Jump c a b)) = omega arith
amount-few Instructions (Ok (coded.LoopBegin c m)) = omega arith
amount-few Instructions (Ok coded.LoopEnd) = omega arith
amount-few Instructions (Err r) = omega arith

-- what an answer says of the verdict
pub answer-good : (row : ℕ) (v : Verdict) (m : ℕ) {k : ℕ} → answer_in row v m ≡ Ok k → (v ≡ Ok tt) × (k ≡ m)
answer-good row (Ok _) m e = (refl, cc)
answer-good row (Err r) m {k} e = absurd (refused-accepted _ k e)

answer-refused : (row : ℕ) (v : Verdict) (m : ℕ) {e : Refused} → answer_in row v m ≡ Err e → (v ≡ Err e.why) × (e.row ≡ row)
answer-refused row (Ok _) m {e} q = absurd (refused-accepted e m (sym q))
answer-refused row (Err r) m {e} q =
    let z : record { why = r; row = row } ≡ e = cc in
    (ap (λ (e : Refused). let v : Verdict = Err e.why in v) z, sym (ap (λ (e : Refused). e.row) z))

-- a row's verdict
abbrev pub row : Counting → (ℕ → Coded) → ℕ → Verdict
row what it k = row_verdict what (it k)

-- what holds after i rows
pub record Tallying (what : Counting) (it : ℕ → Coded) (n i count : ℕ) : Type 0 where
  pub few : n ≤ 4194304
  pub within : i ≤ n
  pub good : AllPass (row what it) i
  pub here : count ≡ total (amount what) it i
  pub small : count ≤ 6 * i

module _ {what : Counting} {it : ℕ → Coded} {n i count : ℕ} (g : Tallying what it n i count) where
  module _ (l : i < n) where
    pub tally_next : {k : ℕ} → answer_in i (row what it i) (amount what (it i)) ≡ Ok k → Tallying what it n (i + 1) (count + k)
    tally_next e =
        let q = answer-good i (row what it i) (amount what (it i)) e in
        record {
          few = g.few;
          within = omega arith;
          good = below_more (λ (k : ℕ). row what it k ≡ Ok tt) i g.good q.0;
          here = rw (add-one i, ← g.here, ← q.1);
          small = omega (arith, q.1, amount-few what (it i), g.small);
        }

    pub tally_fits : {k : ℕ} → answer_in i (row what it i) (amount what (it i)) ≡ Ok k → count + k < 4294967296
    tally_fits e = omega (arith, (tally_next e).small, g.few)

    pub tally_stop :
        {e : Refused} → answer_in i (row what it i) (amount what (it i)) ≡ Err e → (first_of (row what it) n ≡ Err e.why) × (passing (row what it) n ≡ e.row)
    tally_stop {e} h =
        let q = answer-refused i (row what it i) (amount what (it i)) h in
        let s : StopsAt (row what it) n = record { row = i; why = e.why; before = l; fails = q.0; earlier = g.good } in
        (stop-first (row what it) n s, stop-passing (row what it) n s ∙ sym q.1)

  pub tally_end : n ≤ i → (first_of (row what it) n ≡ Ok tt) × (count ≡ total (amount what) it n)
  tally_end h =
      let e : i ≡ n = omega (arith, g.within) in
      (all_first (row what it) n (λ k l. g.good k (omega arith)), g.here ∙ ap (λ (k : ℕ). total (amount what) it k) e)
