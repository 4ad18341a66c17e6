-- Rows that are seen at a glance are rows that pass: a run of them is as many rows on.
use mathlib.Core.Path.{◌≡◌, refl, sym, ap, ◌∙◌}
use mathlib.Core.Bool.{Bool, true, false, cond, ◌&&◌}
use mathlib.Core.List.{List}
use Prim.Native.Nat.{ℕ, zero, suc, ◌+◌, ◌≤◌}
use native.Mathlib.Omega.{arith}
use lib.ListN.{length}
use lib.Dec.{eqb, ltb}
use lib.Seq.{sets, length-sets}
use borrow.Author.Tests.{le-ltb, ne_eqb}
use Rattle.std.specs.Prelude.{Ok, Result}
use Rattle.refusals.specs.Answers.{Verdict}
use Rattle.encode.specs.declared.Form.{Form}
use Rattle.refusals.specs.declared.Refusal.{Refusal}
use Rattle.items.specs.Kinds.{is_branch}
use Rattle.encode.specs.Encoding.{form_parcels, form_verdict}
use Rattle.encode.proofs.Sizes.{form-few, form-some}
use Rattle.coded.specs.declared.Coding.{Coding}
use Rattle.coded.specs.Coded.{coding_of, coded_of}
use Rattle.places.specs.declared.OpenLoop.{OpenLoop}
use Rattle.places.specs.declared.Rooms.{Rooms}
use Rattle.places.specs.Items.{Kernel, kernel_of, size_of}
use Rattle.places.specs.Left.{Lent}
use Rattle.checks.specs.Checks.{instruction_chk}
use Rattle.checks.proofs.Passed.{instruction-good}
use Rattle.runs.specs.declared.Run.{Run}
use Rattle.runs.specs.Runs.{took, Ran, Runs}
use Rattle.machine.specs.declared.State.{State}
use Rattle.machine.specs.Machine.{advanced, with_parcels, Fine}
use Rattle.taking.specs.declared.Taking.{Taking}
use Rattle.taking.specs.Taking.{run_of, after_run, Went, Skimmed}

-- ---- a row that is seen passes its checks
-- a branch stands in no loop
bars : (b : Bool) (depth : ℕ) → (eqb depth 0 ≡ false → b ≡ false) → (b && ltb 0 depth) ≡ false
bars true zero h = refl
bars true (suc d) h = let z : ◌≡◌ {A = Bool} (eqb (suc d) 0) false = ne_eqb (suc d) 0 (λ e. omega arith) in let w : ◌≡◌ {A = Bool} true false = h z in let y : ◌≡◌ {A = ℕ} 0 1 = cc in absurd (omega arith)
bars false depth h = refl

passes : (r : Rooms) (at depth : ℕ) (c : Coding) → (is_branch c.kind && ltb 0 depth) ≡ false → form_verdict c.form ≡ Ok tt → at + 6 ≤ r.parcels → instruction_chk r at depth c ≡ Ok tt
passes r at depth c b v h = rw (b, v, le-ltb r.parcels (at + size_of c.form) (omega (arith, h, form-few c.form)))

module _ (rows names : List ℕ) (r : Rooms) (t : Taking) (good : t.verdict ≡ Ok tt) (p : List ℕ) where
  back : after_run t (run_of t) ≡ t
  back = ap (λ (v : Verdict). record { state = t.state; row = t.row; verdict = v }) (sym good)

  ran-went : (n : ℕ) (x : Run) (q : List ℕ) → Ran rows r.parcels (eqb t.state.depth 0) (run_of t) p n x q → Went (kernel_of rows names) r t p n (after_run t x) q
  ran-went zero x q (e, d) = (ap (after_run t) e ∙ back, d)
  ran-went (suc n) x q h =
      let k = h.taken in
      let c = coding_of k.seen.instruction in
      record {
        y = after_run t h.x;
        p = h.p;
        before = ran-went n h.x h.p h.before;
        coding = c;
        row_is = ap coded_of (k.seen.reads (length names));
        passes = passes r h.x.at t.state.depth c (bars (is_branch c.kind) t.state.depth k.stays) (ap form_verdict k.seen.encodes ∙ k.encodes) k.roomy;
        left = k.left;
        on = ap (after_run t) k.on ∙ ap (λ (f : Result Form Refusal). after_run t (took (size_of f) h.x)) (sym k.seen.encodes);
        parcels = k.parcels ∙ ap (λ (f : Result Form Refusal). sets h.p h.x.at (form_parcels f)) (sym k.seen.encodes);
      }

  pub skimmed-by : {x : Run} {q : List ℕ} → Runs rows r.parcels (eqb t.state.depth 0) (run_of t) p x q → Skimmed (kernel_of rows names) r t p (after_run t x) q
  skimmed-by {x} {q} h = record { rows_taken = h.rows_taken; went = ran-went h.rows_taken x q h.ran }

-- ---- what a row leans on is kept
pick_most : (t : Bool) (a b c : ℕ) → a ≤ c → b ≤ c → cond t a b ≤ c
pick_most true a b c p q = p
pick_most false a b c p q = q

fine-on : {ns : List ℕ} {r : Rooms} {s : State} {lent : Lent} {top : OpenLoop} (v : Coding) → Fine ns r s lent top → instruction_chk r s.at s.depth v ≡ Ok tt
    → Fine ns r (advanced (size_of v.form) s) (with_parcels lent (sets lent.parcels s.at (form_parcels v.form))) top
fine-on {ns} {r} {s} {lent} {top} v f e =
    let c = instruction-good r s.at s.depth v e in
    let some = form-some v.form c.encodes in
    let b = eqb (size_of v.form) 3 in
    let short = pick_most b s.short (s.count + 1) (s.count + 1) (omega arith) (omega arith) in
    let shortat = pick_most b s.shortat s.at s.at (omega arith) (omega arith) in
    record {
      rooming = omega (arith, length-sets lent.parcels s.at (form_parcels v.form));
      within = omega arith;
      entries = f.entries;
      top_fine = λ deep. let z = f.top_fine deep in omega arith;
    }

-- ---- along the rows
module _ (k : Kernel) (r : Rooms) (t : Taking) where
  went-fine : {ns : List ℕ} {lent : Lent} {top : OpenLoop} → Fine ns r t.state lent top → (n : ℕ) (x : Taking) (q : List ℕ) → Went k r t lent.parcels n x q → Fine ns r x.state (with_parcels lent q) top
  went-fine f zero x q (e, d) = rw (e, d) f
  went-fine f (suc n) x q h = let g = fine-on h.coding (went-fine f n h.y h.p h.before) h.passes in rw (h.on, h.parcels) g

  -- the verdict, the open loops and the rows before
  record Stays (x : Taking) : Type 0 where
    good : x.verdict ≡ Ok tt
    depth : x.state.depth ≡ t.state.depth
    row : t.row ≤ x.row

  went-stays : t.verdict ≡ Ok tt → (p : List ℕ) (n : ℕ) (x : Taking) (q : List ℕ) → Went k r t p n x q → Stays x
  went-stays g p zero x q (e, d) = rw e (record { good = g; depth = refl; row = omega arith })
  went-stays g p (suc n) x q h =
      let i = went-stays g p n h.y h.p h.before in
      rw h.on (record { good = refl; depth = i.depth; row = omega (arith, i.row) })

module _ {k : Kernel} {r : Rooms} {t : Taking} where
  pub skimmed-fine : {ns : List ℕ} {lent : Lent} {top : OpenLoop} {x : Taking} {q : List ℕ} → Fine ns r t.state lent top → Skimmed k r t lent.parcels x q → Fine ns r x.state (with_parcels lent q) top
  skimmed-fine {x} {q} f h = went-fine k r t f h.rows_taken x q h.went

  module _ {p : List ℕ} {x : Taking} {q : List ℕ} (g : t.verdict ≡ Ok tt) (h : Skimmed k r t p x q) where
    pub skimmed-good : x.verdict ≡ Ok tt
    skimmed-good = (went-stays k r t g p h.rows_taken x q h.went).good

    pub skimmed-depth : x.state.depth ≡ t.state.depth
    skimmed-depth = (went-stays k r t g p h.rows_taken x q h.went).depth

    pub skimmed-row : t.row ≤ x.row
    skimmed-row = (went-stays k r t g p h.rows_taken x q h.went).row
