-- The build's outcome at the machine level is the contract's: split once, by whether a row is refused, and compute both sides.
use mathlib.Core.Path.{◌≡◌, refl, sym, ap, ap₂, ◌∙◌, subst}
use mathlib.Core.Logic.{◌⊎◌, inl, inr, ⊎_elim}
use mathlib.Core.Bool.{Bool, true, false}
use mathlib.Core.List.{List, ◌++◌, [], ◌∷◌}
use Prim.Native.Nat.{ℕ, ◌+◌, ◌*◌, ◌≤◌}
use native.Mathlib.Omega.{arith}
use lib.ListN.{drop, replicate}
use lib.Dec.{ltb}
use borrow.Author.Tests.{lt-ltb, le-ltb}
use Rattle.refusals.specs.declared.Refusal.{Refusal}
use Rattle.refusals.specs.declared.Refusal.TheVariants.{UnclosedLoop}
use Rattle.std.specs.Prelude.{Ok, Err}
use Rattle.refusals.specs.Answers.{Verdict, Judged}
use Rattle.coded.specs.Coded.{Coded}
use Rattle.places.specs.declared.Rooms.{Rooms}
use Rattle.places.specs.Items.{Kernel, is_label, is_jump, total, place, nest}
use Rattle.refusals.specs.Order.{when, passing, said_of_row, first_in, foremost}
use Rattle.places.specs.Left.{lent_of, outcome, Lent, rooms_of_lent, gather, put, zero_loop, Outcome, built, with_loops}
use Rattle.refusals.specs.Numbers.{answer_of}
use Rattle.places.specs.Verdict.{verdict_at, reach_at}
use Rattle.places.specs.Looking.{opener, deepest}
use Rattle.prefixes.proofs.Looking.{pick_true, pick_false}
use Rattle.prefixes.proofs.Single.{Single, single}
use Rattle.refusals.proofs.Order.{StopsAt, AllPass, either, all_first, all-passing, stop-first, stop-passing}
use Rattle.machine.specs.declared.State.{State}
use Rattle.machine.specs.Machine.{Mem, mem_of, with_parcels}
use Rattle.tables.specs.Tables.{KernelFine}
use Rattle.places.proofs.Emitted.{place-emitted}
use Rattle.refusals.specs.Scan.{scan_at, scan_chk, scan_end, all_scan, scan_end_lem}
use Rattle.machine.specs.Fold.{row_chk, zero_state, row_next_mem, rows_end}
use Rattle.machine.specs.Finish.{shut, level, wiped, with_p, waits, settles, aims_of, aims_end, aims_row, aims_p, aims_out, finish, close_verdict, close_row, closed, out_of}
use Rattle.tables.proofs.Fronts.{Front, out_eq, rest-is, put-good, put_refused, front-refused}
use Rattle.checks.proofs.Rooming.{rooms_in_lent}
use Rattle.agrees.proofs.Along.{check-is}
use Rattle.agrees.proofs.Prefix.{mem, state_is, check_at}
use Rattle.agrees.proofs.Fits.{Fits, fits-at}
use Rattle.tables.proofs.Held.{entry, waiting, labels_length, jumps-length, labels_are, jumps_are}
use Rattle.agrees.proofs.Tables.{labels-step, jumps-step}
use Rattle.agrees.proofs.Loops.{zeros_are}
use Rattle.refusals.proofs.Scans.{scan_stop, scan_low}
use Rattle.agrees.proofs.Same.{row_is}
use Rattle.agrees.proofs.Parcels.{parts, parts-length, parcels_are}
use Rattle.agrees.proofs.Aims.{jumps_at, jumps-is, aims-good, aims-stop}
use Rattle.agrees.proofs.Aimed.{final, stage, stage-length, staged, aimed_are}

module _ (k : Kernel) (lent : Lent) (fine : KernelFine k) where
  abbrev it : ℕ → Coded
  it = k.it

  abbrev n : ℕ
  n = k.n

  abbrev r : Rooms
  r = rooms_of_lent lent

  abbrev m₀ : Mem
  m₀ = mem_of zero_state lent

  abbrev M : ℕ → Mem
  M i = mem it lent i

  abbrev pass : ℕ → Verdict
  pass = check_at k lent r

  abbrev said : ℕ → Verdict
  said = verdict_at k r

  -- the outcome of a verdict and the row that it names, when t rows are taken
  abbrev came : Judged → ℕ → Outcome
  came j t =
      outcome (answer_of j (place it n))
      (lent_of (put j.verdict (gather (final k) t) lent.parcels) (put j.verdict (gather (entry k) t) lent.labels) (put j.verdict (gather (waiting k) t) lent.jumps)
      (replicate (deepest it t) zero_loop ++ drop (deepest it t) lent.loops))

  -- what is asked once every row has passed
  abbrev rest : Bool → List Judged
  rest t = said_of_row (opener it n) (when t UnclosedLoop) ∷ first_in (reach_at k) n ∷ []

  -- ---- the rows before t pass
  module _ (t : ℕ) (all : AllPass pass t) where
    fits : (i : ℕ) → i ≤ t → Fits it lent i
    fits i h = fits-at k lent r (rooms_in_lent lent) fine i (λ q u. all q (omega arith))

    rows-good : AllPass said t
    rows-good q h = sym (row_is k fine lent r q (fits q (omega arith))) ∙ all q h

    P-is : Front (M t).lent.parcels (gather (parts it t) t) lent.parcels (place it t)
    P-is = record { held = parcels_are k lent fine t (fits t (omega arith)); many = parts-length it t t }

    L-is : Front (M t).lent.labels (gather (entry k) t) lent.labels (3 * total is_label it t)
    L-is = record { held = labels_are k (λ q. (M q).lent.labels) (labels-step k lent) t (fits t (omega arith)).labels; many = labels_length k t }

    J-is : Front (M t).lent.jumps (gather (waiting k) t) lent.jumps (2 * total is_jump it t)
    J-is = record { held = jumps_are k (λ q. (M q).lent.jumps) (jumps-step k lent) t (fits t (omega arith)).jumps; many = jumps-length k t }

    K-is : shut (M t).s.depth (M t).lent.loops ≡ replicate (deepest it t) zero_loop ++ drop (deepest it t) lent.loops
    K-is = ap (λ (y : State). shut y.depth (M t).lent.loops) (state_is it lent t) ∙ zeros_are it lent t (fits t (omega arith))

    -- refused: with any parcels that keep the rest
    wiped-is : (why : Refusal) (row : ℕ) (ps : List ℕ) → drop (place it t) ps ≡ drop (place it t) lent.parcels → wiped (closed (with_p (M t) ps)) why row ≡ came (said_of_row row (Err why)) t
    wiped-is why row ps e =
        ap (λ (s : State). wiped (mem_of (level 0 s) (with_loops (with_parcels (M t).lent ps) (shut (M t).s.depth (M t).lent.loops))) why row) (state_is it lent t)
        ∙ out_eq refl (put_refused why ps (gather (final k) t) lent.parcels (place it t) (place-emitted k t) e) (front-refused why L-is) (front-refused why J-is) K-is

  -- ---- what the fold comes to
  abbrev C : ℕ → Mem → Verdict
  C = row_chk k r

  abbrev N : ℕ → Mem → Mem
  N = row_next_mem k r

  at_row : (q : ℕ) → C q (scan_at C N m₀ q) ≡ pass q
  at_row = check-is k r m₀

  out_by : (v : Verdict) (e : ℕ) → scan_chk C N m₀ n 0 ≡ v → scan_end C N m₀ n 0 ≡ e → out_of k r m₀ ≡ finish k (close_row k e) (close_verdict v (M e)) (closed (M e))
  out_by v e c d = ap₂ (λ (w : Verdict) (i : ℕ). finish k (close_row k i) (close_verdict w (M i)) (closed (M i))) c d

  -- ---- a row is refused
  abbrev stops : StopsAt pass n → StopsAt said n
  stops s =
      record {
        row = s.row;
        why = s.why;
        before = s.before;
        fails = sym (row_is k fine lent r s.row (fits s.row s.earlier s.row (omega arith))) ∙ s.fails;
        earlier = rows-good s.row s.earlier;
      }

  stopped-at : (s : StopsAt pass n) → (scan_chk C N m₀ n 0 ≡ Err s.why) × (scan_end C N m₀ n 0 ≡ s.row)
  stopped-at s =
      let h = s.before in
      scan_stop C N m₀ n 0 s.row (omega arith) (omega arith) (λ q u v. at_row q ∙ s.earlier q v) (at_row s.row ∙ s.fails)

  refused-is : StopsAt pass n → out_of k r m₀ ≡ built k lent
  refused-is s =
      let t = stopped-at s in
      out_by (Err s.why) s.row t.0 t.1
      ∙ ap (wiped (closed (M s.row)) s.why) (pick_true (ltb s.row n) s.row (opener it s.row) (lt-ltb s.row n s.before))
      ∙ wiped-is s.row s.earlier s.why s.row (M s.row).lent.parcels (rest-is (P-is s.row s.earlier))
      ∙ ap (λ (i : ℕ). came (said_of_row i (Err s.why)) i) (sym (stop-passing said n (stops s)))
      ∙ ap (λ (v : Verdict). came (foremost (said_of_row (passing said n) v ∷ rest (ltb 0 (nest it n)))) (passing said n)) (sym (stop-first said n (stops s)))

  -- ---- all rows are taken in
  module _ (all : AllPass pass n) where
    f : Fits it lent n
    f = fits n all n (omega arith)

    one : Single k n
    one = single k r n (rows-good n all)

    passed-all : (scan_chk C N m₀ n 0 ≡ Ok tt) × (scan_end C N m₀ n 0 ≡ n)
    passed-all =
        let c = all_scan C N m₀ n 0 (λ q u v. at_row q ∙ all q (omega arith)) in
        (c, scan_end_lem C N m₀ n 0 c ∙ (let w : 0 + n ≡ n = omega arith in w))

    settling_is : (q : ℕ) → q ≤ total is_jump it n → Front (jumps_at k lent q) (gather (stage k q) n) lent.parcels (place it n)
    settling_is q h = record { held = staged k lent f one fine q h; many = stage-length k q n }

    settled_is : Front (jumps_at k lent (total is_jump it n)) (gather (final k) n) lent.parcels (place it n)
    settled_is = record { held = aimed_are k lent f one fine; many = place-emitted k n }

    by-aims : (row : ℕ) (v : Verdict) → aims_of k (M n) ≡ v → aims_out row v (with_p (closed (M n)) (aims_p k (M n))) ≡ came (said_of_row row v) n
    by-aims row (Ok _) g =
        let b = jumps-is k lent in
        let e : aims_end k (M n) ≡ total is_jump it n = scan_end_lem (waits k (M n)) (settles k (M n)) (M n).lent.parcels (M n).s.jumps 0 g ∙ (let w : 0 + (M n).s.jumps ≡ total is_jump it n = omega arith in w) in
        out_eq (ap (λ (s : State). Ok s.at) (state_is it lent n)) (ap (jumps_at k lent) e ∙ put-good settled_is) (put-good (L-is n all)) (put-good (J-is n all)) (K-is n all)
    by-aims row (Err why) g =
        let a = scan_low (waits k (M n)) (settles k (M n)) (M n).lent.parcels (M n).s.jumps 0 in
        let b = jumps-is k lent in
        wiped-is n all why row (aims_p k (M n)) (rest-is (settling_is (aims_end k (M n)) (omega arith)))

    -- what is said of the waiting jumps, with its row; an accepted list names none
    aims-named : AllPass (reach_at k) n ⊎ StopsAt (reach_at k) n → came (said_of_row (aims_row k (M n)) (aims_of k (M n))) n ≡ came (foremost (first_in (reach_at k) n ∷ [])) n
    aims-named (inl a) =
        ap (λ (v : Verdict). came (said_of_row (aims_row k (M n)) v) n) (aims-good k lent f one a)
        ∙ ap (λ (v : Verdict). came (foremost (said_of_row (passing (reach_at k) n) v ∷ [])) n) (sym (all_first (reach_at k) n a))
    aims-named (inr s) =
        let t = aims-stop k lent f one s in
        ap₂ (λ (i : ℕ) (v : Verdict). came (said_of_row i v) n) (t.1 ∙ sym (stop-passing (reach_at k) n s)) t.0
        ∙ ap (λ (v : Verdict). came (foremost (said_of_row (passing (reach_at k) n) v ∷ [])) n) (sym (stop-first (reach_at k) n s))

    by-nest : (t : Bool) → ltb 0 (nest it n) ≡ t → finish k (opener it n) (when t UnclosedLoop) (closed (M n)) ≡ came (foremost (rest t)) n
    by-nest true e = wiped-is n all UnclosedLoop (opener it n) (M n).lent.parcels (rest-is (P-is n all))
    by-nest false e = by-aims (aims_row k (M n)) (aims_of k (M n)) refl ∙ aims-named (either (reach_at k) n)

    taken_is : out_of k r m₀ ≡ built k lent
    taken_is =
        out_by (Ok tt) n passed-all.0 passed-all.1
        ∙ ap₂ (λ (row : ℕ) (s : State). finish k row (when (ltb 0 s.depth) UnclosedLoop) (closed (M n))) (pick_false (ltb n n) n (opener it n) (le-ltb n n (omega arith))) (state_is it lent n)
        ∙ by-nest (ltb 0 (nest it n)) refl
        ∙ ap (came (foremost (rest (ltb 0 (nest it n))))) (sym (all-passing said n (rows-good n all)))
        ∙ ap (λ (v : Verdict). came (foremost (said_of_row (passing said n) v ∷ rest (ltb 0 (nest it n)))) (passing said n)) (sym (all_first said n (rows-good n all)))

  pub same : out_of k (rooms_of_lent lent) (mem_of zero_state lent) ≡ built k lent
  same = ⊎_elim taken_is refused-is (either pass n)

  -- the rows before the one where the fold ends pass, as the items say
  pub rows-passed : AllPass (verdict_at k (rooms_of_lent lent)) (rows_end k (rooms_of_lent lent) (mem_of zero_state lent))
  rows-passed =
      ⊎_elim (λ all. subst (AllPass said) (sym (passed-all all).1) (rows-good n all)) (λ s. subst (AllPass said) (sym (stopped-at s).1) (rows-good s.row s.earlier))
      (either pass n)
