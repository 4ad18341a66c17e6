-- From the turns and the end to the contract of the build.
use mathlib.Core.Path.{◌≡◌, refl, sym, ap, ap₂, ◌∙◌, subst}
use mathlib.Core.Bool.{Bool, true, false, cond}
use mathlib.Core.List.{List, []}
use Prim.Native.Nat.{ℕ, ◌+◌, ◌≤◌}
use native.Mathlib.Omega.{arith}
use lib.ListN.{length}
use lib.Dec.{ltb}
use Rattle.refusals.specs.declared.Refusal.TheVariants.{RowSlice}
use Rattle.std.specs.Prelude.{Ok, Err}
use Rattle.refusals.specs.Answers.{Verdict, Answer}
use Rattle.coded.specs.Coded.{Coded}
use Rattle.rows.specs.Rows.{well_formed, most_rows}
use Rattle.rows.proofs.Limit.{rows_few}
use Rattle.places.specs.declared.Rooms.{Rooms}
use Rattle.places.specs.Items.{kernel, kernel_of, row_at, row_count}
use Rattle.refusals.specs.Order.{or_else}
use Rattle.places.specs.Left.{Lent, rooms_of_lent, Outcome, outcome, built, build_of, Builds, with_loops}
use Rattle.refusals.specs.Numbers.{answered}
use Rattle.refusals.proofs.Order.{refused-good, or_else-good}
use Rattle.checks.specs.Rooming.{RoomingIn}
use Rattle.checks.proofs.Rooming.{rooming-of}
use Rattle.machine.specs.Machine.{Mem, mem_of}
use Rattle.refusals.specs.Scan.{scan_all, scan_end_lem}
use Rattle.refusals.proofs.Scans.{scan_low}
use Rattle.machine.specs.Fold.{row_chk, zero_state, row_next_mem, rows_verdict, rows_end, rows_mem}
use Rattle.machine.specs.Finish.{finish, close_verdict, close_row, closed, out_of}
use Rattle.settling.specs.Settling.{AimsFine}
use Rattle.agrees.proofs.Along.{check-is}
use Rattle.agrees.proofs.Aimed.{pick_same}
use Rattle.agrees.proofs.Equal.{same, rows-passed}
use Rattle.prefixes.proofs.Names.{row_fine}
use Rattle.prefixes.proofs.Passing.{fits}
use Rattle.agrees.proofs.Prefix.{mem}
use Rattle.agrees.proofs.Waiting.{aims-end}
use Rattle.taking.specs.declared.Taking.{Taking}
use Rattle.taking.specs.Taking.{formed, taken_rows, taken_of, took_verdict, took_row, took_mem, Took}
use Rattle.ends.specs.Ends.{Closed}
use Rattle.build.specs.Finish.{Ends, Passed, Finishing, Finished}

-- ---- no refusal among the rows: every row was taken in
-- what the waiting jumps of a memory lean on
abbrev Aims : List ℕ → List ℕ → Mem → Type 0
Aims rs ns m = AimsFine (kernel_of rs ns) m.lent.labels m.s.labels m.lent.jumps m.s.jumps (length m.lent.parcels)

module _ (rs ns : List ℕ) (r : Rooms) (lent : Lent) where
  abbrev it : ℕ → Coded
  it = row_at rs ns

  abbrev m₀ : Mem
  m₀ = mem_of zero_state lent

  well : formed rs ≡ Ok tt → well_formed (length rs) ≡ true
  well e = go (well_formed (length rs)) refl
    where
      go : (b : Bool) → well_formed (length rs) ≡ b → well_formed (length rs) ≡ true
      go true q = q
      go false q = absurd (refused-good RowSlice (rw q at e))

  module _ (rooms : RoomingIn r lent) (w : well_formed (length rs) ≡ true) (good : took_verdict rs ns r lent ≡ Ok tt) where
    abbrev C : ℕ → Mem → Verdict
    C = row_chk (kernel_of rs ns) r

    abbrev N : ℕ → Mem → Mem
    N = row_next_mem (kernel_of rs ns) r

    all : taken_rows rs ≡ row_count rs
    all = ap (λ (b : Bool). cond b (row_count rs) 0) w

    last : took_mem rs ns r lent ≡ mem it lent (row_count rs)
    last = ap (mem it lent) (scan_end_lem C N m₀ (taken_rows rs) 0 good ∙ (let z : 0 + taken_rows rs ≡ row_count rs = omega (arith, all) in z))

    aims : Aims rs ns (took_mem rs ns r lent)
    aims =
        subst (Aims rs ns) (sym last)
        (aims-end (kernel_of rs ns) lent r rooms (row_fine rs ns) (rows_few (length rs) w)
        (λ q h. sym (check-is (kernel_of rs ns) r m₀ q) ∙ scan_all C N m₀ (taken_rows rs) 0 good q (omega arith) (omega (arith, all))))

-- ---- the rows that are taken in, were the slice rows or not
taken-few : (rs : List ℕ) → (taken_rows rs ≤ row_count rs) × (taken_rows rs ≤ most_rows)
taken-few rs = go (well_formed (length rs)) refl
  where
    go : (b : Bool) → well_formed (length rs) ≡ b → (cond b (row_count rs) 0 ≤ row_count rs) × (cond b (row_count rs) 0 ≤ most_rows)
    go true q = (omega arith, rows_few (length rs) q)
    go false q = (omega arith, omega arith)

module _ {rs ns : List ℕ} {r : Rooms} {lent : Lent} {t : Taking} {lent' : Lent} (e : r ≡ rooms_of_lent lent) (x : Took rs ns r lent t lent') where
  -- the rows before the one where they stopped passed
  took-passed : Passed (kernel_of rs ns) t.row
  took-passed =
      let low = scan_low (row_chk (taken_of rs ns) r) (row_next_mem (taken_of rs ns) r) (mem_of zero_state lent) (taken_rows rs) 0 in
      let few = taken-few rs in
      let at = x.row in
      record {
        before = omega arith;
        few = omega arith;
        closed = subst (Closed (row_at rs ns)) (sym (x.row ∙ ap (λ (y : Rooms). took_row rs ns y lent) e)) (fits (taken_of rs ns) (rooms_of_lent lent) (took_row rs ns (rooms_of_lent lent) lent) (rows-passed (taken_of rs ns) lent (row_fine rs ns))).closed;
      }

  pub took-finishing : Finishing (kernel_of rs ns) t (with_loops lent' [])
  took-finishing =
      record {
        passed = took-passed;
        used = let g = x.good in omega (arith, g.rooming, g.within);
        aims = λ v.
            let a = or_else-good (formed rs) _ (sym x.verdict ∙ v) in
            let b = or_else-good (took_verdict rs ns r lent) _ a.1 in
            subst (Aims rs ns) (sym x.mem) (aims rs ns r lent (rooming-of e) (well rs ns r lent a.0) b.0);
      }

  -- what the rows and the end come to, were the slice rows or not
  by_form : (b : Bool)
      → let k = kernel ns (row_at rs ns) (cond b (row_count rs) 0) in
      finish (kernel_of rs ns) (close_row (kernel_of rs ns) (rows_end k r (mem_of zero_state lent))) (or_else (cond b (Ok tt) (Err RowSlice)) (close_verdict (rows_verdict k r (mem_of zero_state lent)) (rows_mem k r (mem_of zero_state lent)))) (closed (rows_mem k r (mem_of zero_state lent)))
      ≡ cond b (built (kernel_of rs ns) lent) (outcome (Err (record { why = RowSlice; row = 0 })) lent)
  by_form true = ap (λ (y : Rooms). out_of (kernel_of rs ns) y (mem_of zero_state lent)) e ∙ same (kernel_of rs ns) lent (row_fine rs ns)
  by_form false = ap (λ (row : ℕ). outcome (Err (record { why = RowSlice; row = row })) lent) (pick_same (ltb 0 (row_count rs)) 0 0 refl)

  pub built-is : {a : Answer} {left : Lent} → Finished (kernel_of rs ns) t (with_loops lent' []) a left → Builds rs ns lent (answered a) (with_loops left lent'.loops)
  built-is {a} {left} h =
      let named = ap (λ (row : ℕ). finish (kernel_of rs ns) (close_row (kernel_of rs ns) row) t.verdict (mem_of t.state lent')) x.row ∙ ap₂ (finish (kernel_of rs ns) (close_row (kernel_of rs ns) (took_row rs ns r lent))) x.verdict x.mem in
      let o : Ends (build_of rs ns lent) a (with_loops left lent'.loops) =
      subst (λ (o : Outcome). Ends o a (with_loops left lent'.loops)) (named ∙ by_form (well_formed (length rs))) (h.ends lent'.loops) in
      record { answer = ap answered o.answer; parcels = o.parcels; labels = o.labels; jumps = o.jumps; loops = o.loops }
