-- Turn by turn: first the rows, up to a refusal or to their end, then the loops that are left open, the innermost first.
use mathlib.Core.Path.{◌≡◌, refl, sym, ap, ap₂, ◌∙◌, subst}
use mathlib.Core.Logic.{◌⊎◌, inl, inr}
use mathlib.Core.Bool.{Bool, true, false, cond}
use mathlib.Core.List.{List, []}
use Prim.Native.Nat.{ℕ, zero, suc, ◌+◌, ◌-◌, ◌*◌, ◌≤◌, ◌<◌}
use native.Mathlib.Omega.{arith}
use lib.ListN.{length, get_or}
use lib.Dec.{ltb}
use lib.Seq.{sets}
use borrow.Author.Tests.{lt-ltb, le-ltb, ltb-true, ltb-false}
use Rattle.refusals.specs.declared.Refusal.{Refusal}
use Rattle.refusals.specs.declared.Refusal.TheVariants.{RowSlice, UnclosedLoop}
use Rattle.std.specs.Prelude.{Ok, Err, Result, None}
use Rattle.refusals.specs.Answers.{Verdict}
use Rattle.coded.specs.Coded.{Coded}
use Rattle.rows.specs.Rows.{well_formed}
use Rattle.rows.proofs.Limit.{rows_few}
use Rattle.places.specs.declared.OpenLoop.{OpenLoop}
use Rattle.places.specs.declared.Rooms.{Rooms}
use Rattle.encode.specs.Encoding.{form_parcels}
use Rattle.places.specs.Items.{Kernel, kernel_of, row_at, row_count, size_of}
use Rattle.refusals.specs.Order.{when, or_else}
use Rattle.places.specs.Left.{Lent, zero_loop, with_loops}
use Rattle.refusals.proofs.Order.{refused-good}
use Rattle.checks.specs.Rooming.{RoomingIn}
use Rattle.machine.specs.declared.Step.{Step}
use Rattle.machine.specs.Machine.{Mem, mem_of, check, next, top_of, step_row, step_by, step_state, loops_by, advanced, with_parcels, GoodFor}
use Rattle.refusals.specs.Scan.{scan_end, Going, Came, going_start, going_next, going_stop, going_end}
use Rattle.machine.specs.Fold.{row_chk, zero_state, mem_at, row_next_mem}
use Rattle.machine.specs.Finish.{level, close_verdict, closed}
use Rattle.agrees.proofs.Along.{mem_is}
use Rattle.prefixes.proofs.Names.{row_fine}
use Rattle.agrees.proofs.Keeps.{keep, good_zero}
use Rattle.taking.specs.declared.Taking.{Taking}
use Rattle.taking.specs.declared.Turned.{Turned}
use Rattle.taking.specs.Taking.{formed, taken_rows, start_of, keeps_going, more_of, went_on, turned_of, late_of, Went, StepTurn, RowTurn, LateTurn, slotted, Next, Stepping, Onward, Ready, Turnt, took_verdict, took_row, took_mem, Took}
use Rattle.taking.proofs.NextRow.{row_next, row_last}
use Rattle.taking.proofs.Skims.{skimmed-good, skimmed-depth, skimmed-row}
use Rattle.taking.proofs.Records.{turn-loops, turn_on, deeper_by_one, mem_eq, closed_none, closed-one, popped, good-less}

-- ---- one turn
pub ready_steps : {k : Kernel} {r : Rooms} {t : Taking} {lent : Lent} {top : OpenLoop} → Ready k r t lent → top ≡ get_or lent.loops (t.state.depth - 1) zero_loop → Stepping k r t (with_loops lent []) top
ready_steps {t} h e =
    let g = h.good in
    record {
      fine = record { rooming = omega (arith, g.rooming); within = g.within; entries = g.entries; top_fine = λ some. rw e (g.starts (t.state.depth - 1) (omega arith)) };
      few = h.few;
    }

pub turnt_is : {k : Kernel} {r : Rooms} {t : Taking} {lent : Lent} {top : OpenLoop} {y : Turned} {lent' : Lent} → Ready k r t lent
    → top ≡ get_or lent.loops (t.state.depth - 1) zero_loop → Onward k r t (with_loops lent []) top y (with_loops lent' []) → lent'.loops ≡ slotted y.slot lent.loops → Turnt k r t lent y.taking lent'
turnt_is {k} {r} {t} {lent} {y} {lent'} h e o q =
    record { turn = y; onward = subst (λ (z : OpenLoop). Onward k r t (with_loops lent []) z y (with_loops lent' [])) e o; taking = refl; loops = q }

-- ---- along the turns: what is left to do
abbrev pub unrefused : Verdict → ℕ
unrefused (Ok _) = 1
unrefused (Err r) = 0

abbrev pub left : List ℕ → Taking → ℕ
left rs t = 2 * (row_count rs - t.row) + (t.state.depth + unrefused t.verdict)

module _ (rs ns : List ℕ) (r : Rooms) (lent₀ : Lent) where
  abbrev it : ℕ → Coded
  it = row_at rs ns

  abbrev m₀ : Mem
  m₀ = mem_of zero_state lent₀

  abbrev C : ℕ → Mem → Verdict
  C = row_chk (kernel_of rs ns) r

  abbrev N : ℕ → Mem → Mem
  N = row_next_mem (kernel_of rs ns) r

  -- among the rows
  pub record Rowing (t : Taking) (lent : Lent) : Type 0 where
    pub rows-formed : well_formed (length rs) ≡ true
    pub unstopped : t.verdict ≡ Ok tt
    pub going : Going C N m₀ (taken_rows rs) t.row (mem_of t.state lent)
    pub good : GoodFor ns r (mem_of t.state lent)

  -- past them, a refusal met
  pub record Closing (t : Taking) (lent : Lent) : Type 0 where
    pub why : Refusal
    pub stopped : t.verdict ≡ Err why
    pub verdict : Err why ≡ or_else (formed rs) (close_verdict (took_verdict rs ns r lent₀) (took_mem rs ns r lent₀))
    pub row : t.row ≡ took_row rs ns r lent₀
    pub rest : closed (mem_of t.state lent) ≡ closed (took_mem rs ns r lent₀)
    pub good : GoodFor ns r (mem_of t.state lent)

  abbrev pub Along : Taking → Lent → Type 0
  Along t lent = Rowing t lent ⊎ Closing t lent

  -- where the fold came to
  came-mem : {v : Verdict} {e : ℕ} {m : Mem} → Came C N m₀ (taken_rows rs) v e m → m ≡ took_mem rs ns r lent₀
  came-mem c = c.here ∙ mem_is (kernel_of rs ns) r m₀ (scan_end C N m₀ (taken_rows rs) 0)

  -- the verdict on all, from that of the rows
  final : well_formed (length rs) ≡ true → (v : Verdict) (m : Mem) → v ≡ took_verdict rs ns r lent₀ → m ≡ took_mem rs ns r lent₀
      → close_verdict v m ≡ or_else (formed rs) (close_verdict (took_verdict rs ns r lent₀) (took_mem rs ns r lent₀))
  final w v m a b = ap₂ close_verdict a b ∙ ap (λ (x : Bool). or_else (cond x (Ok tt) (Err RowSlice)) (close_verdict (took_verdict rs ns r lent₀) (took_mem rs ns r lent₀))) (sym w)

  taken-all : well_formed (length rs) ≡ true → taken_rows rs ≡ row_count rs
  taken-all w = ap (λ (x : Bool). cond x (row_count rs) 0) w

  -- ---- a row the long way, of which a turn leaves this taking and the record in its slot
  module _ (t : Taking) (lent : Lent) (x : Taking) (lent' : Lent) (turn : Turned) (taking : x ≡ turn.taking) (loops : lent'.loops ≡ slotted turn.slot lent.loops)
      (o : StepTurn (kernel_of rs ns) r t (with_loops lent []) (top_of t.state lent.loops) turn (with_loops lent' [])) where
    abbrev M : Mem
    M = mem_of t.state lent

    -- the turn and the loop table, by the step that the row made
    as_turned : {z : Result Step Refusal} → o.step ≡ z → turn ≡ turned_of t z
    as_turned e = o.answer ∙ ap (λ (b : Result Step Refusal). turned_of t b) e

    as_looped : {z : Result Step Refusal} → o.step ≡ z → lent'.loops ≡ loops_by z t.state lent.loops
    as_looped {z} e = loops ∙ ap (λ (b : Turned). slotted b.slot lent.loops) (as_turned e) ∙ turn-loops t z lent.loops

    module _ (a : Rowing t lent) (h : t.row < row_count rs) where
      few : t.row < taken_rows rs
      few = subst (λ (b : ℕ). t.row < b) (sym (taken-all a.rows-formed)) h

      -- a row, taken in
      row-good : check ns r (it t.row) M ≡ Ok tt → Rowing x lent'
      row-good v =
          let d = o.stepped in
          let step : o.step ≡ step_row (it t.row) t.state = rw v at d.answer in
          let on : x ≡ went_on t (step_state (step_row (it t.row) t.state) t.state) = taking ∙ ap (λ (b : Turned). b.taking) (as_turned step) ∙ turn_on t (it t.row) t.state in
          let u : mem_of x.state lent' ≡ next t.row (it t.row) M = mem_eq (ap (λ (b : Taking). b.state) on) (rw v at d.parcels) (rw v at d.labels) (rw v at d.jumps) (as_looped step) in
          record {
            rows-formed = a.rows-formed;
            unstopped = ap (λ (b : Taking). b.verdict) on;
            going = subst (λ (b : ℕ). Going C N m₀ (taken_rows rs) b (mem_of x.state lent')) (sym (ap (λ (b : Taking). b.row) on)) (going_next C N m₀ a.going few v u);
            good = subst (λ (m : Mem). GoodFor ns r m) (sym u) (keep ns r t.row (it t.row) M a.good (row_fine rs ns t.row) v);
          }

      -- a row, refused
      row-refused : (why : Refusal) → check ns r (it t.row) M ≡ Err why → Closing x lent'
      row-refused why v =
          let d = o.stepped in
          let step : o.step ≡ Err why = rw v at d.answer in
          let on : x ≡ record { state = t.state; row = t.row; verdict = Err why } = taking ∙ ap (λ (b : Turned). b.taking) (as_turned step) in
          let u : mem_of x.state lent' ≡ M = mem_eq (ap (λ (b : Taking). b.state) on) (rw v at d.parcels) (rw v at d.labels) (rw v at d.jumps) (as_looped step) in
          let c = going_stop C N m₀ a.going few v u in
          record {
            why = why;
            stopped = ap (λ (b : Taking). b.verdict) on;
            verdict = final a.rows-formed (Err why) (mem_of x.state lent') c.outcome (came-mem c);
            row = ap (λ (b : Taking). b.row) on ∙ c.end;
            rest = ap closed (came-mem c);
            good = subst (λ (m : Mem). GoodFor ns r m) (sym u) a.good;
          }

      by_row : (v : Verdict) → check ns r (it t.row) M ≡ v → Along x lent'
      by_row (Ok _) v = inl (row-good v)
      by_row (Err why) v = inr (row-refused why v)

    -- it leaves less to do
    by-step : t.row < row_count rs → t.verdict ≡ Ok tt → (v : Verdict) → x ≡ (turned_of t (step_by v (step_row (it t.row) t.state))).taking → left rs x < left rs t
    by-step h g (Ok _) e =
        let on : x ≡ went_on t (step_state (step_row (it t.row) t.state) t.state) = e ∙ turn_on t (it t.row) t.state in
        let d = deeper_by_one (it t.row) t.state in
        rw (on, g) (omega arith)
    by-step h g (Err why) e = rw (e, g) (omega arith)

    row-less : t.row < row_count rs → t.verdict ≡ Ok tt → left rs x < left rs t
    row-less h g = by-step h g (check ns r (it t.row) M) (taking ∙ ap (λ (b : Turned). b.taking) (as_turned o.stepped.answer))

  -- ---- the rows that are seen at a glance before it
  seen-on : (t : Taking) (lent : Lent) → Rowing t lent → (n : ℕ) (x : Taking) (q : List ℕ) → Went (kernel_of rs ns) r t lent.parcels n x q → Rowing x (with_parcels lent q)
  seen-on t lent a zero x q (e, d) = rw (e, d) a
  seen-on t lent a (suc n) x q h =
      let b = seen-on t lent a n h.y h.p h.before in
      let m : Mem = mem_of h.y.state (with_parcels lent h.p) in
      let v : check ns r (it h.y.row) m ≡ Ok tt = rw h.row_is h.passes in
      let u : mem_of (advanced (size_of h.coding.form) h.y.state) (with_parcels lent (sets h.p h.y.state.at (form_parcels h.coding.form))) ≡ next h.y.row (it h.y.row) m = rw h.row_is in
      let few = subst (λ (b : ℕ). h.y.row < b) (sym (taken-all a.rows-formed)) h.left in
      rw (h.on, h.parcels)
      (record {
        rows-formed = a.rows-formed;
        unstopped = refl;
        going = going_next C N m₀ b.going few v u;
        good = subst (λ (m : Mem). GoodFor ns r m) (sym u) (keep ns r h.y.row (it h.y.row) m b.good (row_fine rs ns h.y.row) v);
      })

  module _ (t : Taking) (lent : Lent) where
    -- ---- another turn
    some_open : more_of rs t ≡ true → keeps_going t.verdict (ltb t.row (row_count rs)) ≡ false → 0 < t.state.depth
    some_open e f = go (ltb 0 t.state.depth) refl
      where
        go : (b : Bool) → ltb 0 t.state.depth ≡ b → 0 < t.state.depth
        go true q = ltb-true _ _ q
        go false q = let z : ◌≡◌ {A = Bool} false true = sym f ∙ rw q at e in let y : ◌≡◌ {A = ℕ} 0 1 = cc in absurd (omega arith)

    module _ (more : more_of rs t ≡ true) where
      ready : Along t lent → Ready (kernel_of rs ns) r t lent
      ready (inl a) = record { good = a.good; few = λ _. rows_few (length rs) a.rows-formed }
      ready (inr a) = record { good = a.good; few = λ e. absurd (refused-good a.why (sym a.stopped ∙ e)) }

      module _ (x : Taking) (lent' : Lent) (s : Turnt (kernel_of rs ns) r t lent x lent') where
        -- ---- at a row: those that are seen, and then, if one is left, that one
        abbrev At : Type 0
        At = RowTurn (kernel_of rs ns) r t (with_loops lent []) (top_of t.state lent.loops) s.turn (with_loops lent' [])

        module _ (o : At) (g : t.verdict ≡ Ok tt) (in_rows : t.row < row_count rs) where
          abbrev then : Lent
          then = with_parcels lent o.parcels

          same-top : top_of t.state lent.loops ≡ top_of o.mid.state lent.loops
          same-top = ap (λ (d : ℕ). get_or lent.loops (d - 1) zero_loop) (sym (skimmed-depth g o.skimmed))

          abbrev Steps : OpenLoop → Type 0
          Steps top = StepTurn (kernel_of rs ns) r o.mid (with_loops then []) top s.turn (with_loops lent' [])

          next_in : keeps_going o.mid.verdict (ltb o.mid.row (row_count rs)) ≡ true → o.mid.row < row_count rs
          next_in e = (row_next o.mid.verdict o.mid.row (row_count rs) e).1

          row_on : Rowing t lent → Along x lent'
          row_on a = go o.rest
            where
              b : Rowing o.mid then
              b = seen-on t lent a o.skimmed.rows_taken o.mid o.parcels o.skimmed.went

              go : (Next (kernel_of rs ns) o.mid true × Steps (top_of t.state lent.loops)) ⊎ (Next (kernel_of rs ns) o.mid false × (s.turn ≡ record { taking = o.mid; slot = None }) × (with_loops lent' [] ≡ with_loops then [])) → Along x lent'
              go (inl (e, w)) = by_row o.mid then x lent' s.turn s.taking s.loops (subst Steps same-top w) b (next_in e) (check ns r (it o.mid.row) (mem_of o.mid.state then)) refl
              go (inr (e, w, d)) =
                  let q : lent'.loops ≡ lent.loops = s.loops ∙ ap (λ (y : Turned). slotted y.slot lent.loops) w in
                  let l : lent' ≡ then = ap₂ with_loops d q in
                  inl (rw (s.taking ∙ ap (λ (y : Turned). y.taking) w, l) b)

          row-left : left rs x < left rs t
          row-left = go o.rest
            where
              h : o.mid.verdict ≡ Ok tt
              h = skimmed-good g o.skimmed

              deep : o.mid.state.depth ≡ t.state.depth
              deep = skimmed-depth g o.skimmed

              past : t.row ≤ o.mid.row
              past = skimmed-row g o.skimmed

              go : (Next (kernel_of rs ns) o.mid true × Steps (top_of t.state lent.loops)) ⊎ (Next (kernel_of rs ns) o.mid false × (s.turn ≡ record { taking = o.mid; slot = None }) × (with_loops lent' [] ≡ with_loops then [])) → left rs x < left rs t
              go (inl (e, w)) =
                  let l = row-less o.mid then x lent' s.turn s.taking s.loops (subst Steps same-top w) (next_in e) h in
                  let m : left rs o.mid ≤ left rs t = rw (h, g, deep) (omega (arith, past)) in
                  omega (arith, l, m)
              go (inr (e, w, d)) =
                  let last = row_last o.mid.row (row_count rs) (rw h at e) in
                  rw (s.taking ∙ ap (λ (y : Turned). y.taking) w, h, g, deep) (omega (arith, last, in_rows))

        -- a loop closed: the memory, and what is known of it
        record Popped : Type 0 where
          is : mem_of x.state lent' ≡ mem_of (level (t.state.depth - 1) t.state) (popped t.state lent)
          says : x.verdict ≡ Err (late_of t.verdict)
          stays : x.row ≡ t.row

        pops : LateTurn t (with_loops lent []) s.turn (with_loops lent' []) → Popped
        pops o =
            let on = s.taking ∙ ap (λ (b : Turned). b.taking) o.answer in
            record {
              is = ap₂ mem_of (ap (λ (b : Taking). b.state) on) (ap₂ with_loops o.same (s.loops ∙ ap (λ (b : Turned). slotted b.slot lent.loops) o.answer));
              says = ap (λ (b : Taking). b.verdict) on;
              stays = ap (λ (b : Taking). b.row) on;
            }

        onwards : Along t lent → Along x lent'
        onwards a = go a s.onward
          where
            go : Along t lent → Onward (kernel_of rs ns) r t (with_loops lent []) (top_of t.state lent.loops) s.turn (with_loops lent' []) → Along x lent'
            go (inl a) (inl (e, o)) = row_on o a.unstopped (row_next t.verdict t.row (row_count rs) e).1 a
            go (inl a) (inr (e, o)) =
                let some = some_open more e in
                let d = pops o in
                let last = row_last t.row (row_count rs) (rw a.unstopped at e) in
                let c = going_end C N m₀ a.going (subst (λ (b : ℕ). b ≤ t.row) (sym (taken-all a.rows-formed)) last) in
                inr
                (record {
                  why = UnclosedLoop;
                  stopped = d.says ∙ ap (λ (v : Verdict). Err (late_of v)) a.unstopped;
                  verdict = ap (λ (b : Bool). when b UnclosedLoop) (sym (lt-ltb 0 t.state.depth some)) ∙ final a.rows-formed (Ok tt) (mem_of t.state lent) c.outcome (came-mem c);
                  row = d.stays ∙ c.end;
                  rest = ap closed d.is ∙ closed-one t.state lent some ∙ ap closed (came-mem c);
                  good = subst (λ (m : Mem). GoodFor ns r m) (sym d.is) (good-less ns r t.state lent some a.good);
                })
            go (inr a) (inl (e, o)) = absurd (refused-good a.why (sym a.stopped ∙ (row_next t.verdict t.row (row_count rs) e).0))
            go (inr a) (inr (e, o)) =
                let some = some_open more e in
                let d = pops o in
                inr
                (record {
                  why = a.why;
                  stopped = d.says ∙ ap (λ (v : Verdict). Err (late_of v)) a.stopped;
                  verdict = a.verdict;
                  row = d.stays ∙ a.row;
                  rest = ap closed d.is ∙ closed-one t.state lent some ∙ a.rest;
                  good = subst (λ (m : Mem). GoodFor ns r m) (sym d.is) (good-less ns r t.state lent some a.good);
                })

        -- ---- each turn leaves less to do
        less : left rs x < left rs t
        less = go s.onward
          where
            go : Onward (kernel_of rs ns) r t (with_loops lent []) (top_of t.state lent.loops) s.turn (with_loops lent' []) → left rs x < left rs t
            go (inl (e, o)) = let h = row_next t.verdict t.row (row_count rs) e in row-left o h.0 h.1
            go (inr (e, o)) =
                let some = some_open more e in
                rw (s.taking ∙ ap (λ (b : Turned). b.taking) o.answer) (omega arith)

    -- ---- no turn is left
    module _ (done : more_of rs t ≡ false) where
      none_open : t.state.depth ≡ 0
      none_open = go (ltb 0 t.state.depth) refl
        where
          go : (b : Bool) → ltb 0 t.state.depth ≡ b → t.state.depth ≡ 0
          go true q = let z : ◌≡◌ {A = Bool} true false = rw q at done in let y : ◌≡◌ {A = ℕ} 0 1 = cc in absurd (omega arith)
          go false q = let h = ltb-false 0 t.state.depth q in omega arith

      no_row : keeps_going t.verdict (ltb t.row (row_count rs)) ≡ false
      no_row = rw (le-ltb 0 t.state.depth (let w : t.state.depth ≤ 0 = omega (arith, none_open) in w)) at done

      ended : Along t lent → Took rs ns r lent₀ t lent
      ended (inl a) =
          let last = row_last t.row (row_count rs) (rw a.unstopped at no_row) in
          let c = going_end C N m₀ a.going (subst (λ (b : ℕ). b ≤ t.row) (sym (taken-all a.rows-formed)) last) in
          record {
            verdict =
                a.unstopped ∙ ap (λ (b : Bool). when b UnclosedLoop) (sym (le-ltb 0 t.state.depth (let w : t.state.depth ≤ 0 = omega (arith, none_open) in w)))
                ∙ final a.rows-formed (Ok tt) (mem_of t.state lent) c.outcome (came-mem c);
            row = c.end;
            mem = sym (closed_none t.state lent none_open) ∙ ap closed (came-mem c);
            good = a.good;
          }
      ended (inr a) = record { verdict = a.stopped ∙ a.verdict; row = a.row; mem = sym (closed_none t.state lent none_open) ∙ a.rest; good = a.good }

  begun : RoomingIn r lent₀ → Along (start_of rs) lent₀
  begun rooms = go (well_formed (length rs)) refl
    where
      go : (b : Bool) → well_formed (length rs) ≡ b → Along (start_of rs) lent₀
      go true w =
          inl (record { rows-formed = w; unstopped = rw w; going = going_start C N m₀ (taken_rows rs); good = good_zero ns r lent₀ rooms })
      go false w =
          let none = ap (λ (b : Bool). scan_end C N m₀ (cond b (row_count rs) 0) 0) (sym w) in
          inr
          (record {
            why = RowSlice;
            stopped = rw w;
            verdict = rw w;
            row = none;
            rest = ap (λ (i : ℕ). closed (mem_at it m₀ i)) none;
            good = good_zero ns r lent₀ rooms;
          })

-- ---- the same, as the walk of the turns cites it
module _ {rs ns : List ℕ} {r : Rooms} {lent₀ : Lent} where
  pub along_start : RoomingIn r lent₀ → Along rs ns r lent₀ (start_of rs) lent₀
  along_start = begun rs ns r lent₀

  module _ {t : Taking} {lent : Lent} (a : Along rs ns r lent₀ t lent) where
    pub along_ready : more_of rs t ≡ true → Ready (kernel_of rs ns) r t lent
    along_ready e = ready rs ns r lent₀ t lent e a

    pub along_end : more_of rs t ≡ false → Took rs ns r lent₀ t lent
    along_end e = ended rs ns r lent₀ t lent e a

    pub along_next : {x : Taking} {lent' : Lent} → more_of rs t ≡ true → Turnt (kernel_of rs ns) r t lent x lent' → Along rs ns r lent₀ x lent'
    along_next {x} {lent'} e s = onwards rs ns r lent₀ t lent e x lent' s a

    pub left_less : {x : Taking} {lent' : Lent} → more_of rs t ≡ true → Turnt (kernel_of rs ns) r t lent x lent' → left rs x < left rs t
    left_less {x} {lent'} e s = less rs ns r lent₀ t lent e x lent' s
