-- An instrument of the build's proof: a turn for each row that goes the long way, with those seen before it, then one for each loop that is left open.
use Rattle.std.specs.Prelude.{◌≡◌, Bool, true, false, cond, ◌⊎◌, List, [], ℕ, zero, suc, ◌+◌, ◌-◌, ◌≤◌, ◌<◌, length, set, ltb, Ok, Err, Result, Some, None, Option}
use Rattle.std.proofs.lemmas.List.Edits.{sets}
use Rattle.refusals.specs.declared.Refusal.{Refusal}
use Rattle.refusals.specs.declared.Refusal.TheVariants.{RowSlice, UnclosedLoop}
use Rattle.refusals.specs.Answers.{Verdict}
use Rattle.rows.specs.Rows.{well_formed, most_rows}
use Rattle.places.specs.declared.OpenLoop.{OpenLoop}
use Rattle.places.specs.declared.Rooms.{Rooms}
use Rattle.encode.specs.Encoding.{form_parcels}
use Rattle.coded.specs.declared.Coding.{Coding}
use Rattle.items.specs.declared.Item.TheVariants.{Instruction}
use Rattle.checks.specs.Checks.{instruction_chk}
use Rattle.places.specs.Items.{Kernel, kernel, row_at, row_count, size_of}
use Rattle.runs.specs.declared.Run.{Run}
use Rattle.refusals.specs.Order.{or_else}
use Rattle.places.specs.Left.{Lent, zero_loop, with_loops}
use Rattle.machine.specs.declared.State.{State}
use Rattle.machine.specs.declared.Step.{Step}
use Rattle.machine.specs.declared.Step.TheVariants.{On, Opened, Closed}
use Rattle.machine.specs.Machine.{st, advanced, with_parcels, Mem, mem_of, top_of, Fine, GoodFor, Stepped}
use Rattle.machine.specs.Fold.{zero_state, rows_verdict, rows_end, rows_mem}
use Rattle.machine.specs.Finish.{level, close_verdict, closed}
use Rattle.taking.specs.declared.Taking.{Taking}
use Rattle.taking.specs.declared.Turned.{Turned}

-- refusal 1, before any row; and the rows that are taken in
abbrev pub formed : List ℕ → Verdict
formed rs = cond (well_formed (length rs)) (Ok tt) (Err RowSlice)

abbrev pub taken_rows : List ℕ → ℕ
taken_rows rs = cond (well_formed (length rs)) (row_count rs) 0

abbrev pub start_of : List ℕ → Taking
start_of rs = record { state = zero_state; row = 0; verdict = formed rs }

-- whether a row is next; whether there is another turn
abbrev pub keeps_going : Verdict → Bool → Bool
keeps_going (Ok _) t = t
keeps_going (Err r) t = false

abbrev pub more_of : List ℕ → Taking → Bool
more_of rs t = cond (ltb 0 t.state.depth) true (keeps_going t.verdict (ltb t.row (row_count rs)))

-- ---- a turn
abbrev pub went_on : Taking → State → Taking
went_on t s = record { state = s; row = t.row + 1; verdict = Ok tt }

abbrev pub turned_of : Taking → Result Step Refusal → Turned
turned_of t (Ok (On s)) = record { taking = went_on t s; slot = None }
turned_of t (Ok (Opened s start)) = record { taking = went_on t s; slot = Some (t.state.depth, start) }
turned_of t (Ok (Closed s)) = record { taking = went_on t s; slot = Some (t.state.depth - 1, zero_loop) }
turned_of t (Err r) = record { taking = record { state = t.state; row = t.row; verdict = Err r }; slot = None }

abbrev pub late_of : Verdict → Refusal
late_of (Ok _) = UnclosedLoop
late_of (Err r) = r

abbrev pub closed_of : Taking → Refusal → Turned
closed_of t why = record { taking = record { state = level (t.state.depth - 1) t.state; row = t.row; verdict = Err why }; slot = Some (t.state.depth - 1, zero_loop) }

abbrev pub Next : Kernel → Taking → Bool → Type 0
Next k t b = keeps_going t.verdict (ltb t.row k.n) ≡ b

-- ---- the rows that are seen at a glance
abbrev pub run_of : Taking → Run
run_of t = record { row = t.row; at = t.state.at; count = t.state.count; last = t.state.last; short = t.state.short; shortat = t.state.shortat }

abbrev pub after_run : Taking → Run → Taking
after_run t x =
    record {
      state = st x.at t.state.labels t.state.jumps t.state.depth x.count x.last x.short x.shortat t.state.ended;
      row = x.row;
      verdict = Ok tt;
    }

-- a row more than so far: an instruction that passes its checks
pub record Further (k : Kernel) (r : Rooms) (So-far : Taking → List ℕ → Type 0) (x : Taking) (q : List ℕ) : Type 0 where
  pub y : Taking
  pub p : List ℕ
  pub before : So-far y p
  pub coding : Coding
  pub row_is : k.it y.row ≡ Ok (Instruction coding)
  pub passes : instruction_chk r y.state.at y.state.depth coding ≡ Ok tt
  pub left : y.row < k.n
  pub on : x ≡ went_on y (advanced (size_of coding.form) y.state)
  pub parcels : q ≡ sets p y.state.at (form_parcels coding.form)

-- n rows on, and the parcels then
abbrev pub Went : Kernel → Rooms → Taking → List ℕ → ℕ → Taking → List ℕ → Type 0
Went k r t p zero x q = (x ≡ t) × (q ≡ p)
Went k r t p (suc n) x q = Further k r (Went k r t p n) x q

pub record Skimmed (k : Kernel) (r : Rooms) (t : Taking) (p : List ℕ) (x : Taking) (q : List ℕ) : Type 0 where
  pub rows_taken : ℕ
  pub went : Went k r t p rows_taken x q

-- ---- at a row the long way: its step. `lent` and `left` are the buffers but for the loop table
pub record StepTurn (k : Kernel) (r : Rooms) (t : Taking) (lent : Lent) (top : OpenLoop) (y : Turned) (left : Lent) : Type 0 where
  pub step : Result Step Refusal
  pub stepped : Stepped k.names r (k.it t.row) t.row t.state lent top step left
  pub answer : y ≡ turned_of t step

-- at a row: those that are seen, then the next one's step, if there is one; past the rows: a loop closed, nothing else written
pub record RowTurn (k : Kernel) (r : Rooms) (t : Taking) (lent : Lent) (top : OpenLoop) (y : Turned) (left : Lent) : Type 0 where
  pub mid : Taking
  pub parcels : List ℕ
  pub skimmed : Skimmed k r t lent.parcels mid parcels
  pub rest :
      (Next k mid true × StepTurn k r mid (with_parcels lent parcels) top y left)
      ⊎ (Next k mid false × (y ≡ record { taking = mid; slot = None }) × (left ≡ with_parcels lent parcels))

pub record LateTurn (t : Taking) (lent : Lent) (y : Turned) (left : Lent) : Type 0 where
  pub answer : y ≡ closed_of t (late_of t.verdict)
  pub same : left ≡ lent

pub record Stepping (k : Kernel) (r : Rooms) (t : Taking) (lent : Lent) (top : OpenLoop) : Type 0 where
  pub fine : Fine k.names r t.state lent top
  pub few : t.verdict ≡ Ok tt → k.n ≤ most_rows

abbrev pub Onward : Kernel → Rooms → Taking → Lent → OpenLoop → Turned → Lent → Type 0
Onward k r t lent top y left = (Next k t true × RowTurn k r t lent top y left) ⊎ (Next k t false × LateTurn t lent y left)

-- ---- a turn over the loop table: it has the record in its slot, if the turn leaves one
abbrev pub slotted : Option (ℕ × OpenLoop) → List OpenLoop → List OpenLoop
slotted None ks = ks
slotted (Some p) ks = set ks p.0 p.1

pub record Ready (k : Kernel) (r : Rooms) (t : Taking) (lent : Lent) : Type 0 where
  pub good : GoodFor k.names r (mem_of t.state lent)
  pub few : t.verdict ≡ Ok tt → k.n ≤ most_rows

pub record Turnt (k : Kernel) (r : Rooms) (t : Taking) (lent : Lent) (x : Taking) (left : Lent) : Type 0 where
  pub turn : Turned
  pub onward : Onward k r t (with_loops lent []) (top_of t.state lent.loops) turn (with_loops left [])
  pub taking : x ≡ turn.taking
  pub loops : left.loops ≡ slotted turn.slot lent.loops

-- ---- all turns: the verdict on the rows that are taken in, how many pass, and the memory with every loop closed
abbrev pub taken_of : List ℕ → List ℕ → Kernel
taken_of rs ns = kernel ns (row_at rs ns) (taken_rows rs)

module _ (rs ns : List ℕ) (r : Rooms) (lent : Lent) where
  abbrev pub took_verdict : Verdict
  took_verdict = rows_verdict (taken_of rs ns) r (mem_of zero_state lent)

  abbrev pub took_row : ℕ
  took_row = rows_end (taken_of rs ns) r (mem_of zero_state lent)

  abbrev pub took_mem : Mem
  took_mem = rows_mem (taken_of rs ns) r (mem_of zero_state lent)

pub record Took (rs ns : List ℕ) (r : Rooms) (lent : Lent) (x : Taking) (left : Lent) : Type 0 where
  pub verdict : x.verdict ≡ or_else (formed rs) (close_verdict (took_verdict rs ns r lent) (took_mem rs ns r lent))
  pub row : x.row ≡ took_row rs ns r lent
  pub mem : mem_of x.state left ≡ closed (took_mem rs ns r lent)
  pub good : GoodFor ns r (mem_of x.state left)
