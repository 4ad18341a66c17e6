-- An instrument of the build's proof: the end of a build, the waiting jumps, and what is left in the buffers.
use Rattle.std.specs.Prelude.{cond, List, ℕ, zero, suc, ◌+◌, ◌*◌, get_or, set, ltb, Ok, Err}
use Rattle.refusals.specs.declared.Refusal.{Refusal}
use Rattle.refusals.specs.declared.Refusal.TheVariants.{UnclosedLoop}
use Rattle.refusals.specs.Answers.{Verdict}
use Rattle.places.specs.declared.OpenLoop.{OpenLoop}
use Rattle.places.specs.declared.Rooms.{Rooms}
use Rattle.places.specs.Items.{Kernel, label_width, jump_width}
use Rattle.places.specs.Looking.{opener}
use Rattle.refusals.specs.Order.{when, or_else}
use Rattle.places.specs.Left.{lent_of, Outcome, outcome, zero_loop, with_loops}
use Rattle.machine.specs.declared.State.{State}
use Rattle.machine.specs.Machine.{st, with_parcels, Mem, mem_of}
use Rattle.refusals.specs.Scan.{scan_chk, scan_at, scan_end}
use Rattle.tables.specs.Tables.{zeroed}
use Rattle.settling.specs.Settling.{wait_chk, waited}
use Rattle.machine.specs.Fold.{rows_verdict, rows_end, rows_mem}

-- the loop table once the d open loops are closed, the innermost first; and the state then
abbrev pub shut : ℕ → List OpenLoop → List OpenLoop
shut zero ks = ks
shut (suc d) ks = shut d (set ks d zero_loop)

abbrev pub level : ℕ → State → State
level d s = st s.at s.labels s.jumps d s.count s.last s.short s.shortat s.ended

-- ---- the whole build: the answer, and what is left in each buffer
-- refused, and a row named: zeros in what the rows took
abbrev pub wiped : Mem → Refusal → ℕ → Outcome
wiped m why row =
    outcome (Err (record { why = why; row = row })) (lent_of (zeroed m.s.at m.lent.parcels) (zeroed (label_width * m.s.labels) m.lent.labels) (zeroed (jump_width * m.s.jumps) m.lent.jumps) m.lent.loops)

abbrev pub with_p : Mem → List ℕ → Mem
with_p m ps = mem_of m.s (with_parcels m.lent ps)

-- the waiting jumps in turn: what is said of them, the row of the one where they end, and the parcels then
module _ (k : Kernel) (m : Mem) where
  abbrev pub waits : ℕ → List ℕ → Verdict
  waits = wait_chk k m.lent.labels m.s.labels m.lent.jumps

  abbrev pub settles : ℕ → List ℕ → List ℕ
  settles = waited k m.lent.labels m.s.labels m.lent.jumps

  abbrev pub aims_of : Verdict
  aims_of = scan_chk waits settles m.lent.parcels m.s.jumps 0

  abbrev pub aims_end : ℕ
  aims_end = scan_end waits settles m.lent.parcels m.s.jumps 0

  abbrev pub aims_row : ℕ
  aims_row = get_or m.lent.jumps (jump_width * aims_end + 1) 0

  abbrev pub aims_p : List ℕ
  aims_p = scan_at waits settles m.lent.parcels aims_end

abbrev pub aims_out : ℕ → Verdict → Mem → Outcome
aims_out row (Ok _) m = outcome (Ok m.s.at) m.lent
aims_out row (Err why) m = wiped m why row

-- once the rows are taken in, with this verdict on them, which names this row
abbrev pub finish : Kernel → ℕ → Verdict → Mem → Outcome
finish k row (Err why) m = wiped m why row
finish k row (Ok _) m = aims_out (aims_row k m) (aims_of k m) (with_p m (aims_p k m))

-- the verdict on the rows, 23 after theirs; the row that it names, e rows having passed: the next, or past the last row the innermost loop
-- start still open; the memory with every loop closed
abbrev pub close_verdict : Verdict → Mem → Verdict
close_verdict v m = or_else v (when (ltb 0 m.s.depth) UnclosedLoop)

abbrev pub close_row : Kernel → ℕ → ℕ
close_row k e = cond (ltb e k.n) e (opener k.it e)

abbrev pub closed : Mem → Mem
closed m = mem_of (level 0 m.s) (with_loops m.lent (shut m.s.depth m.lent.loops))

-- the rows of a kernel in a memory
abbrev pub out_of : Kernel → Rooms → Mem → Outcome
out_of k r m = finish k (close_row k (rows_end k r m)) (close_verdict (rows_verdict k r m) (rows_mem k r m)) (closed (rows_mem k r m))
