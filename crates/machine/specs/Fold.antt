-- An instrument of the build's proof: the state and the buffers along the rows.
use Rattle.std.specs.Prelude.{ℕ, zero, suc}
use Rattle.refusals.specs.Answers.{Verdict}
use Rattle.coded.specs.Coded.{Coded}
use Rattle.places.specs.declared.Rooms.{Rooms}
use Rattle.places.specs.Items.{Kernel}
use Rattle.machine.specs.declared.State.{State}
use Rattle.machine.specs.Machine.{Mem, st, check, next}
use Rattle.refusals.specs.Scan.{scan_chk, scan_end}

abbrev pub zero_state : State
zero_state = st 0 0 0 0 0 0 0 0 0

-- the state and the buffers once i rows are taken in
abbrev pub mem_at : (ℕ → Coded) → Mem → ℕ → Mem
mem_at it m zero = m
mem_at it m (suc i) = next i (it i) (mem_at it m i)

-- the rows of a kernel in turn: the first refusal, how many rows pass before it, and the state and the buffers then
module _ (k : Kernel) (r : Rooms) where
  abbrev pub row_chk : ℕ → Mem → Verdict
  row_chk i m = check k.names r (k.it i) m

  abbrev pub row_next_mem : ℕ → Mem → Mem
  row_next_mem i m = next i (k.it i) m

  abbrev pub rows_verdict : Mem → Verdict
  rows_verdict m = scan_chk row_chk row_next_mem m k.n 0

  abbrev pub rows_end : Mem → ℕ
  rows_end m = scan_end row_chk row_next_mem m k.n 0

  abbrev pub rows_mem : Mem → Mem
  rows_mem m = mem_at k.it m (rows_end m)
