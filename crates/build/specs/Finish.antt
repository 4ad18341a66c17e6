-- An instrument of the build's proof: the end of a build. The loop table stays as it is there, whatever it is.
use Rattle.std.specs.Prelude.{◌≡◌, List, ℕ, ◌≤◌, length, Ok}
use Rattle.refusals.specs.declared.Refusal.{Refusal}
use Rattle.refusals.specs.Answers.{Answer}
use Rattle.rows.specs.Rows.{most_rows}
use Rattle.places.specs.declared.OpenLoop.{OpenLoop}
use Rattle.places.specs.Items.{Kernel}
use Rattle.places.specs.Left.{Lent, Outcome, with_loops}
use Rattle.settling.specs.Settling.{AimsFine, Used}
use Rattle.machine.specs.declared.State.{State}
use Rattle.machine.specs.Machine.{mem_of}
use Rattle.ends.specs.Ends.{Closed}
use Rattle.machine.specs.Finish.{wiped, finish, close_row}
use Rattle.taking.specs.declared.Taking.{Taking}

-- an answer and the buffers' contents are an outcome
pub record Ends (o : Outcome) (r : Answer) (lent : Lent) : Type 0 where
  pub answer : r ≡ o.answer
  pub parcels : lent.parcels ≡ o.lent.parcels
  pub labels : lent.labels ≡ o.lent.labels
  pub jumps : lent.jumps ≡ o.lent.jumps
  pub loops : lent.loops ≡ o.lent.loops

abbrev pub Wiped : Refusal → ℕ → State → Lent → Answer → Lent → Type 0
Wiped why row s lent a left = (loops : List OpenLoop) → Ends (wiped (mem_of s (with_loops lent loops)) why row) a (with_loops left loops)

-- the rows before this one passed
pub record Passed (k : Kernel) (row : ℕ) : Type 0 where
  pub before : row ≤ k.n
  pub few : row ≤ most_rows
  pub closed : Closed k.it row

pub record Finishing (k : Kernel) (t : Taking) (lent : Lent) : Type 0 where
  pub passed : Passed k t.row
  pub used : Used t.state.at t.state.labels t.state.jumps (length lent.parcels) (length lent.labels) (length lent.jumps)
  pub aims : t.verdict ≡ Ok tt → AimsFine k lent.labels t.state.labels lent.jumps t.state.jumps (length lent.parcels)

pub record Finished (k : Kernel) (t : Taking) (lent : Lent) (a : Answer) (left : Lent) : Type 0 where
  pub ends : (loops : List OpenLoop) → Ends (finish k (close_row k t.row) t.verdict (mem_of t.state (with_loops lent loops))) a (with_loops left loops)
