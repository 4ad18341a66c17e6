-- An instrument of the builds' proofs: what a look over the rows leans on.
use Rattle.std.specs.Prelude.{◌≡◌, List, ℕ, ◌≤◌, ◌<◌, eqb, Ok}
use Rattle.refusals.specs.Answers.{Verdict}
use Rattle.coded.specs.Coded.{Coded}
use Rattle.refusals.specs.Order.{first}
use Rattle.rows.specs.Rows.{most_rows}
use Rattle.items.specs.declared.Item.TheVariants.{LoopEnd}
use Rattle.places.specs.declared.Rooms.{Rooms}
use Rattle.places.specs.Items.{Kernel, row_count, about, nest}
use Rattle.places.specs.Looking.{latest}
use Rattle.places.specs.Verdict.{faults}

-- the row of the last instruction before i
abbrev pub last_row : (ℕ → Coded) → ℕ → ℕ
last_row it i = latest (λ k. eqb (about (it k)).entry 1) (λ k. k) 0 i

-- the rows before i are there to be read
abbrev pub Rows : List ℕ → ℕ → Type 0
Rows rows i = (i ≤ row_count rows) × (row_count rows ≤ most_rows)

-- each loop end before i closes a loop
abbrev pub Closed : (ℕ → Coded) → ℕ → Type 0
Closed it i = (q : ℕ) → q < i → (about (it q)).closes ≡ 1 → 0 < nest it q

-- a loop starts in row i, and every loop of the rows is closed
pub record Starts (rows : List ℕ) (it : ℕ → Coded) (i : ℕ) : Type 0 where
  pub few : row_count rows ≤ most_rows
  pub before : i < row_count rows
  pub opens : (about (it i)).opens ≡ 1
  pub closed : Closed it (row_count rows)
  pub none_open : nest it (row_count rows) ≡ 0

-- the verdict on a loop end in row i, whatever the rooms
abbrev pub EndsBy : Kernel → ℕ → Verdict → Type 0
EndsBy k i v = (rooms : Rooms) → v ≡ first (faults k rooms i (Ok LoopEnd))
