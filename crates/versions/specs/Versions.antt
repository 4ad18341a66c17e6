-- Document 01, "How strong the contracts are": a version of a call, whatever it does, and that it meets the call's contract.
use Rattle.std.specs.Prelude.{ℕ, List}
use Rattle.refusals.specs.declared.Told.{Told}
use Rattle.places.specs.Left.{Lent, Builds}
use Rattle.counts.specs.declared.Counting.{Counting}
use Rattle.counts.specs.Counts.{Counts}

-- a build: rows, names and what is lent to what is told and what is left
abbrev pub Build : Type 0
Build = List ℕ → List ℕ → Lent → Told × Lent

abbrev pub BuildMeets : Build → Type 0
BuildMeets b = (rows names : List ℕ) (lent : Lent) → Builds rows names lent (b rows names lent).0 (b rows names lent).1

-- a count: rows and names to what is told
abbrev pub Count : Type 0
Count = List ℕ → List ℕ → Told

abbrev pub CountMeets : Counting → Count → Type 0
CountMeets what c = (rows names : List ℕ) → Counts what rows names (c rows names)
