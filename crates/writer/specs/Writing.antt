-- What a writer is once something is appended.
use Rattle.std.specs.Prelude.{ℕ, ◌+◌, List, take}
use Rattle.std.proofs.lemmas.List.Edits.{sets}
use denote.Ref.{at_last}
use Rattle.writer.specs.declared.Writer.{Writer}

-- "A writer holds the lent parcels and the next free place, appends, and patches earlier places": the same borrow, with the first n words from
-- the next free place on, and that place n further. (`at_last x l` is the reference x at the list l.)
abbrev pub appended : Writer → List ℕ → ℕ → Writer
appended w words n = record { parcels = at_last w.parcels (sets w.parcels.now w.at (take n words)); at = w.at + n }
