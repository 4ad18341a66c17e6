-- An instrument of the build's proof: what an item is refused for at its place, by numbers alone.
use Rattle.std.specs.Prelude.{◌&&◌, List, [], ◌∷◌, ℕ, ◌+◌, ltb}
use Rattle.refusals.specs.declared.Refusal.TheVariants.{DuplicateLabel, BranchInLoop, LabelInLoop, NoRoomForParcels, NoRoomForLabels, NoRoomForJumps, NoRoomForLoops}
use Rattle.refusals.specs.Answers.{Verdict}
use Rattle.refusals.specs.Order.{when, first}
use Rattle.items.specs.Kinds.{is_branch}
use Rattle.encode.specs.Encoding.{form_verdict}
use Rattle.coded.specs.declared.Coding.{Coding}
use Rattle.places.specs.declared.Rooms.{Rooms}
use Rattle.places.specs.Items.{size_of}
use Rattle.tables.specs.Tables.{lookup, is_there}

-- an instruction at a place, so many loops open: 27, the encoding's, 29
abbrev pub instruction_chk : Rooms → ℕ → ℕ → Coding → Verdict
instruction_chk r at depth c =
    first
    (when (is_branch c.kind && ltb 0 depth) BranchInLoop
    ∷ form_verdict c.form
    ∷ when (ltb r.parcels (at + size_of c.form)) (NoRoomForParcels r.parcels)
    ∷ [])

-- a label of the name at a of length b, the names and n label entries given: 28, 11, 30
abbrev pub label_chk : Rooms → ℕ → List ℕ → List ℕ → ℕ → ℕ → ℕ → Verdict
label_chk r depth ns ls n a b =
    first
    (when (ltb 0 depth) (LabelInLoop a b)
    ∷ when (is_there (lookup ns ls a b n)) (DuplicateLabel a b)
    ∷ when (ltb r.labels (n + 1)) (NoRoomForLabels r.labels)
    ∷ [])

-- a jump at a place, so many jumps waiting: 27, 31, 29
abbrev pub jump_chk : Rooms → ℕ → ℕ → ℕ → Verdict
jump_chk r at jumps depth =
    first
    (when (ltb 0 depth) BranchInLoop
    ∷ when (ltb r.jumps (jumps + 1)) (NoRoomForJumps r.jumps)
    ∷ when (ltb r.parcels (at + 3)) (NoRoomForParcels r.parcels)
    ∷ [])

-- a loop start at a place: 32, 29
abbrev pub begin_chk : Rooms → ℕ → ℕ → Verdict
begin_chk r at depth =
    first
    (when (ltb r.loops (depth + 1)) (NoRoomForLoops r.loops)
    ∷ when (ltb r.parcels (at + 3)) (NoRoomForParcels r.parcels)
    ∷ [])
