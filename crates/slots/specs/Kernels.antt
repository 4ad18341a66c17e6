-- How the lists around slots are read: rows without their trailing zeros, checked without names.
use Rattle.std.specs.Prelude.{◌≡◌, List, [], ℕ}
use Rattle.refusals.specs.declared.Told.{Told}
use Rattle.refusals.specs.Numbers.{counted, in_row, answer_of, answered}
use Rattle.places.specs.Kernels.{rows}
use Rattle.slots.specs.Slots.{slot_check_of}

-- 0; or a refusal's number and details, and the row that it names
abbrev pub Passes : List (List ℕ) → Type 0
Passes kernel = answered (answer_of (slot_check_of (rows kernel) []) 0) ≡ counted 0

abbrev pub Refuses : List (List ℕ) → ℕ → Told → Type 0
Refuses kernel row told = answered (answer_of (slot_check_of (rows kernel) []) 0) ≡ in_row row told
