-- Fine points of what a row says, each computed.
use Prim.Native.Nat.{ℕ}
use mathlib.Core.List.{List, [], ◌∷◌, ◌++◌}
use mathlib.Core.Path.{◌≡◌, refl}
use lib.ListN.{take, replicate}
use Rattle.bounds.specs.Bounds.{fields, compute, bounds_of}
use Rattle.bounds.specs.Checks.{said, places_of, check_of}
use Rattle.computes.specs.Compute.{made_multi}
use Rattle.refusals.specs.declared.Refusal.{Refusal}
use Rattle.refusals.specs.declared.Refusal.TheVariants as refusal
use Rattle.items.specs.declared.LoopCount.TheVariants.{Immediate}
use Rattle.items.specs.declared.LoopMode.TheVariants.{E2Active}
use Rattle.items.specs.declared.Item.TheVariants.{Label, LoopBegin}
use Rattle.std.specs.Prelude.{Ok, Err, Result}
use Rattle.items.specs.declared.Item.{Item}
use Rattle.items.specs.declared.VisaInstruction.{VisaInstruction}
use Rattle.rows.specs.Fields.{alu_op_of, mode_of, count_of}
use Rattle.rows.specs.Rows.{compute_of, beside_of, item_of, read_of}

-- a row that begins with these numbers, zeros after them, and nine bytes of names
abbrev says : List ℕ → Result (Item VisaInstruction) Refusal
says numbers = read_of (take 17 (numbers ++ replicate 17 0)) 9

abbrev refuses : List ℕ → Refusal → Type 0
refuses numbers r = says numbers ≡ Err r

-- Any 2 comes before any 4, and of two 4s the first in field order stands.
two_and_four :
    refuses (16 ∷ 96 ∷ 96 ∷ 1 ∷ []) refusal.Row ×
    refuses (16 ∷ 97 ∷ 96 ∷ []) (refusal.InvalidUniversalRegister 97) ×
    refuses (16 ∷ 1 ∷ 4294967295 ∷ []) (refusal.InvalidUniversalRegister 4294967295) ×
    refuses (19 ∷ 96 ∷ 16 ∷ []) refusal.Row ×
    refuses (50 ∷ 1 ∷ 96 ∷ 2 ∷ []) refusal.Row ×
    refuses (50 ∷ 1 ∷ 96 ∷ []) (refusal.InvalidUniversalRegister 96)
unfolding read_of check_of places_of said bounds_of fields
two_and_four = (refl, refl, refl, refl, refl, refl)

-- A 4 comes before 17 to 19, also where its place is later; the six places after a single's kind that is no compute aren't read.
before_construction :
    refuses (34 ∷ 1 ∷ 9 ∷ 77 ∷ 77 ∷ 77 ∷ 77 ∷ 77 ∷ 77 ∷ 0 ∷ 96 ∷ []) (refusal.InvalidUniversalRegister 96) ×
    refuses (34 ∷ 2 ∷ 0 ∷ 4 ∷ 5 ∷ 0 ∷ 2 ∷ 9 ∷ 13 ∷ 0 ∷ 96 ∷ []) (refusal.InvalidUniversalRegister 96) ×
    refuses (34 ∷ 1 ∷ 9 ∷ 77 ∷ 77 ∷ 77 ∷ 77 ∷ 77 ∷ 77 ∷ 2 ∷ []) refusal.Row ×
    refuses (32 ∷ 1 ∷ 9 ∷ 77 ∷ 77 ∷ 77 ∷ 77 ∷ 77 ∷ 77 ∷ 1 ∷ []) refusal.Row ×
    refuses (32 ∷ 1 ∷ 9 ∷ 77 ∷ 77 ∷ 77 ∷ 77 ∷ 77 ∷ 77 ∷ []) refusal.NotACompute ×
    refuses (32 ∷ 1 ∷ 34 ∷ 77 ∷ []) refusal.NotACompute ×
    refuses (32 ∷ 1 ∷ 0 ∷ 0 ∷ 0 ∷ 16 ∷ []) refusal.Row ×
    refuses (32 ∷ 1 ∷ 13 ∷ []) refusal.Row ×
    refuses (32 ∷ 1 ∷ 40 ∷ []) refusal.Row ×
    refuses (32 ∷ 1 ∷ 48 ∷ []) refusal.Row ×
    refuses (32 ∷ []) refusal.Row ×
    refuses (32 ∷ 3 ∷ []) refusal.Row
unfolding read_of check_of places_of said bounds_of fields compute item_of compute_of beside_of
before_construction = (refl, refl, refl, refl, refl, refl, refl, refl, refl, refl, refl, refl)

-- 18 in input order, then 19.
multifunction :
    refuses (32 ∷ 2 ∷ 2 ∷ 4 ∷ 0 ∷ 0 ∷ 2 ∷ 0 ∷ 0 ∷ []) (refusal.MultifunctionOperand 0 4) ×
    refuses (32 ∷ 2 ∷ 2 ∷ 0 ∷ 4 ∷ 0 ∷ 2 ∷ 8 ∷ 0 ∷ []) (refusal.MultifunctionOperand 3 0) ×
    refuses (32 ∷ 2 ∷ 2 ∷ 0 ∷ 4 ∷ 0 ∷ 2 ∷ 8 ∷ 12 ∷ []) (refusal.DuplicateDestination 2)
unfolding read_of check_of places_of said bounds_of fields compute item_of compute_of made_multi alu_op_of
multifunction = (refl, refl, refl)

-- A zero count is read, one over 65535 is 2.
counts :
    (says (50 ∷ []) ≡ Ok (LoopBegin (Immediate 0) E2Active)) ×
    (says (50 ∷ 0 ∷ 65535 ∷ []) ≡ Ok (LoopBegin (Immediate 65535) E2Active)) ×
    refuses (50 ∷ 0 ∷ 65536 ∷ []) refusal.Row
unfolding read_of check_of places_of said bounds_of fields item_of count_of mode_of
counts = (refl, refl, refl)

-- An empty name at the very end lies in the names; one that starts past it does not, and no sum wraps.
names :
    (says (48 ∷ 9 ∷ 0 ∷ []) ≡ Ok (Label 9 0)) ×
    (says (48 ∷ 0 ∷ 9 ∷ []) ≡ Ok (Label 0 9)) ×
    refuses (48 ∷ 10 ∷ 0 ∷ []) refusal.Row ×
    refuses (48 ∷ 1 ∷ 9 ∷ []) refusal.Row ×
    refuses (48 ∷ 1 ∷ 4294967295 ∷ []) refusal.Row ×
    refuses (49 ∷ 0 ∷ 1 ∷ 9 ∷ []) refusal.Row
unfolding read_of check_of places_of said bounds_of fields item_of
names = (refl, refl, refl, refl, refl, refl)
