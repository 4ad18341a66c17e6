-- Document 01, "Refusal numbers", 2 and 4, at the edge of each bound: the last number that may stand in a place, and the first that may not.
use Prim.Native.Nat.{ℕ}
use mathlib.Core.Path.{◌≡◌, refl}
use mathlib.Core.List.{List, [], ◌∷◌, ◌++◌}
use lib.ListN.{take, replicate}
use Rattle.refusals.specs.declared.Refusal.TheVariants.{Row, InvalidUniversalRegister}
use Rattle.std.specs.Prelude.{Ok, Err}
use Rattle.refusals.specs.Answers.{Verdict}
use Rattle.bounds.specs.Bounds.{fields, compute, bounds_of}
use Rattle.bounds.specs.Checks.{said, places_of, check_of}

-- a row without its trailing zeros, over seven bytes of names
abbrev Says : List ℕ → Verdict → Type 0
Says row v = check_of (take 17 (row ++ replicate 17 0)) 7 ≡ v

pub edges :
    -- "register over 15"
    Says (0 ∷ 15 ∷ 15 ∷ 15 ∷ []) (Ok tt)
    × Says (0 ∷ 16 ∷ []) (Err Row)
    × Says (0 ∷ 0 ∷ 0 ∷ 16 ∷ []) (Err Row)
    -- "bad enumeration"
    × Says (28 ∷ 6 ∷ 0 ∷ 1 ∷ []) (Ok tt)
    × Says (28 ∷ 7 ∷ []) (Err Row)
    × Says (28 ∷ 0 ∷ 0 ∷ 2 ∷ []) (Err Row)
    -- "nonzero spare place", "unknown kind"
    × Says (38 ∷ 1 ∷ []) (Err Row)
    × Says (13 ∷ []) (Err Row)
    × Says (40 ∷ []) (Err Row)
    × Says (52 ∷ []) (Err Row)
    -- "immediate count over 65535"
    × Says (50 ∷ 0 ∷ 65535 ∷ 1 ∷ []) (Ok tt)
    × Says (50 ∷ 0 ∷ 65536 ∷ []) (Err Row)
    -- "name outside the names": an empty name at the very end is inside
    × Says (48 ∷ 7 ∷ 0 ∷ []) (Ok tt)
    × Says (48 ∷ 7 ∷ 1 ∷ []) (Err Row)
    × Says (49 ∷ 0 ∷ 8 ∷ 0 ∷ []) (Err Row)
    -- "universal code 0x60 or more": the first in field order, after any 2
    × Says (16 ∷ 0x5f ∷ 0x5f ∷ []) (Ok tt)
    × Says (16 ∷ 0x60 ∷ 0x61 ∷ []) (Err (InvalidUniversalRegister 0x60))
    × Says (16 ∷ 0x60 ∷ 0 ∷ 1 ∷ []) (Err Row)
unfolding fields compute bounds_of said places_of check_of
edges = (refl, refl, refl, refl, refl, refl, refl, refl, refl, refl, refl, refl, refl, refl, refl, refl, refl, refl)
