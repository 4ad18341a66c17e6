-- Document 01: "parcels to bytes, low byte first, nothing changed past twice their number", and refusal 34.
use Rattle.std.specs.Prelude.{◌≡◌, cond, List, [], ◌∷◌, ◌++◌, ℕ, ◌*◌, ◌/◌, ◌%◌, length, drop, pos, ltb, Result, Ok, Err}
use Rattle.refusals.specs.Numbers.{told_of}
use Rattle.refusals.specs.declared.Refusal.{Refusal}
use Rattle.refusals.specs.declared.Refusal.TheVariants.{NoRoomForBytes}
use Rattle.parcel_bytes.specs.declared.ToldBytes.{ToldBytes}

-- the answer in numbers: 0 and the bytes written, or a refusal's number and its detail
abbrev pub told_bytes : Result ℕ Refusal → ToldBytes
told_bytes (Ok n) = record { bytes = n; first = pos 0; third = pos 0; number = 0; spare = 0 }
told_bytes (Err r) = record { bytes = 0; first = (told_of r).first; third = (told_of r).third; number = (told_of r).number; spare = 0 }

-- "low byte first"
abbrev pub low_first : List ℕ → List ℕ
low_first [] = []
low_first (p ∷ ps) = p % 256 ∷ p / 256 ∷ low_first ps

-- what the call comes to: the answer in numbers, and the lent bytes
pub record Outcome : Type 0 where
  pub told : ToldBytes
  pub bytes : List ℕ

abbrev pub outcome : Result ℕ Refusal → List ℕ → Outcome
outcome w bytes = record { told = told_bytes w; bytes = bytes }

-- "bytes fewer than twice the parcels; nothing written": 34 with the bytes lent; else "nothing changed past twice their number"
abbrev pub to_bytes : List ℕ → List ℕ → Outcome
to_bytes parcels bytes =
    cond (ltb (length bytes) (2 * length parcels)) (outcome (Err (NoRoomForBytes (length bytes))) bytes)
    (outcome (Ok (2 * length parcels)) (low_first parcels ++ drop (2 * length parcels) bytes))

-- the promise: the numbers told and the bytes left are what the call comes to
pub record Writes (parcels lent : List ℕ) (t : ToldBytes) (left : List ℕ) : Type 0 where
  pub told : t ≡ (to_bytes parcels lent).told
  pub bytes : left ≡ (to_bytes parcels lent).bytes
