-- Document 02, wish 4, of a whole kernel: what the parcels of an accepted build are read back as.
use Rattle.std.specs.Prelude.{◌≡◌, ◌⊎◌, List, ◌∷◌, ℕ, ◌*◌, ◌<◌, take, drop, replicate, pos, ◌-ℤ◌, Ok}
use Rattle.items.specs.declared.Condition.{Condition}
use Rattle.items.specs.declared.LoopCount.{LoopCount}
use Rattle.items.specs.declared.LoopMode.{LoopMode}
use Rattle.bounds.specs.Tables.{at}
use Rattle.rows.specs.Rows.{row_width}
use Rattle.rows.specs.Fields.{signed}
use Rattle.coded.specs.declared.Coding.{Coding}
use Rattle.items.specs.declared.Item.TheVariants.{Instruction, Jump, LoopBegin}
use Rattle.places.specs.Items.{row_at, row_count, kernel_of, is_entry, place, address, entries}
use Rattle.rules.specs.Rules.{Aimed}
use Rattle.known.specs.Twins.{Twin}

-- row k of a slice of rows
abbrev pub row : List ℕ → ℕ → List ℕ
row rows k = take row_width (drop (k * row_width) rows)

module _ (rows names : List ℕ) where
  -- what item i comes back as: an instruction as its own row, or as the one of larger kind with the same parcels; "Loop starts come back as
  -- kind 50, jumps as kind 28", a jump with its condition and its offset, label minus jump start
  pub data ComesBack (i : ℕ) (back : List ℕ) : Type 0 where
    instruction : (c : Coding) → row_at rows names i ≡ Ok (Instruction c) → (back ≡ row rows i) ⊎ Twin (row rows i) back → ComesBack i back
    jump :
        (c : Condition) (a b offset : ℕ) (aimed : Aimed (kernel_of rows names) i a b) → row_at rows names i ≡ Ok (Jump c a b) →
        signed offset ≡ pos (address (row_at rows names) aimed.row) -ℤ pos (address (row_at rows names) i) →
        back ≡ 28 ∷ at (row rows i) 1 ∷ offset ∷ 0 ∷ replicate 13 0 → ComesBack i back
    loop_start : (c : LoopCount) (m : LoopMode) → row_at rows names i ≡ Ok (LoopBegin c m) → back ≡ row rows i → ComesBack i back

  -- each item that has parcels is a row of what was read, in item order, with the item's place
  abbrev pub Returned : List ℕ → List ℕ → Type 0
  Returned rows' places' =
      (i : ℕ) → i < row_count rows → is_entry (row_at rows names i) ≡ 1 →
      ComesBack i (row rows' (entries (row_at rows names) i)) × (at places' (entries (row_at rows names) i) ≡ place (row_at rows names) i)
