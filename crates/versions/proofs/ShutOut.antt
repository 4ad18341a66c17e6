-- Document 01, "Versions it has to shut out": none meets the contract; the list that shows it is computed.
use Prim.Native.Nat.{ℕ}
use native.Mathlib.Omega.{arith}
use mathlib.Core.Path.{◌≡◌, ap}
use mathlib.Core.List.{List, [], ◌∷◌}
use lib.ListN.{take, get_or}
use Rattle.bounds.specs.Bounds.{fields, bounds_of}
use Rattle.bounds.specs.Checks.{said, places_of, check_of}
use Rattle.encode.specs.Layouts.{layout_of}
use Rattle.encode.specs.Encoding.{form_of, parcels_of, verdict_of}
use Rattle.rows.specs.Fields.{others, instruction_of}
use Rattle.rows.specs.Rows.{row_width, item_of, read_of}
use Rattle.refusals.specs.declared.Told.{Told}
use Rattle.places.specs.Left.{Lent}
use Rattle.counts.specs.declared.Counting.{Counting}
use Rattle.counts.specs.declared.Counting.TheVariants.{Parcels, Instructions}
use Rattle.places.specs.Kernels.{rows, sevens}
use Rattle.versions.specs.Versions.{Build, BuildMeets, Count, CountMeets}

-- a Nop; a WideNop; two Nops
abbrev nop : List ℕ
nop = rows ((38 ∷ []) ∷ [])

abbrev wide : List ℕ
wide = rows ((39 ∷ []) ∷ [])

abbrev nops : List ℕ
nops = rows ((38 ∷ []) ∷ (38 ∷ []) ∷ [])

-- the first parcels of the lent ones
abbrev given : Build → List ℕ → ℕ → ℕ
given b list i = get_or (b list [] sevens).1.parcels i 0

module _ (b : Build) (meets : BuildMeets b) where
  nop-told : (b nop [] sevens).0.number ≡ 0
  unfolding fields bounds_of said places_of check_of layout_of form_of parcels_of verdict_of others instruction_of item_of read_of
  nop-told = ap (λ (t : Told). t.number) (meets nop [] sevens).answer

  wide-told : (b wide [] sevens).0.number ≡ 0
  unfolding fields bounds_of said places_of check_of layout_of form_of parcels_of verdict_of others instruction_of item_of read_of
  wide-told = ap (λ (t : Told). t.number) (meets wide [] sevens).answer

  nop-given : given b nop 0 ≡ 1
  unfolding fields bounds_of said places_of check_of layout_of form_of parcels_of verdict_of others instruction_of item_of read_of
  nop-given = ap (λ (ps : List ℕ). get_or ps 0 0) (meets nop [] sevens).parcels

  wide-given : given b wide 0 ≡ 0
  unfolding fields bounds_of said places_of check_of layout_of form_of parcels_of verdict_of others instruction_of item_of read_of
  wide-given = ap (λ (ps : List ℕ). get_or ps 0 0) (meets wide [] sevens).parcels

  nops-given : given b nops 1 ≡ 1
  unfolding fields bounds_of said places_of check_of layout_of form_of parcels_of verdict_of others instruction_of item_of read_of
  nops-given = ap (λ (ps : List ℕ). get_or ps 1 0) (meets nops [] sevens).parcels

  nop-alone : given b nop 1 ≡ 7
  unfolding fields bounds_of said places_of check_of layout_of form_of parcels_of verdict_of others instruction_of item_of read_of
  nop-alone = ap (λ (ps : List ℕ). get_or ps 1 0) (meets nop [] sevens).parcels

  -- "a build refusing all lists"
  pub refuses_all_shut_out : ((list names : List ℕ) (lent : Lent) → (b list names lent).0.number ≡ 0 → ⊥) → ⊥
  refuses_all_shut_out h = h nop [] sevens nop-told

  -- "one giving the same parcels always": whatever accepted list it is given, these parcels at the front
  pub same_parcels_shut_out :
      (parcels : List ℕ) → ((list names : List ℕ) (lent : Lent) → (b list names lent).0.number ≡ 0 → get_or (b list names lent).1.parcels 0 0 ≡ get_or parcels 0 0) → ⊥
  same_parcels_shut_out parcels h =
      let x = h nop [] sevens nop-told in
      let y = h wide [] sevens wide-told in
      let p = nop-given in
      let q = wide-given in
      omega arith

  -- "one that writes nothing"
  pub writes_nothing_shut_out : ((list names : List ℕ) (lent : Lent) → (b list names lent).1 ≡ lent) → ⊥
  writes_nothing_shut_out h =
      let x = ap (λ (lent : Lent). get_or lent.parcels 0 0) (h nop [] sevens) in
      let p = nop-given in
      omega arith

  -- "one that handles the first item and skips the others"
  pub first_item_only_shut_out : ((list names : List ℕ) (lent : Lent) → (b list names lent).1 ≡ (b (take row_width list) names lent).1) → ⊥
  first_item_only_shut_out h =
      let x = ap (λ (lent : Lent). get_or lent.parcels 1 0) (h nops [] sevens) in
      let p = nops-given in
      let q = nop-alone in
      omega arith

-- "a parcel or instruction count made up": the same count for every list
made_up : (what : Counting) (c : Count) → CountMeets what c → (n : ℕ) → ((list names : List ℕ) → (c list names).number ≡ 0 → (c list names).count ≡ n) → ((c [] []).number ≡ 0) × ((c [] []).count ≡ 0) × ((c nop []).number ≡ 0) × ((c nop []).count ≡ 1) → ⊥
made_up what c meets n h k =
    let x = h [] [] k.0 in
    let y = h nop [] k.2 in
    let p = k.1 in
    let q = k.3 in
    omega arith

pub parcel_count_made_up_shut_out : (c : Count) → CountMeets Parcels c → (n : ℕ) → ((list names : List ℕ) → (c list names).number ≡ 0 → (c list names).count ≡ n) → ⊥
unfolding fields bounds_of said places_of check_of layout_of form_of parcels_of verdict_of others instruction_of item_of read_of
parcel_count_made_up_shut_out c meets n h =
    made_up Parcels c meets n h (
      ap (λ (t : Told). t.number) (meets [] []),
      ap (λ (t : Told). t.count) (meets [] []),
      ap (λ (t : Told). t.number) (meets nop []),
      ap (λ (t : Told). t.count) (meets nop []),
    )

pub instruction_count_made_up_shut_out : (c : Count) → CountMeets Instructions c → (n : ℕ) → ((list names : List ℕ) → (c list names).number ≡ 0 → (c list names).count ≡ n) → ⊥
unfolding fields bounds_of said places_of check_of layout_of form_of parcels_of verdict_of others instruction_of item_of read_of
instruction_count_made_up_shut_out c meets n h =
    made_up Instructions c meets n h (
      ap (λ (t : Told). t.number) (meets [] []),
      ap (λ (t : Told). t.count) (meets [] []),
      ap (λ (t : Told). t.number) (meets nop []),
      ap (λ (t : Told). t.count) (meets nop []),
    )
