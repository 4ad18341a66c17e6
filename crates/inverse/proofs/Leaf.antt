-- The front of an instruction's parcels with others after them. Only `LeafReturn`'s first two stand for another instruction, and what follows
-- them there starts no known form.
use Prim.Native.Nat.{ℕ, ◌≤◌, ◌<◌}
use native.Mathlib.Omega.{arith}
use mathlib.Core.Path.{◌≡◌, refl, sym, ap, ◌∙◌}
use mathlib.Core.Logic.{◌⊎◌, inl, inr}
use mathlib.Core.Bool.{Bool, true, false}
use mathlib.Core.List.{List, [], ◌∷◌, ◌++◌}
use lib.ListN.{length}
use Rattle.encode.specs.Layouts.{layout_of}
use Rattle.encode.proofs.Sizes.{parcels-some}
use Rattle.rows.specs.Fields.{instruction_of, scalars}
use Rattle.rows.specs.Fields as rows
use Rattle.bounds.specs.Tables.{at}
use Rattle.encode.specs.Registers.{in_dag}
use Rattle.std.specs.Prelude.{Some, None}
use Rattle.known.specs.Front.{EncodesTo, Front, Parcels}
use Rattle.known.specs.Front as front
use Rattle.known.specs.Table.{known, line, table, known_in, compute_lines, compute_at, beside_at}
use Rattle.known.specs.Window.{starts_leaf, known_at, reading_of, reading_at}
use Rattle.known.proofs.Leaf.{leaf-taken}
use Rattle.back.proofs.Larger.{larger_row, not_lower}
use Rattle.back.proofs.Returning.{row-known}
use Rattle.inverse.proofs.Fronts.{leaf_parcels, leaf_row, same_known, front-is}

one-unknown : known_at (0x4dfe ∷ []) ≡ None
unfolding known_at known_in table in_dag beside_at compute_at compute_lines layout_of instruction_of scalars rows.others
one-unknown = refl

pub three-two : known_at (0x4dfe ∷ 0x0e3f ∷ 0x083f ∷ []) ≡ Some (known 2 (line 21 28 6 7))
unfolding known_at known_in table in_dag
three-two = refl

-- LeafReturn's row is the only one of its parcels
leaf-largest : larger_row leaf_row ≡ leaf_row
leaf-largest = not_lower leaf_row refl

-- no instruction that is shorter looks like LeafReturn, but with a third parcel of LeafReturn's after it
first_parcel : (x : ℕ) (xs : List ℕ) → starts_leaf (x ∷ xs) ≡ true → x ≡ 0x4dfe
first_parcel x xs l = ap (λ (ps : List ℕ). at ps 0) (leaf-taken (x ∷ xs) l)

none_after : (i : ℕ) → at [] i < 0x1_0000
none_after i = omega arith

too_short :
    (own rest row : List ℕ) → ((after : List ℕ) → rest ≡ 0x083f ∷ after → ⊥) → 1 ≤ length own → length own ≤ 3 →
    ((more : List ℕ) → Parcels more → starts_leaf (own ++ more) ≡ false → known_at (own ++ more) ≡ Some (known (length own) row)) → starts_leaf (own ++ rest) ≡ true → ⊥
too_short [] rest row third some few f l = omega (arith, some)
too_short (x ∷ []) rest row third some few f l =
    let e = first_parcel x rest l in
    let k : known_at (0x4dfe ∷ []) ≡ Some (known 1 row) = rw e at (f [] none_after (rw e refl)) in
    let n : ◌≡◌ {A = ℕ} 0 1 = cc one-unknown in
    omega (arith, n)
too_short (x ∷ y ∷ []) [] row third some few f l =
    let q = ap length (leaf-taken (x ∷ y ∷ []) l) in
    omega (arith, q)
too_short (x ∷ y ∷ []) (r ∷ rest) row third some few f l =
    let q : r ≡ 0x083f = ap (λ (ps : List ℕ). at ps 2) (leaf-taken (x ∷ y ∷ r ∷ rest) l) in
    third rest (rw q refl)
too_short (x ∷ y ∷ z ∷ []) rest row third some few f l =
    let q = leaf-taken (x ∷ y ∷ z ∷ rest) l in
    let a : x ≡ 0x4dfe = ap (λ (ps : List ℕ). at ps 0) q in
    let b : y ≡ 0x0e3f = ap (λ (ps : List ℕ). at ps 1) q in
    let c : z ≡ 0x083f = ap (λ (ps : List ℕ). at ps 2) q in
    let k : known_at (0x4dfe ∷ 0x0e3f ∷ 0x083f ∷ []) ≡ Some (known 3 row) = rw (a, b, c) at (f [] none_after (rw (a, b, c) refl)) in
    let n = (same_known (sym three-two ∙ k)).0 in
    omega (arith, n)
too_short (x ∷ y ∷ z ∷ w ∷ own) rest row third some few f l = omega (arith, few)

-- THE THEOREM: an instruction's parcels are read as it, or as the row of larger kind, whatever follows them that does not start as LeafReturn's third
module _ (own rest row : List ℕ) (p : Parcels (own ++ rest)) (after : Parcels rest) (third : (more : List ℕ) → rest ≡ 0x083f ∷ more → ⊥) (e : EncodesTo own row) where
  some : 1 ≤ length own
  some = let m = parcels-some e.instruction e.good in let k = ap length e.same in omega (arith, m, k)

  fronts : known_at (own ++ rest) ≡ Some (known (length own) (larger_row row)) → Front (own ++ rest) (front.known (length own) (larger_row row))
  fronts k =
      let t : reading_at (own ++ rest) ≡ front.known (length own) (larger_row row) = ap reading_of k in
      rw (← t) (front-is (own ++ rest) p)

  leaf-known : own ≡ leaf_parcels → row ≡ leaf_row → known_at (own ++ rest) ≡ Some (known (length own) (larger_row row))
  unfolding known_at
  leaf-known o r = rw (o, r, leaf-largest)

  pub instruction-front : Front (own ++ rest) (front.known (length own) (larger_row row))
  instruction-front = go (row-known row own e) (starts_leaf (own ++ rest)) refl
    where
      go :
          ((length own ≤ 3) × ((more : List ℕ) → Parcels more → starts_leaf (own ++ more) ≡ false → known_at (own ++ more) ≡ Some (known (length own) (larger_row row))))
          ⊎ ((own ≡ leaf_parcels) × (row ≡ leaf_row)) → (t : Bool) → starts_leaf (own ++ rest) ≡ t → Front (own ++ rest) (front.known (length own) (larger_row row))
      go (inl x) false l = fronts (x.1 rest after l)
      go (inl x) true l = absurd (too_short own rest (larger_row row) third some x.0 x.1 l)
      go (inr y) t l = fronts (leaf-known y.0 y.1)
