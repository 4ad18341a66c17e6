-- THE THEOREMS of every row that encodes: the reader's table reads its parcels, as the row or as the one of larger kind; so two rows that encode have
-- the same parcels in the listed cases alone.
use Prim.Native.Nat.{ℕ, ◌≤◌}
use native.Mathlib.Omega.{arith}
use mathlib.Core.Path.{◌≡◌, refl, sym, ap, ◌∙◌, subst}
use mathlib.Core.Bool.{false}
use mathlib.Core.Logic.{◌⊎◌, inl, inr}
use mathlib.Core.List.{List, [], ◌++◌}
use lib.Dec.{eqb}
use lib.ListN.{length, replicate, length-append}
use borrow.Author.Tests.{le-leb}
use Rattle.fields.specs.Pack.{Field, pack}
use Rattle.fields.specs.Parcels.{cut}
use Rattle.fields.specs.Faithful.{Spells}
use Rattle.std.specs.Prelude.{Ok, Option}
use Rattle.refusals.proofs.Order.{AllGood}
use Rattle.items.specs.declared.Compute.{Compute}
use Rattle.items.specs.declared.VisaInstruction.{VisaInstruction}
use Rattle.items.specs.declared.VisaInstruction.TheVariants as Visa
use Rattle.words.specs.Forms.{leaf_return}
use Rattle.encode.specs.Layouts.{layout_of}
use Rattle.encode.specs.Encoding.{form_of, verdict_of, parcels_of}
use Rattle.encode.proofs.Passed.{good-passed}
use Rattle.bounds.specs.Tables.{at}
use Rattle.bounds.specs.Bounds.{never, form, data_access, memory_access}
use Rattle.rows.specs.Fields.{instruction_of}
use Rattle.rows.specs.Rows.{compute_of, beside_of, data_access_of, memory_access_of, dm_of, pm_of, access_of}
use Rattle.rows.specs.Kept.{Below}
use Rattle.faithful.proofs.Lines.{Inside}
use Rattle.faithful.proofs.Ranges.{ranged}
use Rattle.faithful.proofs.Computes.{row8}
use Rattle.faithful.proofs.Opened.{plain-spells}
use Rattle.faithful.proofs.Rows.{data_ranged, memory-ranged}
use Rattle.std.specs.Prelude.{Some}
use Rattle.known.specs.declared.Known.{Known}
use Rattle.known.specs.Front.{EncodesTo, Parcels}
use Rattle.known.specs.Twins.{Twin}
use Rattle.known.specs.Table.{known, line, known_in}
use Rattle.known.specs.Window.{window, starts_leaf, known_at}
use Rattle.back.proofs.Finding.{Stands, reads-row, own-length}
use Rattle.back.proofs.Shapes.{named, places8, Eight, Shaped, shaped-plain, shaped-compute, shaped_dual, shaped-memory, shaped}
use Rattle.back.proofs.Larger.{lower, larger_row, largest, larger_encodes, larger_twin, larger_leaf, two-lower}
use Rattle.back.proofs.Beside.{compute-held, beside-held}
use Rattle.back.proofs.Standing.{plain-stands}
use Rattle.back.proofs.Computing.{compute-stands, dual_stands, memory-stands}

-- ---- parcels spell fields that stand in the table for the row; or they are the six of the leaf return
data Returned (own row : List ℕ) : Type 0 where
  returned : (n : ℕ) (fs : List Field) → Spells own n fs → Stands n fs row → Returned own row
  leaf : own ≡ cut 6 (pack leaf_return) → row ≡ line 31 0 0 0 → Returned own row

-- an instruction that encodes has passed what it refuses
passed : (v : VisaInstruction) → verdict_of v ≡ Ok tt → AllGood (layout_of v).refusals
unfolding verdict_of form_of
passed v g = good-passed (layout_of v) g

leaf-parcels : parcels_of Visa.LeafReturn ≡ cut 6 (pack leaf_return)
unfolding parcels_of form_of layout_of
leaf-parcels = refl

plain-returned :
    (k a b c : ℕ) → lower k ≡ false → named k ≡ false → Inside k a b c → verdict_of (instruction_of k a b c) ≡ Ok tt →
    Returned (parcels_of (instruction_of k a b c)) (line k a b c)
plain-returned k a b c l n i g = go (plain-stands k a b c l n i (passed (instruction_of k a b c) g))
  where
    go :
        Stands (layout_of (instruction_of k a b c)).parcels (layout_of (instruction_of k a b c)).fields (line k a b c) ⊎
        ((instruction_of k a b c ≡ Visa.LeafReturn) × (line k a b c ≡ line 31 0 0 0)) →
        Returned (parcels_of (instruction_of k a b c)) (line k a b c)
    go (inl s) = returned _ _ (plain-spells (instruction_of k a b c) (ranged k a b c i) g) s
    go (inr s) = leaf (ap parcels_of s.0 ∙ leaf-parcels) s.1

compute-returned :
    (a b c d e f g h : ℕ) (m : Compute) → eqb a 0 ≡ false → Eight never 32 a b c d e f g h (replicate 8 0) → compute_of (row8 32 a b c d e f g h (replicate 8 0)) ≡ Ok m →
    verdict_of (Visa.Compute m) ≡ Ok tt → Returned (parcels_of (Visa.Compute m)) (row8 32 a b c d e f g h (replicate 8 0))
unfolding layout_of
compute-returned a b c d e f g h m z w o good =
    let x = compute-held never 32 a b c d e f g h (replicate 8 0) m z w o in
    returned 3 _ (plain-spells (Visa.Compute m) x.small good) (compute-stands m.field (places8 a b c d e f g h) m.first m.second x)

module _ (a b c d e f g h p q r s t : ℕ) (o : Option Compute) where
  dual_returned :
      (u x y : ℕ) → Eight form 33 a b c d e f g h (places8 p q r s t u x y) → Below (data_access ++ data_access) (places8 p q r s t u x y) →
      beside_of (row8 33 a b c d e f g h (places8 p q r s t u x y)) ≡ Ok o → verdict_of (Visa.DualMove o (data_access_of p q r s) (data_access_of t u x y)) ≡ Ok tt →
      Returned (parcels_of (Visa.DualMove o (data_access_of p q r s) (data_access_of t u x y))) (row8 33 a b c d e f g h (places8 p q r s t u x y))
  unfolding layout_of
  dual_returned u x y w z i good =
      let v = Visa.DualMove o (data_access_of p q r s) (data_access_of t u x y) in
      let k = beside-held 33 a b c d e f g h (places8 p q r s t u x y) o w i in
      returned 3 _
      (plain-spells v
      (k.ranged, data_ranged p q r s z.1.0 z.1.1.0 z.1.1.1.0, data_ranged t u x y z.1.1.1.1.1.0 z.1.1.1.1.1.1.0 z.1.1.1.1.1.1.1.0)
      good)
      (dual_stands o (places8 a b c d e f g h) k p q r s t u x y z (passed v good))

  memory-returned :
      Eight form 34 a b c d e f g h (places8 p q r s t 0 0 0) → Below memory_access (places8 p q r s t 0 0 0) →
      beside_of (row8 34 a b c d e f g h (places8 p q r s t 0 0 0)) ≡ Ok o → verdict_of (Visa.MemoryMove o (memory_access_of p q r s t)) ≡ Ok tt →
      Returned (parcels_of (Visa.MemoryMove o (memory_access_of p q r s t))) (row8 34 a b c d e f g h (places8 p q r s t 0 0 0))
  unfolding layout_of
  memory-returned w z i good =
      let v = Visa.MemoryMove o (memory_access_of p q r s t) in
      let k = beside-held 34 a b c d e f g h (places8 p q r s t 0 0 0) o w i in
      returned 3 _ (plain-spells v (k.ranged, memory-ranged p q r s t z.1.0 z.1.1.0 z.1.1.1.0) good)
      (memory-stands o (places8 a b c d e f g h) k p q r s t 0 0 0 z (passed v good))

-- a row that has no twin of larger kind
row-returned : (own row : List ℕ) → EncodesTo own row → lower (at row 0) ≡ false → Returned own row
row-returned own row e low = go (shaped row e.instruction e.whole e.reads) e.good e.same
  where
    -- its parcels are those of its instruction, whose row has this shape
    of-shape : (v w : VisaInstruction) (r : List ℕ) → row ≡ r → v ≡ w → parcels_of v ≡ own → Returned (parcels_of w) r → Returned own row
    of-shape v w r q i s k = rw (q, ← s, i) k

    go : Shaped row e.instruction → verdict_of e.instruction ≡ Ok tt → parcels_of e.instruction ≡ own → Returned own row
    go (shaped-plain k a b c q n i v) g s =
        of-shape _ _ _ q v s (plain-returned k a b c (ap (λ (l : List ℕ). lower (at l 0)) (sym q) ∙ low) n i (ap verdict_of (sym v) ∙ g))
    go (shaped-compute a b c d e f g h m q z w o v) good s =
        of-shape _ _ _ q v s (compute-returned a b c d e f g h m z w (ap compute_of (sym q) ∙ o) (ap verdict_of (sym v) ∙ good))
    go (shaped_dual a b c d e f g h p q r s t u x y o k w z i v) good m =
        let j = v ∙ ap (λ (l : List ℕ). Visa.DualMove o (dm_of l) (pm_of l)) k in
        of-shape _ _ _ k j m (dual_returned a b c d e f g h p q r s t o u x y w z (ap beside_of (sym k) ∙ i) (ap verdict_of (sym j) ∙ good))
    go (shaped-memory a b c d e f g h p q r s t o k w z i v) good m =
        let j = v ∙ ap (λ (l : List ℕ). Visa.MemoryMove o (access_of l)) k in
        of-shape _ _ _ k j m (memory-returned a b c d e f g h p q r s t o w z (ap beside_of (sym k) ∙ i) (ap verdict_of (sym j) ∙ good))

-- ---- THE THEOREM: what encodes is read, as the row of larger kind, whatever follows; the leaf return apart
pub record ReadAs (own row : List ℕ) : Type 0 where
  pub few : length own ≤ 3
  pub here : (rest : List ℕ) → Parcels rest → known_in (window (own ++ rest)) ≡ Some (known (length own) row)

pub row_read : (row own : List ℕ) → EncodesTo own row → ReadAs own (larger_row row) ⊎ ((own ≡ cut 6 (pack leaf_return)) × (row ≡ line 31 0 0 0))
row_read row own e = go (row-returned own (larger_row row) (larger_encodes own row e) (largest row))
  where
    go : Returned own (larger_row row) → ReadAs own (larger_row row) ⊎ ((own ≡ cut 6 (pack leaf_return)) × (row ≡ line 31 0 0 0))
    go (returned n fs s t) =
        let l = own-length own n fs (larger_row row) s t in
        inl (record { few = rw l.0 l.1; here = λ rest r. reads-row own n fs s rest r (larger_row row) t ∙ ap (λ (k : ℕ). Some (known k (larger_row row))) (sym l.0) })
    go (leaf p q) = inr (p, larger_leaf own row e q)

pub at_front : (parcels : List ℕ) (n : ℕ) (row : List ℕ) → starts_leaf parcels ≡ false → n ≤ length parcels → known_in (window parcels) ≡ Some (known n row) → known_at parcels ≡ Some (known n row)
unfolding known_at
at_front parcels n row s h k = rw (s, k, le-leb n (length parcels) h)

pub row-known :
    (row own : List ℕ) → EncodesTo own row →
    ((length own ≤ 3) × ((rest : List ℕ) → Parcels rest → starts_leaf (own ++ rest) ≡ false → known_at (own ++ rest) ≡ Some (known (length own) (larger_row row)))) ⊎
    ((own ≡ cut 6 (pack leaf_return)) × (row ≡ line 31 0 0 0))
row-known row own e = go (row_read row own e)
  where
    go :
        ReadAs own (larger_row row) ⊎ ((own ≡ cut 6 (pack leaf_return)) × (row ≡ line 31 0 0 0)) →
        ((length own ≤ 3) × ((rest : List ℕ) → Parcels rest → starts_leaf (own ++ rest) ≡ false → known_at (own ++ rest) ≡ Some (known (length own) (larger_row row)))) ⊎
        ((own ≡ cut 6 (pack leaf_return)) × (row ≡ line 31 0 0 0))
    go (inl k) =
        inl (k.few, λ rest r s. at_front (own ++ rest) (length own) (larger_row row) s (simp length-append (omega arith)) (k.here rest r))
    go (inr l) = inr l

-- ---- THE THEOREM: "Two different instruction rows that encode give the same parcels only in these cases"
same_larger : (parcels r s : List ℕ) → EncodesTo parcels r → EncodesTo parcels s → larger_row r ≡ larger_row s
same_larger parcels r s e f = go (row_read r parcels e) (row_read s parcels f)
  where
    none : Parcels []
    none i = omega arith

    six : parcels ≡ cut 6 (pack leaf_return) → length parcels ≡ 6
    six p = rw p

    go :
        ReadAs parcels (larger_row r) ⊎ ((parcels ≡ cut 6 (pack leaf_return)) × (r ≡ line 31 0 0 0)) →
        ReadAs parcels (larger_row s) ⊎ ((parcels ≡ cut 6 (pack leaf_return)) × (s ≡ line 31 0 0 0)) → larger_row r ≡ larger_row s
    go (inl x) (inl y) =
        let k : known (length parcels) (larger_row r) ≡ known (length parcels) (larger_row s) = cc (x.here [] none, y.here [] none) in
        ap (λ (k : Known). k.row) k
    go (inl x) (inr y) = let n = six y.0 in let m = x.few in absurd (omega arith)
    go (inr x) (inl y) = let n = six x.0 in let m = y.few in absurd (omega arith)
    go (inr x) (inr y) = ap larger_row (x.1 ∙ sym y.1)

pub only-twins : (parcels r s : List ℕ) → EncodesTo parcels r → EncodesTo parcels s → (r ≡ s) ⊎ (Twin r s ⊎ Twin s r)
only-twins parcels r s e f = go (same_larger parcels r s e f) (larger_twin parcels r e) (larger_twin parcels s f)
  where
    go : larger_row r ≡ larger_row s → (larger_row r ≡ r) ⊎ Twin r (larger_row r) → (larger_row s ≡ s) ⊎ Twin s (larger_row s) → (r ≡ s) ⊎ (Twin r s ⊎ Twin s r)
    go q (inl x) (inl y) = inl (sym x ∙ q ∙ y)
    go q (inr x) (inl y) = inr (inl (subst (Twin r) (q ∙ y) x))
    go q (inl x) (inr y) = inr (inr (subst (Twin s) (sym q ∙ x) y))
    go q (inr x) (inr y) = inl (two-lower r s (larger_row r) x (subst (Twin s) (sym q) y))
