-- THE THEOREMS of one reading, by document 02's sentences.
use Prim.Native.Nat.{ℕ}
use native.Mathlib.Omega.{arith}
use mathlib.Core.Path.{◌≡◌, refl, sym, ap, subst}
use mathlib.Core.Logic.{◌⊎◌}
use mathlib.Core.List.{List, [], ◌∷◌, ◌++◌, append-nil}
use lib.ListN.{length, take, replicate}
use Rattle.encode.specs.Encoding.{form_of, parcels_of}
use Rattle.bounds.specs.Tables.{at}
use Rattle.known.specs.Front.{EncodesTo, StartsLoop, Reading, Front, instruction, loop_start, Parcels}
use Rattle.known.specs.Front as front
use Rattle.known.specs.Twins.{Twin}
use Rattle.back.proofs.Larger.{larger_row, larger_twin}
use Rattle.known.specs.Window.{known_at, reading_at}
use Rattle.encode.specs.declared.Form.TheVariants as form
use Rattle.std.specs.Prelude.{Ok}
use Rattle.forth.proofs.LeafAlone.{leaf-cut, third-unknown}
use Rattle.inverse.proofs.Small.{no-parcels, parcels-join, cut-parcels, form-parcels}
use Rattle.inverse.proofs.Fronts.{leaf_parcels, front-is}
use Rattle.inverse.proofs.Sorted.{not_fifty}
use Rattle.inverse.proofs.Leaf.{instruction-front}

-- there is a reading of any parcels
pub front_exists : (ps : List ℕ) → Parcels ps → (r : Reading) × Front ps r
front_exists ps p = (reading_at ps, front-is ps p)

-- "Encoding what it gave yields the same parcels for every row but kind 50"
pub read-encodes : (ps : List ℕ) (n : ℕ) (row : List ℕ) → Front ps (front.known n row) → (at row 0 ≡ 50 → ⊥) → EncodesTo (take n ps) row
read-encodes ps n row (instruction s) h = s.encodes
read-encodes ps n row (loop_start s) h = absurd (h (ap (λ (r : List ℕ). at r 0) s.numbers))

-- "whose word it checks itself": it is the 12a word of its count, mode and offset
pub read-loop : (ps : List ℕ) (n : ℕ) (row : List ℕ) → Front ps (front.known n row) → at row 0 ≡ 50 → (◌≡◌ {A = ℕ} n 3) × StartsLoop ps row
read-loop ps n row (instruction s) h = absurd (not_fifty row 0 s.encodes.instruction s.encodes.reads h)
read-loop ps n row (loop_start s) h = (refl, s)

own-parcels : (ps row : List ℕ) → EncodesTo ps row → Parcels ps
unfolding parcels_of
own-parcels ps row e = subst Parcels e.same (form-parcels (form_of e.instruction))

-- "It recognises every form": the parcels of an instruction row that encodes, alone, are read as that row, or as the one of larger kind
pub encoded_reads : (ps row : List ℕ) → EncodesTo ps row → (back : List ℕ) × Front ps (front.known (length ps) back) × ((back ≡ row) ⊎ Twin row back)
encoded_reads ps row e = (
  larger_row row,
  subst (λ (l : List ℕ). Front l (front.known (length ps) (larger_row row))) (append-nil ps)
      (instruction-front ps [] row (subst Parcels (sym (append-nil ps)) (own-parcels ps row e)) no-parcels (λ more q. let z : ◌≡◌ {A = ℕ} 0 1 = cc in omega arith) e),
  larger_twin ps row e,
)

-- "Six parcels of `LeafReturn` are one row", whatever follows
pub six_are_one : (rest : List ℕ) → Parcels rest → Front (0x4dfe ∷ 0x0e3f ∷ 0x083f ∷ 0x343f ∷ 0x1901 ∷ 0x0001 ∷ rest) (front.known 6 (31 ∷ replicate 16 0))
unfolding known_at
six_are_one rest p = front-is (leaf_parcels ++ rest) (parcels-join leaf_parcels rest (form-parcels (Ok form.Leaf)) p)

-- "its first two alone are a pre-modify load of I12"
pub two-alone : Front (0x4dfe ∷ 0x0e3f ∷ []) (front.known 2 (21 ∷ 28 ∷ 6 ∷ 7 ∷ replicate 13 0))
two-alone = rw (← leaf-cut) (front-is (0x4dfe ∷ 0x0e3f ∷ []) two)
  where
    two : Parcels (0x4dfe ∷ 0x0e3f ∷ [])
    two = cut-parcels 2 0x4dfe_0e3f

-- "and then the third starts no known form"
pub third_starts_nothing : (rest : List ℕ) → Parcels rest → Front (0x083f ∷ rest) front.unknown
third_starts_nothing rest p = rw (← third-unknown rest p) (front-is (0x083f ∷ rest) (parcels-join (0x083f ∷ []) rest (cut-parcels 1 0x083f) p))
