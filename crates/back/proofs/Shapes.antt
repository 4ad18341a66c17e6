-- What a row is that is read as an instruction: three fields and zeros, or a compute's eight places and those of the move beside it.
use Prim.Native.Nat.{ℕ, zero, suc}
use native.Mathlib.Omega.{arith}
use mathlib.Core.Path.{◌≡◌, refl, sym, ap, ap₂, ◌∙◌, subst}
use mathlib.Core.Bool.{Bool, true, false, cond, ◌&&◌, ◌||◌}
use mathlib.Core.List.{List, [], ◌∷◌, ◌++◌, append_assoc}
use lib.Dec.{leb, eqb}
use lib.ListN.{length, replicate, take}
use borrow.Author.Tests.{leb-true, eqb-true}
use Rattle.fields.proofs.Matching.{both}
use Rattle.items.specs.declared.Compute.{Compute}
use Rattle.std.specs.Prelude.{Ok, Option}
use Rattle.items.specs.declared.VisaInstruction.{VisaInstruction}
use Rattle.items.specs.declared.VisaInstruction.TheVariants as Visa
use Rattle.items.specs.declared.Item.TheVariants as item
use Rattle.bounds.specs.Tables.{lookup, at}
use Rattle.bounds.specs.Bounds.{spare, never, form, filled, fields, compute, data_access, memory_access, bounds_of}
use Rattle.bounds.specs.Checks.{check_of}
use Rattle.bounds.proofs.Filled.{front-compute, back-compute}
use Rattle.rows.specs.Fields.{instruction_of}
use Rattle.rows.specs.Rows.{read_of, item_of, compute_item, dual_item, memory_item, compute_of, beside_of, dm_of, pm_of, access_of}
use Rattle.rows.specs.Kept.{Below}
use Rattle.faithful.proofs.Lines.{◌&◌, Inside}
use Rattle.faithful.proofs.Computes.{row8}
use Rattle.faithful.proofs.Read.{Which, is_plain, is-compute, is_dual, is-memory, known, read-good, line-bounds, inside}
use Rattle.faithful.proofs.Rows.{below-take, below-drop, made-is, dual_is, memory-is, nonzero, front8, back8, spread_same}
use Rattle.known.specs.Table.{line}

-- ---- spare places hold 0
spare_zero : (n : ℕ) (vs : List ℕ) → length vs ≡ n → Below (replicate n spare) vs → vs ≡ replicate n 0
spare_zero zero [] e h = refl
spare_zero zero (v ∷ vs) e h = absurd (omega arith)
spare_zero (suc n) [] e h = absurd (omega arith)
spare_zero (suc n) (v ∷ vs) e h = ap₂ ◌∷◌ (let l = h.0 in omega arith) (spare_zero n vs (omega arith) h.1)

rest_zero : (l : List ℕ) (a b c : ℕ) (vs : List ℕ) → leb (length l) 3 ≡ true → length vs ≡ 13 → Below (filled 16 l) (a ∷ b ∷ c ∷ vs) → vs ≡ replicate 13 0
rest_zero [] a b c vs s n h = spare_zero 13 vs n h.1.1.1
rest_zero (x ∷ []) a b c vs s n h = spare_zero 13 vs n h.1.1.1
rest_zero (x ∷ y ∷ []) a b c vs s n h = spare_zero 13 vs n h.1.1.1
rest_zero (x ∷ y ∷ z ∷ []) a b c vs s n h = spare_zero 13 vs n h.1.1.1
rest_zero (x ∷ y ∷ z ∷ w ∷ l) a b c vs s n h = let m = leb-true (length (x ∷ y ∷ z ∷ w ∷ l)) 3 s in absurd (omega arith)

-- no line of the table of bounds has more than three places
abbrev every : (List ℕ → Bool) → List (ℕ × List ℕ) → Bool
every f [] = true
every f (x ∷ lines) = f x.1 && every f lines

pick_line : (f : List ℕ → Bool) (t : Bool) (a b : List ℕ) → f a ≡ true → f b ≡ true → f (cond t a b) ≡ true
pick_line f true a b ha hb = ha
pick_line f false a b ha hb = hb

of-line : (f : List ℕ → Bool) (key : ℕ) (lines : List (ℕ × List ℕ)) (other : List ℕ) → every f lines ≡ true → f other ≡ true → f (lookup key lines other) ≡ true
of-line f key [] other t d = d
of-line f key (x ∷ lines) other t d =
    let p = both (f x.1) (every f lines) t in
    pick_line f (eqb key x.0) x.1 (lookup key lines other) p.0 (of-line f key lines other p.1 d)

short-line : (k : ℕ) → leb (length (lookup k fields (never ∷ []))) 3 ≡ true
unfolding fields
short-line k = of-line (λ l. leb (length l) 3) k fields (never ∷ []) refl refl

-- ---- a label, a jump to one and a loop end are no instructions
abbrev pub named : ℕ → Bool
named k = eqb k 48 || (eqb k 49 || eqb k 51)

module _ (k a b c : ℕ) (vs : List ℕ) (v : VisaInstruction) where
  not_named : item_of (k ∷ a ∷ b ∷ c ∷ vs) ≡ Ok (item.Instruction v) → named k ≡ false
  unfolding item_of
  not_named e = go (eqb k 48) (eqb k 49) (eqb k 51) refl refl refl
    where
      go : (t u w : Bool) → eqb k 48 ≡ t → eqb k 49 ≡ u → eqb k 51 ≡ w → (t || (u || w)) ≡ false
      go true u w x y z =
          let f = rw (eqb-true k 48 x) at e in
          let o : ◌≡◌ {A = ℕ} 0 1 = cc in absurd (omega arith)
      go false true w x y z =
          let f = rw (eqb-true k 49 y) at e in
          let o : ◌≡◌ {A = ℕ} 0 1 = cc in absurd (omega arith)
      go false false true x y z =
          let f = rw (eqb-true k 51 z) at e in
          let o : ◌≡◌ {A = ℕ} 0 1 = cc in absurd (omega arith)
      go false false false x y z = refl

-- ---- the shapes of rows
abbrev pub places8 : ℕ → ℕ → ℕ → ℕ → ℕ → ℕ → ℕ → ℕ → List ℕ
places8 a b c d e f g h = a ∷ b ∷ c ∷ d ∷ e ∷ f ∷ g ∷ h ∷ []

-- the eight places of a compute lie within their bounds, before others
abbrev pub Eight : ℕ → ℕ → ℕ → ℕ → ℕ → ℕ → ℕ → ℕ → ℕ → ℕ → List ℕ → Type 0
Eight none k a b c d e f g h qs = Below (compute none (row8 k a b c d e f g h qs)) (a ∷ b ∷ c ∷ d ∷ e ∷ f ∷ g ∷ h ∷ qs)

pub data Shaped (row : List ℕ) (v : VisaInstruction) : Type 0 where
  shaped-plain : (k a b c : ℕ) → row ≡ line k a b c → named k ≡ false → Inside k a b c → v ≡ instruction_of k a b c → Shaped row v
  shaped-compute :
      (a b c d e f g h : ℕ) (m : Compute) → row ≡ row8 32 a b c d e f g h (replicate 8 0) → eqb a 0 ≡ false → Eight never 32 a b c d e f g h (replicate 8 0) →
      compute_of row ≡ Ok m → v ≡ Visa.Compute m → Shaped row v
  shaped_dual :
      (a b c d e f g h p q r s t u x y : ℕ) (o : Option Compute) → row ≡ row8 33 a b c d e f g h (places8 p q r s t u x y) →
      Eight form 33 a b c d e f g h (places8 p q r s t u x y) → Below (data_access ++ data_access) (places8 p q r s t u x y) →
      beside_of row ≡ Ok o → v ≡ Visa.DualMove o (dm_of row) (pm_of row) → Shaped row v
  shaped-memory :
      (a b c d e f g h p q r s t : ℕ) (o : Option Compute) → row ≡ row8 34 a b c d e f g h (places8 p q r s t 0 0 0) →
      Eight form 34 a b c d e f g h (places8 p q r s t 0 0 0) → Below memory_access (places8 p q r s t 0 0 0) →
      beside_of row ≡ Ok o → v ≡ Visa.MemoryMove o (access_of row) → Shaped row v

module _ (a b c d e f g h p q r s t u x y : ℕ) (v : VisaInstruction) where
  abbrev qs : List ℕ
  qs = places8 p q r s t u x y

  abbrev row : ℕ → List ℕ
  row k = row8 k a b c d e f g h qs

  abbrev after : List ℕ
  after = a ∷ b ∷ c ∷ d ∷ e ∷ f ∷ g ∷ h ∷ qs

  compute-shape : Below (bounds_of (row 32)) after → compute_item (compute_of (row 32)) ≡ Ok (item.Instruction v) → Shaped (row 32) v
  unfolding bounds_of
  compute-shape w i =
      let m = made-is (compute_of (row 32)) v i in
      let front : Eight never 32 a b c d e f g h qs = rw (front-compute never (row 32) (replicate 16 spare)) at (below-take 8 (bounds_of (row 32)) after w) in
      let back : Below (filled 8 []) qs = rw (back-compute never (row 32) []) at (below-drop 8 (bounds_of (row 32)) after w) in
      let z = spare_zero 8 qs refl back in
      shaped-compute a b c d e f g h m.0 (ap (λ (l : List ℕ). row8 32 a b c d e f g h l) z) (nonzero a b c d e f g h p q r s t u x y v front)
      (subst (Eight never 32 a b c d e f g h) z front) m.1 m.2

  dual_shape : Below (bounds_of (row 33)) after → dual_item (dm_of (row 33)) (pm_of (row 33)) (beside_of (row 33)) ≡ Ok (item.Instruction v) → Shaped (row 33) v
  unfolding bounds_of
  dual_shape w i =
      let m = dual_is (dm_of (row 33)) (pm_of (row 33)) (beside_of (row 33)) v i in
      let bounds : Below (take 16 (compute form (row 33) ++ ((data_access ++ data_access) ++ replicate 16 spare))) after = rw append_assoc at w in
      shaped_dual a b c d e f g h p q r s t u x y m.0 refl
      (front8 a b c d e f g h p q r s t u x y v 33 (data_access ++ data_access) bounds) (back8 a b c d e f g h p q r s t u x y v 33 (data_access ++ data_access) bounds)
      m.1 m.2

  memory-shape : Below (bounds_of (row 34)) after → memory_item (access_of (row 34)) (beside_of (row 34)) ≡ Ok (item.Instruction v) → Shaped (row 34) v
  unfolding bounds_of
  memory-shape w i =
      let m = memory-is (access_of (row 34)) (beside_of (row 34)) v i in
      let bounds : Below (take 16 (compute form (row 34) ++ (memory_access ++ replicate 16 spare))) after = rw append_assoc at w in
      let own = back8 a b c d e f g h p q r s t u x y v 34 memory_access bounds in
      let z : qs ≡ places8 p q r s t 0 0 0 = ap (λ (l : List ℕ). p ∷ q ∷ r ∷ s ∷ t ∷ l) (spare_zero 3 (u ∷ x ∷ y ∷ []) refl own.1.1.1.1.1) in
      shaped-memory a b c d e f g h p q r s t m.0 (ap (λ (l : List ℕ). row8 34 a b c d e f g h l) z)
      (subst (Eight form 34 a b c d e f g h) z (front8 a b c d e f g h p q r s t u x y v 34 memory_access bounds))
      (own.0 & own.1.0 & own.1.1.0 & own.1.1.1.0 & own.1.1.1.1.0 & tt) m.1 m.2

  plain-shape :
      (k : ℕ) → eqb k 32 ≡ false → eqb k 33 ≡ false → eqb k 34 ≡ false → eqb k 50 ≡ false → v ≡ instruction_of k a b c → Below (bounds_of (row k)) after →
      item_of (row k) ≡ Ok (item.Instruction v) → Shaped (row k) v
  plain-shape k h32 h33 h34 h50 j w i =
      let vs = d ∷ e ∷ f ∷ g ∷ h ∷ qs in
      let z = rest_zero (lookup k fields (never ∷ [])) a b c vs (short-line k) refl (line-bounds k a b c vs h32 h33 h34 h50 w) in
      shaped-plain k a b c (ap (λ (l : List ℕ). k ∷ a ∷ b ∷ c ∷ l) z) (not_named k a b c vs v i) (inside k a b c vs h32 h33 h34 h50 w) j

  row-shape : (k : ℕ) → read_of (row k) 0 ≡ Ok (item.Instruction v) → Shaped (row k) v
  unfolding read_of
  row-shape k i =
      let n = known k a b c (d ∷ e ∷ f ∷ g ∷ h ∷ qs) 0 v i in
      let good = read-good (check_of (row k) 0) (item_of (row k)) (item.Instruction v) i in
      go n.bounds good.1 n.kind
    where
      go :
          Below (bounds_of (row k)) after → item_of (row k) ≡ Ok (item.Instruction v) →
          Which k v (instruction_of k a b c) (compute_item (compute_of (row k))) (dual_item (dm_of (row k)) (pm_of (row k)) (beside_of (row k))) (memory_item (access_of (row k)) (beside_of (row k))) →
          Shaped (row k) v
      go w i (is_plain h32 h33 h34 h50 j) = plain-shape k h32 h33 h34 h50 j w i
      go w i (is-compute j z) = rw j (compute-shape (rw j at w) (rw j at z))
      go w i (is_dual j z) = rw j (dual_shape (rw j at w) (rw j at z))
      go w i (is-memory j z) = rw j (memory-shape (rw j at w) (rw j at z))

-- THE LAW of shapes
pub shaped : (row : List ℕ) (v : VisaInstruction) → length row ≡ 17 → read_of row 0 ≡ Ok (item.Instruction v) → Shaped row v
shaped row v long i =
    let same = spread_same 17 row long in
    subst (λ (l : List ℕ). Shaped l v) (sym same)
    (row-shape (at row 1) (at row 2) (at row 3) (at row 4) (at row 5) (at row 6) (at row 7) (at row 8) (at row 9) (at row 10) (at row 11) (at row 12) (at row 13)
    (at row 14) (at row 15) (at row 16) v (at row 0) (ap (λ (l : List ℕ). read_of l 0) (sym same) ∙ i))
