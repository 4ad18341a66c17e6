-- THE THEOREMS of every row: its parcels spell the fields that document 01's tables give its numbers.
use Prim.Native.Nat.{ℕ, zero, suc, ◌<◌}
use native.Mathlib.Omega.{arith}
use mathlib.Core.Path.{◌≡◌, refl, ap, ◌∙◌}
use mathlib.Core.Bool.{Bool, true, false}
use mathlib.Core.List.{List, [], ◌∷◌, ◌++◌, append_assoc}
use lib.Dec.{eqb}
use lib.ListN.{length, replicate, take, drop}
use Rattle.fields.specs.Pack.{field, pack}
use Rattle.fields.specs.Faithful.{Spells}
use Rattle.fields.proofs.Packed.{spells}
use Rattle.signs.specs.Signs.{signed_in}
use Rattle.std.specs.Prelude.{Ok, Err, Option, Result}
use Rattle.refusals.specs.declared.Refusal.{Refusal}
use Rattle.items.specs.declared.Compute.{Compute}
use Rattle.items.specs.declared.DataAccess.{DataAccess}
use Rattle.items.specs.declared.MemoryAccess.{MemoryAccess}
use Rattle.items.specs.declared.LoopCount.{LoopCount}
use Rattle.items.specs.declared.LoopMode.{LoopMode}
use Rattle.items.specs.declared.VisaInstruction.{VisaInstruction}
use Rattle.items.specs.declared.VisaInstruction.TheVariants as Visa
use Rattle.items.specs.declared.Item.TheVariants as item
use Rattle.computes.proofs.Ranged.{RangedData, RangedMemory, RangedCount}
use Rattle.encode.specs.Layouts.{layout_of, jump_layout, loop_layout}
use Rattle.encode.specs.Encoding.{verdict_of, parcels_of, jump_form, loop_form, form_parcels}
use Rattle.encode.proofs.Carried.{jump-faithful, loop-faithful, jump-is, loop-is, jump-carries, loop-carries}
use Rattle.bounds.specs.Tables.{at}
use Rattle.bounds.specs.Bounds.{spare, never, form, filled, compute, data_access, memory_access, bounds_of}
use Rattle.bounds.proofs.Filled.{front-compute, back-compute}
use Rattle.rows.specs.Fields.{instruction_of}
use Rattle.rows.specs.Rows.{read_of, compute_item, dual_item, memory_item, compute_of, beside_of, data_access_of, memory_access_of, dm_of, pm_of, access_of}
use Rattle.rows.specs.Kept.{Below}
use Rattle.faithful.specs.Words.{compute_fields, row_fields, EachInstruction, EachJump, EachLoop}
use Rattle.faithful.proofs.Ranges.{ranged}
use Rattle.faithful.proofs.Computes.{row8, compute-opens, beside-opens}
use Rattle.faithful.proofs.Opened.{plain-spells, compute-spells, dual_spells, memory-spells}
use Rattle.faithful.proofs.Read.{Which, is_plain, is-compute, is_dual, is-memory, known, inside, loop-ranged}

-- ---- bounds of a part
pub below-take : (n : ℕ) (bs vs : List ℕ) → Below bs vs → Below (take n bs) vs
below-take zero bs vs h = tt
below-take (suc n) [] vs h = tt
below-take (suc n) (b ∷ bs) [] h = tt
below-take (suc n) (b ∷ bs) (v ∷ vs) h = (h.0, below-take n bs vs h.1)

pub below-drop : (n : ℕ) (bs vs : List ℕ) → Below bs vs → Below (drop n bs) (drop n vs)
below-drop zero bs vs h = h
below-drop (suc n) [] vs h = tt
below-drop (suc n) (b ∷ bs) [] h = none (drop n bs)
  where
    none : (l : List ℕ) → Below l []
    none [] = tt
    none (x ∷ l) = tt
below-drop (suc n) (b ∷ bs) (v ∷ vs) h = below-drop n bs vs h.1

-- ---- the items of a compute
pub made-is : (m : Result Compute Refusal) (v : VisaInstruction) → compute_item m ≡ Ok (item.Instruction v) → (x : Compute) × (m ≡ Ok x) × (v ≡ Visa.Compute x)
made-is (Ok x) v e = (x, refl, let y : v ≡ Visa.Compute x = cc in y)
made-is (Err r) v e = let z : ◌≡◌ {A = ℕ} 0 1 = cc in absurd (omega arith)

pub dual_is : (dm pm : DataAccess) (b : Result (Option Compute) Refusal) (v : VisaInstruction) → dual_item dm pm b ≡ Ok (item.Instruction v) → (o : Option Compute) × (b ≡ Ok o) × (v ≡ Visa.DualMove o dm pm)
dual_is dm pm (Ok o) v e = (o, refl, let y : v ≡ Visa.DualMove o dm pm = cc in y)
dual_is dm pm (Err r) v e = let z : ◌≡◌ {A = ℕ} 0 1 = cc in absurd (omega arith)

pub memory-is : (access : MemoryAccess) (b : Result (Option Compute) Refusal) (v : VisaInstruction) → memory_item access b ≡ Ok (item.Instruction v) → (o : Option Compute) × (b ≡ Ok o) × (v ≡ Visa.MemoryMove o access)
memory-is access (Ok o) v e = (o, refl, let y : v ≡ Visa.MemoryMove o access = cc in y)
memory-is access (Err r) v e = let z : ◌≡◌ {A = ℕ} 0 1 = cc in absurd (omega arith)

pub data_ranged : (a b c d : ℕ) → b < 16 → c < 16 → d < 16 → RangedData (data_access_of a b c d)
unfolding data_access_of
data_ranged a b c d hb hc hd = omega arith

pub memory-ranged : (a b c d e : ℕ) → b < 0x60 → c < 16 → d < 16 → RangedMemory (memory_access_of a b c d e)
unfolding memory_access_of
memory-ranged a b c d e hb hc hd = omega arith

-- ---- a row of seventeen numbers
abbrev Row : List ℕ → VisaInstruction → Type 0
Row row v = Spells (parcels_of v) (layout_of v).parcels (row_fields row v)

plain_row :
    (k a b c : ℕ) (vs : List ℕ) (v : VisaInstruction) → eqb k 32 ≡ false → eqb k 33 ≡ false → eqb k 34 ≡ false → eqb k 50 ≡ false →
    v ≡ instruction_of k a b c → Below (bounds_of (k ∷ a ∷ b ∷ c ∷ vs)) (a ∷ b ∷ c ∷ vs) → verdict_of v ≡ Ok tt → Row (k ∷ a ∷ b ∷ c ∷ vs) v
unfolding row_fields
plain_row k a b c vs v h32 h33 h34 h50 e h g =
    rw (h32, h33, h34) (plain-spells v (rw e (ranged k a b c (inside k a b c vs h32 h33 h34 h50 h))) g)

module _ (a b c d e f g h p q r s t u x y : ℕ) (v : VisaInstruction) where
  abbrev qs : List ℕ
  qs = p ∷ q ∷ r ∷ s ∷ t ∷ u ∷ x ∷ y ∷ []

  abbrev row : ℕ → List ℕ
  row k = row8 k a b c d e f g h qs

  abbrev after : List ℕ
  after = a ∷ b ∷ c ∷ d ∷ e ∷ f ∷ g ∷ h ∷ qs

  pub nonzero : Below (compute never (row 32)) after → eqb a 0 ≡ false
  unfolding compute
  nonzero w = go (eqb a 0) refl w
    where
      go : (t : Bool) → eqb a 0 ≡ t → Below (compute never (row 32)) after → t ≡ false
      go true s x = let y : a < 0 = (rw s at x).0 in absurd (omega arith)
      go false s x = refl

  compute-row : Below (bounds_of (row 32)) after → compute_item (compute_of (row 32)) ≡ Ok (item.Instruction v) → verdict_of v ≡ Ok tt → Row (row 32) v
  unfolding bounds_of row_fields
  compute-row w i good =
      let m = made-is (compute_of (row 32)) v i in
      let front : Below (compute never (row 32)) after = rw (front-compute never (row 32) (replicate 16 spare)) at (below-take 8 (bounds_of (row 32)) after w) in
      let o = compute-opens never 32 a b c d e f g h qs m.0 (nonzero front) front m.1 in
      rw m.2 (compute-spells (compute_fields (row 32)) m.0 o (rw m.2 at good))

  -- the first eight places and the others, in kinds 33 and 34
  module _ (k : ℕ) (l : List ℕ) (w : Below (take 16 (compute form (row k) ++ (l ++ replicate 16 spare))) after) where
    pub front8 : Below (compute form (row k)) after
    front8 = rw (front-compute form (row k) (l ++ replicate 16 spare)) at (below-take 8 (take 16 (compute form (row k) ++ (l ++ replicate 16 spare))) after w)

    pub back8 : Below (filled 8 l) qs
    back8 = rw (back-compute form (row k) l) at (below-drop 8 (take 16 (compute form (row k) ++ (l ++ replicate 16 spare))) after w)

  dual_row :
      Below (bounds_of (row 33)) after → dual_item (dm_of (row 33)) (pm_of (row 33)) (beside_of (row 33)) ≡ Ok (item.Instruction v) → verdict_of v ≡ Ok tt → Row (row 33) v
  unfolding bounds_of row_fields
  dual_row w i good =
      let m = dual_is (dm_of (row 33)) (pm_of (row 33)) (beside_of (row 33)) v i in
      let bounds : Below (take 16 (compute form (row 33) ++ ((data_access ++ data_access) ++ replicate 16 spare))) after = rw append_assoc at w in
      let o = beside-opens 33 a b c d e f g h qs m.0 (front8 33 (data_access ++ data_access) bounds) m.1 in
      let z = back8 33 (data_access ++ data_access) bounds in
      rw m.2
      (dual_spells (compute_fields (row 33)) m.0 (dm_of (row 33)) (pm_of (row 33)) o
      (data_ranged p q r s z.1.0 z.1.1.0 z.1.1.1.0) (data_ranged t u x y z.1.1.1.1.1.0 z.1.1.1.1.1.1.0 z.1.1.1.1.1.1.1.0)
      (rw m.2 at good))

  memory-row :
      Below (bounds_of (row 34)) after → memory_item (access_of (row 34)) (beside_of (row 34)) ≡ Ok (item.Instruction v) → verdict_of v ≡ Ok tt → Row (row 34) v
  unfolding bounds_of row_fields
  memory-row w i good =
      let m = memory-is (access_of (row 34)) (beside_of (row 34)) v i in
      let bounds : Below (take 16 (compute form (row 34) ++ (memory_access ++ replicate 16 spare))) after = rw append_assoc at w in
      let o = beside-opens 34 a b c d e f g h qs m.0 (front8 34 memory_access bounds) m.1 in
      let z = back8 34 memory_access bounds in
      rw m.2
      (memory-spells (compute_fields (row 34)) m.0 (access_of (row 34)) o (memory-ranged p q r s t z.1.0 z.1.1.0 z.1.1.1.0) (rw m.2 at good))

  row-spells : (k names : ℕ) → read_of (row k) names ≡ Ok (item.Instruction v) → verdict_of v ≡ Ok tt → Row (row k) v
  row-spells k names i good =
      let n = known k a b c (d ∷ e ∷ f ∷ g ∷ h ∷ qs) names v i in
      go n.bounds n.kind
    where
      go :
          Below (bounds_of (row k)) after →
          Which k v (instruction_of k a b c) (compute_item (compute_of (row k))) (dual_item (dm_of (row k)) (pm_of (row k)) (beside_of (row k))) (memory_item (access_of (row k)) (beside_of (row k))) →
          Row (row k) v
      go w (is_plain h32 h33 h34 h50 j) = plain_row k a b c (d ∷ e ∷ f ∷ g ∷ h ∷ qs) v h32 h33 h34 h50 j w good
      go w (is-compute j z) = rw j (compute-row (rw j at w) (rw j at z) good)
      go w (is_dual j z) = rw j (dual_row (rw j at w) (rw j at z) good)
      go w (is-memory j z) = rw j (memory-row (rw j at w) (rw j at z) good)

-- ---- a row, number by number
abbrev pub spread : ℕ → (ℕ → ℕ) → List ℕ
spread zero f = []
spread (suc n) f = f 0 ∷ spread n (λ i. f (suc i))

pub spread_same : (n : ℕ) (l : List ℕ) → length l ≡ n → l ≡ spread n (at l)
spread_same zero [] e = refl
spread_same zero (x ∷ l) e = absurd (omega arith)
spread_same (suc n) [] e = absurd (omega arith)
spread_same (suc n) (x ∷ l) e = ap (λ (r : List ℕ). x ∷ r) (spread_same n l (omega arith))

-- THE THEOREM of instructions
pub each-instruction : EachInstruction
each-instruction row names v long i good = go row (spread 17 (at row)) (spread_same 17 row long) i spread_row
  where
    spread_row : read_of (spread 17 (at row)) names ≡ Ok (item.Instruction v) → Row (spread 17 (at row)) v
    spread_row j =
        row-spells (at row 1) (at row 2) (at row 3) (at row 4) (at row 5) (at row 6) (at row 7) (at row 8) (at row 9) (at row 10) (at row 11) (at row 12) (at row 13)
        (at row 14) (at row 15) (at row 16) v (at row 0) names j good

    go : (l m : List ℕ) → l ≡ m → read_of l names ≡ Ok (item.Instruction v) → (read_of m names ≡ Ok (item.Instruction v) → Row m v) → Row l v
    go l m e j f = rw e (f (rw e at j))

-- THE THEOREMS of jumps to a label and of loop starts
pub each-jump : EachJump
each-jump row names c s l i z g =
    let e = jump-is c z false g in
    let p = spells (form_parcels (jump_form c z false)) 3 (jump_layout c z false).fields (ap form_parcels e) (jump-faithful c z false g) in
    (p, ap (λ (n : ℕ). signed_in 24 (field 23 0 n)) p.makes ∙ jump-carries c z false (pack (jump_layout c z false).fields) e)

loop-row : (row : List ℕ) (names : ℕ) (c : LoopCount) (m : LoopMode) → length row ≡ 17 → read_of row names ≡ Ok (item.LoopBegin c m) → RangedCount c
loop-row [] names c m n i = absurd (omega arith)
loop-row (k ∷ []) names c m n i = absurd (omega arith)
loop-row (k ∷ a ∷ []) names c m n i = absurd (omega arith)
loop-row (k ∷ a ∷ b ∷ []) names c m n i = absurd (omega arith)
loop-row (k ∷ a ∷ b ∷ d ∷ vs) names c m n i = loop-ranged k a b d vs names c m i

pub each-loop : EachLoop
each-loop row names c m n i z g =
    let e = loop-is c m z g in
    let p = spells (form_parcels (loop_form c m z)) 3 (loop_layout c m z).fields (ap form_parcels e) (loop-faithful c m z (loop-row row names c m n i) g) in
    (p, ap (λ (n : ℕ). signed_in 23 (field 22 0 n)) p.makes ∙ loop-carries c m z (pack (loop_layout c m z).fields) e)
