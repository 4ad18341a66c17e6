-- The compute of a row within its bounds: its field is the word of its own fields, which is faithful.
use Prim.Native.Nat.{ℕ, ◌<◌}
use native.Mathlib.Omega.{arith}
use mathlib.Core.Path.{◌≡◌, refl}
use mathlib.Core.Bool.{Bool, true, false, cond}
use mathlib.Core.List.{List, [], ◌∷◌}
use lib.Dec.{eqb}
use lib.ListN.{replicate}
use Rattle.fields.specs.Pack.{Field, fixed, pack}
use Rattle.fields.specs.Faithful.{Faithful}
use Rattle.fields.proofs.Packed.{faithful}
use Rattle.refusals.specs.declared.Refusal.TheVariants.{NotACompute}
use Rattle.items.specs.declared.Compute.{Compute}
use Rattle.std.specs.Prelude.{Ok, Err, Some, None, Option, Result}
use Rattle.refusals.specs.declared.Refusal.{Refusal}
use Rattle.computes.specs.Compute.{made_single, multi_fields, made_multi}
use Rattle.computes.proofs.Fitting.{multi-faithful}
use Rattle.encode.specs.Layouts.{field_of, layout_of}
use Rattle.bounds.specs.Tables.{lookup}
use Rattle.bounds.specs.Bounds.{never, form, word, register, op, filled, fields, is_compute, is_instruction, single, compute}
use Rattle.bounds.proofs.Twelve.{twelve}
use Rattle.rows.specs.Fields.{reg, scalars, others, instruction_of}
use Rattle.rows.specs.Rows.{single_fields, compute_of, beside_of}
use Rattle.rows.specs.Rows as rows
use Rattle.rows.specs.Kept.{Below}
use Rattle.faithful.specs.Words.{compute_fields}
use Rattle.faithful.proofs.Lines.{◌&◌, Each, Inside, by-compute}

-- a number is the word of these 23 bits
abbrev pub Opens : ℕ → List Field → Type 0
Opens n fs = (n ≡ pack fs) × Faithful 23 fs

-- a row with its compute's eight places
abbrev pub row8 : ℕ → ℕ → ℕ → ℕ → ℕ → ℕ → ℕ → ℕ → ℕ → List ℕ → List ℕ
row8 k a b c d e f g h qs = k ∷ a ∷ b ∷ c ∷ d ∷ e ∷ f ∷ g ∷ h ∷ qs

-- the three field places of a single
pub single-inside :
    (l : List ℕ) (a b c d e : ℕ) (vs : List ℕ) → Below (filled 8 (form ∷ word ∷ filled 3 l)) (a ∷ b ∷ c ∷ d ∷ e ∷ vs) → Below (filled 3 l) (c ∷ d ∷ e ∷ [])
single-inside [] a b c d e vs t = t.1.1.0 & t.1.1.1.0 & t.1.1.1.1.0 & tt
single-inside (x ∷ []) a b c d e vs t = t.1.1.0 & t.1.1.1.0 & t.1.1.1.1.0 & tt
single-inside (x ∷ y ∷ []) a b c d e vs t = t.1.1.0 & t.1.1.1.0 & t.1.1.1.1.0 & tt
single-inside (x ∷ y ∷ z ∷ l) a b c d e vs t = t.1.1.0 & t.1.1.1.0 & t.1.1.1.1.0 & tt

-- the 23 bits of a single, for fields within its kind's bounds
abbrev pub SingleKind : ℕ → Type 0
SingleKind k = (a b c : ℕ) → Inside k a b c → Faithful 23 (single_fields k a b c)

pub each-single : Each SingleKind twelve
unfolding fields layout_of instruction_of scalars others
each-single =
    (λ a b c h. faithful 23 _ (omega arith) (omega arith)) &  -- FloatAdd
    (λ a b c h. faithful 23 _ (omega arith) (omega arith)) &
    (λ a b c h. faithful 23 _ (omega arith) (omega arith)) &
    (λ a b c h. faithful 23 _ (omega arith) (omega arith)) &
    (λ a b c h. faithful 23 _ (omega arith) (omega arith)) &
    (λ a b c h. faithful 23 _ (omega arith) (omega arith)) &
    (λ a b c h. faithful 23 _ (omega arith) (omega arith)) &
    (λ a b c h. faithful 23 _ (omega arith) (omega arith)) &
    (λ a b c h. faithful 23 _ (omega arith) (omega arith)) &  -- FloatPass
    (λ a b c h. faithful 23 _ (omega arith) (omega arith)) &  -- IntegerSubOne
    (λ a b c h. faithful 23 _ (omega arith) (omega arith)) &
    (λ a b c h. faithful 23 _ (omega arith) (omega arith)) &
    tt

module _ (n k a b c d e f g h : ℕ) (qs : List ℕ) (m : Compute) where
  abbrev row : List ℕ
  row = row8 k a b c d e f g h qs

  of-single :
      (t : Bool) → is_compute b ≡ t →
      Below (filled 8 (form ∷ cond t (word ∷ filled 3 (lookup b fields (never ∷ []))) (cond (is_instruction b) (word ∷ replicate 6 word) (never ∷ [])))) (a ∷ b ∷ c ∷ d ∷ e ∷ f ∷ g ∷ h ∷ qs) →
      cond t (made_single (single_fields b c d e) (cond (eqb b 27) 16 (reg c).0)) (Err NotACompute) ≡ Ok m →
      Opens m.field (single_fields b c d e)
  unfolding made_single
  of-single true p w q =
      let i : Inside b c d e = single-inside (lookup b fields (never ∷ [])) a b c d e (f ∷ g ∷ h ∷ qs) w in
      ((let x : m.field ≡ pack (single_fields b c d e) = cc in x), by-compute SingleKind each-single b p c d e i)
  of-single false p w q = let z : ◌≡◌ {A = ℕ} 0 1 = cc in absurd (omega arith)

  of-form :
      (t0 t1 t2 : Bool) → t0 ≡ false →
      Below (filled 8 (cond t0 (n ∷ []) (cond t1 (form ∷ single b) (cond t2 (form ∷ register ∷ register ∷ register ∷ op ∷ register ∷ register ∷ register ∷ []) (never ∷ [])))))
      (a ∷ b ∷ c ∷ d ∷ e ∷ f ∷ g ∷ h ∷ qs) →
      cond t1 (rows.single_of b c d e) (cond t2 (made_multi (rows.multi_of row)) (made_multi (rows.multi_of row))) ≡ Ok m →
      Opens m.field (cond t0 (fixed 22 0 0 ∷ []) (cond t1 (single_fields b c d e) (multi_fields (rows.multi_of row))))
  of-form true t1 t2 z w q = let z : ◌≡◌ {A = ℕ} 0 1 = cc in absurd (omega arith)
  of-form false true t2 z w q = of-single (is_compute b) refl w q
  of-form false false true z w q = multi-faithful (rows.multi_of row) m (omega arith) q
  of-form false false false z w q = let z : a < 0 = w.0 in absurd (omega arith)

  pub compute-opens : eqb a 0 ≡ false → Below (compute n row) (a ∷ b ∷ c ∷ d ∷ e ∷ f ∷ g ∷ h ∷ qs) → compute_of row ≡ Ok m → Opens m.field (compute_fields row)
  unfolding compute compute_of compute_fields
  compute-opens z w q = of-form (eqb a 0) (eqb a 1) (eqb a 2) z w q

-- the compute beside a move, or none
module _ (k a b c d e f g h : ℕ) (qs : List ℕ) (o : Option Compute) where
  abbrev place : List ℕ
  place = row8 k a b c d e f g h qs

  pub made-beside : (m : Result Compute Refusal) → rows.beside m ≡ Ok o → (x : Compute) × (m ≡ Ok x) × (o ≡ Some x)
  made-beside (Ok x) q = (x, refl, let y : o ≡ Some x = cc in y)
  made-beside (Err r) q = let z : ◌≡◌ {A = ℕ} 0 1 = cc in absurd (omega arith)

  no-compute : eqb a 0 ≡ true → Opens 0 (compute_fields place)
  unfolding compute_fields
  no-compute s = rw s (refl, faithful 23 (fixed 22 0 0 ∷ []) (omega arith) (omega arith))

  pub beside-opens :
      Below (compute form place) (a ∷ b ∷ c ∷ d ∷ e ∷ f ∷ g ∷ h ∷ qs) → beside_of place ≡ Ok o → Opens (field_of o) (compute_fields place)
  unfolding beside_of
  beside-opens w q = go (eqb a 0) refl q
    where
      go : (t : Bool) → eqb a 0 ≡ t → cond t (Ok None) (rows.beside (compute_of place)) ≡ Ok o → Opens (field_of o) (compute_fields place)
      go true s y =
          let x : o ≡ None = cc in
          rw x (no-compute s)
      go false s y =
          let x = made-beside (compute_of place) y in
          rw x.2 (compute-opens form k a b c d e f g h qs x.0 s w x.1)
