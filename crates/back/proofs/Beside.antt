-- The eight places of a row's compute are what the table of computes reads from its 23 bits; so are those of the compute beside a move, or of none.
use Prim.Native.Nat.{ℕ, ◌<◌}
use native.Mathlib.Omega.{arith}
use mathlib.Core.Path.{◌≡◌, refl}
use mathlib.Core.Bool.{Bool, true, false, cond}
use mathlib.Core.List.{List, [], ◌∷◌}
use lib.Dec.{eqb}
use lib.ListN.{replicate}
use borrow.Author.Tests.{eqb-true}
use Rattle.fields.specs.Pack.{fixed, pack}
use Rattle.fields.specs.Matching.{matches}
use Rattle.fields.proofs.Matching.{is_false}
use Rattle.refusals.specs.declared.Refusal.TheVariants.{NotACompute}
use Rattle.items.specs.declared.Compute.{Compute}
use Rattle.std.specs.Prelude.{Ok, Err, Option, Some, None}
use Rattle.computes.specs.Compute.{made_single, made_multi}
use Rattle.computes.proofs.Ranged.{RangedCompute}
use Rattle.encode.specs.Registers.{writes}
use Rattle.encode.specs.Layouts.{layout_of, field_of}
use Rattle.bounds.specs.Tables.{lookup}
use Rattle.bounds.specs.Bounds.{never, form, word, register, op, filled, fields, is_compute, is_instruction, single, compute}
use Rattle.rows.specs.Fields.{reg, scalars, others, instruction_of}
use Rattle.rows.specs.Rows.{single_fields, compute_of, beside_of}
use Rattle.rows.specs.Rows as rows
use Rattle.rows.specs.Kept.{Below}
use Rattle.faithful.proofs.Lines.{Inside, by-compute}
use Rattle.faithful.proofs.Computes.{row8, single-inside, SingleKind, each-single, made-beside}
use Rattle.known.specs.declared.Held.{Held}
use Rattle.known.proofs.Written.{written}
use Rattle.known.specs.Table.{compute_lines, nothing_held, held, beside_at, writes_to}
use Rattle.known.proofs.Apart.{apart_from, apart_marker}
use Rattle.back.proofs.Shapes.{places8, Eight}
use Rattle.back.proofs.Held.{Computed, HeldKind, each-held, multi-held}

-- ---- the compute of a row that has one
module _ (n k a b c d e f g h : ℕ) (qs : List ℕ) (m : Compute) where
  abbrev row : List ℕ
  row = row8 k a b c d e f g h qs

  spare-three : (l : List ℕ) → Below (filled 8 (form ∷ word ∷ filled 3 l)) (a ∷ b ∷ c ∷ d ∷ e ∷ f ∷ g ∷ h ∷ qs) → (f ≡ 0) × (g ≡ 0) × (h ≡ 0)
  spare-three [] t = omega arith
  spare-three (x ∷ []) t = omega arith
  spare-three (x ∷ y ∷ []) t = omega arith
  spare-three (x ∷ y ∷ z ∷ l) t = omega arith

  of-single :
      (t : Bool) → is_compute b ≡ t → a ≡ 1 →
      Below (filled 8 (form ∷ cond t (word ∷ filled 3 (lookup b fields (never ∷ []))) (cond (is_instruction b) (word ∷ replicate 6 word) (never ∷ [])))) (a ∷ b ∷ c ∷ d ∷ e ∷ f ∷ g ∷ h ∷ qs) →
      cond t (made_single (single_fields b c d e) (cond (eqb b 27) 16 (reg c).0)) (Err NotACompute) ≡ Ok m →
      Computed m.field (places8 a b c d e f g h) m.first m.second
  unfolding made_single
  of-single true p z w q =
      let i : Inside b c d e = single-inside (lookup b fields (never ∷ [])) a b c d e (f ∷ g ∷ h ∷ qs) w in
      let s = spare-three (lookup b fields (never ∷ [])) w in
      let x : record { field = pack (single_fields b c d e); first = cond (eqb b 27) 16 (reg c).0; second = 16 } ≡ m = cc in
      rw (← x, z, s.0, s.1, s.2) (by-compute HeldKind each-held b p c d e i (by-compute SingleKind each-single b p c d e i))
  of-single false p z w q = let z : ◌≡◌ {A = ℕ} 0 1 = cc in absurd (omega arith)

  of-form :
      (t0 t1 t2 : Bool) → eqb a 0 ≡ t0 → eqb a 1 ≡ t1 → eqb a 2 ≡ t2 → t0 ≡ false →
      Below (filled 8 (cond t0 (n ∷ []) (cond t1 (form ∷ single b) (cond t2 (form ∷ register ∷ register ∷ register ∷ op ∷ register ∷ register ∷ register ∷ []) (never ∷ [])))))
      (a ∷ b ∷ c ∷ d ∷ e ∷ f ∷ g ∷ h ∷ qs) →
      cond t1 (rows.single_of b c d e) (cond t2 (made_multi (rows.multi_of row)) (made_multi (rows.multi_of row))) ≡ Ok m →
      Computed m.field (places8 a b c d e f g h) m.first m.second
  of-form true t1 t2 x y z nz w q = let z : ◌≡◌ {A = ℕ} 0 1 = cc in absurd (omega arith)
  of-form false true t2 x y z nz w q = of-single (is_compute b) refl (eqb-true a 1 y) w q
  of-form false false true x y z nz w q =
      rw (eqb-true a 2 z) (multi-held b c d f g h (omega arith) (omega arith) (omega arith) (omega arith) (omega arith) (omega arith) e m (omega arith) q)
  of-form false false false x y z nz w q = let z : a < 0 = w.0 in absurd (omega arith)

  pub compute-held : eqb a 0 ≡ false → Eight n k a b c d e f g h qs → compute_of row ≡ Ok m → Computed m.field (places8 a b c d e f g h) m.first m.second
  unfolding compute compute_of
  compute-held z w q = of-form (eqb a 0) (eqb a 1) (eqb a 2) refl refl refl z w q

-- ---- the compute beside a move, or none
pub record Besides (o : Option Compute) (places : List ℕ) : Type 0 where
  pub beside : Held
  pub same : beside_at (field_of o) ≡ Some beside
  pub own : beside.places ≡ places
  pub ranged : RangedCompute o
  pub writing : (r : ℕ) → r < 16 → writes_to beside r ≡ writes o r
  pub unmarked : matches (fixed 22 16 0b0111111 ∷ []) (field_of o) ≡ false

apart_zero : apart_from (fixed 22 0 0 ∷ []) compute_lines ≡ true
unfolding compute_lines layout_of instruction_of scalars others
apart_zero = refl

none_besides : Besides None (replicate 8 0)
unfolding beside_at writes
none_besides = record { beside = nothing_held; same = refl; own = refl; ranged = tt; writing = λ r h. refl; unmarked = refl }

held_besides : (m : Compute) (places : List ℕ) → Computed m.field places m.first m.second → Besides (Some m) places
unfolding beside_at writes
held_besides m places c =
    let z : eqb m.field 0 ≡ false = is_false _ (λ e. zero_not m.field (eqb-true m.field 0 e) (c.unlike (fixed 22 0 0 ∷ []) apart_zero)) in
    record {
      beside = held places c.one c.two;
      same = rw (z, c.same);
      own = refl;
      ranged = c.small;
      writing = λ r h. rw (written c.one r h, written c.two r h, c.written.0, c.written.1);
      unmarked = c.unlike (fixed 22 16 0b0111111 ∷ []) apart_marker;
    }
  where
    zero_not : (n : ℕ) → n ≡ 0 → matches (fixed 22 0 0 ∷ []) n ≡ false → ⊥
    zero_not n e f = let g = rw e at f in let z : ◌≡◌ {A = ℕ} 0 1 = cc in omega arith

module _ (k a b c d e f g h : ℕ) (qs : List ℕ) (o : Option Compute) where
  zeros : a ≡ 0 → Below (filled 8 (form ∷ [])) (a ∷ b ∷ c ∷ d ∷ e ∷ f ∷ g ∷ h ∷ qs) → places8 a b c d e f g h ≡ replicate 8 0
  zeros ea w =
      let eb : b ≡ 0 = omega arith in
      let ec : c ≡ 0 = omega arith in
      let ed : d ≡ 0 = omega arith in
      let ee : e ≡ 0 = omega arith in
      let ef : f ≡ 0 = omega arith in
      let eg : g ≡ 0 = omega arith in
      let eh : h ≡ 0 = omega arith in
      rw (ea, eb, ec, ed, ee, ef, eg, eh)

  none-zeros : eqb a 0 ≡ true → Eight form k a b c d e f g h qs → places8 a b c d e f g h ≡ replicate 8 0
  unfolding compute
  none-zeros s w = zeros (eqb-true a 0 s) (rw s at w)

  pub beside-held : Eight form k a b c d e f g h qs → beside_of (row8 k a b c d e f g h qs) ≡ Ok o → Besides o (places8 a b c d e f g h)
  unfolding beside_of
  beside-held w q = go (eqb a 0) refl q
    where
      go :
          (t : Bool) → eqb a 0 ≡ t → cond t (Ok None) (rows.beside (compute_of (row8 k a b c d e f g h qs))) ≡ Ok o →
          Besides o (places8 a b c d e f g h)
      go true s y =
          let x : o ≡ None = cc in
          rw (x, none-zeros s w) none_besides
      go false s y =
          let x = made-beside k a b c d e f g h qs o (compute_of (row8 k a b c d e f g h qs)) y in
          rw x.2 (held_besides x.0 (places8 a b c d e f g h) (compute-held form k a b c d e f g h qs x.0 s w x.1))
