-- A compute that has a word: its eight places lie below their bounds, and it is made, with these 23 bits and these destinations.
use Prim.Native.Nat.{ℕ, suc, ◌+◌, ◌*◌, ◌/◌, ◌%◌, ◌^◌, ◌≤◌, ◌<◌}
use native.Mathlib.Omega.{arith}
use mathlib.Core.Path.{◌≡◌, refl, sym, ap, ◌∙◌}
use mathlib.Core.Bool.{Bool, true, false, cond, not, ◌&&◌, ◌||◌}
use Rattle.std.proofs.lemmas.Option.{none-some, same_Some}
use Rattle.std.specs.Prelude.{Option, Some, None, option_and_then}
use mathlib.Core.List.{List, [], ◌∷◌}
use lib.Arith.{digits_mod}
use lib.Dec.{eqb}
use borrow.Author.Tests.{eqb-true, eq-eqb, ne_eqb}
use Rattle.fields.specs.Pack.{pack}
use Rattle.computes.specs.Compute.{made_single, multi_fields, opcode_of, made_multi}
use Rattle.std.specs.Prelude.{Ok}
use Rattle.items.specs.declared.Compute.{Compute}
use Rattle.items.specs.declared.FloatMulAlu.{FloatMulAlu}
use Rattle.bounds.specs.Tables.{at}
use Rattle.bounds.specs.Bounds.{compute}
use Rattle.rows.specs.Fields.{alu_op_of}
use Rattle.rows.specs.Kept.{Below}
use Rattle.rows.specs.Rows.{single_fields, compute_of}
use Rattle.rows.specs.Rows as rows
use Rattle.combined.specs.Single.{third_of, single_word}
use Rattle.combined.specs.Tests.{single_faults, single_of, input_faults, output_faults, multi_field, multi_of, word_of, written}
use Rattle.combined.proofs.Single.{single-line, single-kind, single_packs}
use Rattle.combined.proofs.Fits.{zero_or_one, passed, SingleFit, single-fit, MultiFit, multi-fit}

-- eight places of a row
abbrev pub eight : List ℕ → ℕ → List ℕ
eight row k = at row k ∷ at row (k + 1) ∷ at row (k + 2) ∷ at row (k + 3) ∷ at row (k + 4) ∷ at row (k + 5) ∷ at row (k + 6) ∷ at row (k + 7) ∷ []

-- a register that the row's compute does not write is none of its destinations
abbrev pub Clear : List ℕ → Compute → Type 0
Clear row k = (n : ℕ) → n < 16 → written row n ≡ false → (eqb k.first n || eqb k.second n) ≡ false

pub record Fine (row : List ℕ) (w : ℕ) : Type 0 where
  pub held : Compute
  pub some : at row 1 ≡ 0 → ⊥
  pub below : (none : ℕ) → Below (compute none row) (eight row 1)
  pub makes : compute_of row ≡ Ok held
  pub word : w ≡ 0x13e * 2 ^ 32 + held.field
  pub small : held.field < 2 ^ 23
  pub clear : Clear row held

-- a number below 16 is its own byte
pub kept : (v : ℕ) → v ≤ 15 → v % 256 ≡ v
kept v h = omega (arith, h)

-- ---- a single compute
abbrev single_of_row : List ℕ → Option ℕ
single_of_row row = single_of (at row 2) (at row 3) (at row 4) (at row 5) (at row 6) (at row 7) (at row 8)

module _ (row : List ℕ) (form : at row 1 ≡ 1) {most : ℕ} (known : third_of (at row 2) ≡ Some most) where
  single-bounds : (none : ℕ) → compute none row ≡ 3 ∷ 2 ^ 32 ∷ 16 ∷ 16 ∷ suc most ∷ 1 ∷ 1 ∷ 1 ∷ []
  unfolding compute
  single-bounds none = let l = single-line (at row 2) known in rw (form, l.0, l.1, known)

  single-below : (none : ℕ) → SingleFit most (at row 3) (at row 4) (at row 5) (at row 6) (at row 7) (at row 8) → Below (compute none row) (eight row 1)
  single-below none h =
      let p = h.places in
      let s = h.spare in
      let k = single-kind (at row 2) known in
      rw (single-bounds none)
      (omega (arith, form), (omega (arith, k.0), (omega (arith, p.0), (omega (arith, p.1), (omega (arith, p.2), (omega (arith, s.0), (omega (arith, s.1), (omega (arith, s.2), tt))))))))

-- its destination: 16 where there is none
abbrev destination : ℕ → ℕ → ℕ
destination kind a = cond (eqb kind 27) 16 (a % 256)

single-clear :
    (kind a n : ℕ) → a ≤ 15 → n < 16 → (not (eqb kind 27) && eqb a n) ≡ false →
    (eqb (destination kind a) n || eqb 16 n) ≡ false
single-clear kind a n h l = go (eqb kind 27)
  where
    go : (t : Bool) → (not t && eqb a n) ≡ false → (eqb (cond t 16 (a % 256)) n || eqb 16 n) ≡ false
    go true e = rw (ne_eqb 16 n (λ q. omega (arith, q, l)))
    go false e = rw (ne_eqb 16 n (λ q. omega (arith, q, l)), kept a h, e)

single-known : (row : List ℕ) {most w : ℕ} → at row 1 ≡ 1 → third_of (at row 2) ≡ Some most →
    cond (eqb (single_faults most (at row 3) (at row 4) (at row 5) (at row 6) (at row 7) (at row 8)) 0) (single_word (at row 2) (at row 3) (at row 4) (at row 5)) None ≡ Some w →
    Fine row w
unfolding compute_of made_single written
single-known row {most} {w} e known found =
    let t = passed (eqb (single_faults most (at row 3) (at row 4) (at row 5) (at row 6) (at row 7) (at row 8)) 0) _ found in
    let h = single-fit most (at row 3) (at row 4) (at row 5) (at row 6) (at row 7) (at row 8) (eqb-true _ 0 t.0) in
    let p = h.places in
    let k = single-kind (at row 2) known in
    let v = single_packs (at row 2) (at row 3) (at row 4) (at row 5) known (omega (arith, p.0)) (omega (arith, p.1)) (omega (arith, p.2, k.1)) in
    record {
      held = record { field = pack (single_fields (at row 2) (at row 3) (at row 4) (at row 5)); first = destination (at row 2) (at row 3); second = 16 };
      some = λ z. omega (arith, e, z);
      below = λ none. single-below row e known none h;
      makes = rw (e, (single-line (at row 2) known).0);
      word = same_Some _ _ (sym t.1 ∙ v.0);
      small = v.1;
      clear = λ n l c. single-clear (at row 2) (at row 3) n p.0 l (rw e at c);
    }

single-fine : (row : List ℕ) {w : ℕ} → at row 1 ≡ 1 → single_of_row row ≡ Some w → Fine row w
unfolding single_of
single-fine row {w} e found = go (third_of (at row 2)) refl found
  where
    go :
        (o : Option ℕ) → third_of (at row 2) ≡ o →
        option_and_then (λ most. cond (eqb (single_faults most (at row 3) (at row 4) (at row 5) (at row 6) (at row 7) (at row 8)) 0) (single_word (at row 2) (at row 3) (at row 4) (at row 5)) None) o ≡ Some w →
        Fine row w
    go None known found = absurd (none-some _ found)
    go (Some most) known found = single-known row e known found

-- ---- a multifunction
abbrev multi_of_row : List ℕ → Option ℕ
multi_of_row row = multi_of (at row 2) (at row 3) (at row 4) (at row 5) (at row 6) (at row 7) (at row 8)

multi-bounds : (row : List ℕ) (none : ℕ) → at row 1 ≡ 2 → compute none row ≡ 3 ∷ 16 ∷ 16 ∷ 16 ∷ 2 ∷ 16 ∷ 16 ∷ 16 ∷ []
unfolding compute
multi-bounds row none e = rw e

multi-below :
    (row : List ℕ) (none : ℕ) → at row 1 ≡ 2 → MultiFit (at row 2) (at row 3) (at row 4) (at row 5) (at row 6) (at row 7) (at row 8) →
    Below (compute none row) (eight row 1)
multi-below row none e h =
    let i = h.inputs in
    let o = h.others in
    rw (multi-bounds row none e)
    (omega (arith, e), (omega (arith, o.0), (omega (arith, i.0), (omega (arith, i.1), (omega (arith, o.1), (omega (arith, o.2), (omega (arith, i.2), (omega (arith, i.3), tt))))))))

-- the opcode of a sum or a difference
opcode : (op : ℕ) → op ≤ 1 → opcode_of (alu_op_of op) ≡ 0x18 + op % 256 % 2
unfolding alu_op_of
opcode = zero_or_one (λ op. opcode_of (alu_op_of op) ≡ 0x18 + op % 256 % 2) refl refl

multi-good :
    (f : FloatMulAlu) → f.mul_x.0 / 4 ≡ 0 → f.mul_y.0 / 4 ≡ 1 → f.alu_x.0 / 4 ≡ 2 → f.alu_y.0 / 4 ≡ 3 → eqb f.product.0 f.alu_dst.0 ≡ false →
    made_multi f ≡ Ok record { field = pack (multi_fields f); first = f.product.0; second = f.alu_dst.0 }
unfolding made_multi
multi-good f a b c d e = rw (eq-eqb _ _ a, eq-eqb _ _ b, eq-eqb _ _ c, eq-eqb _ _ d, e)

byte_group : (v group : ℕ) → group ≤ 3 → v / 4 ≡ group → v % 256 / 4 ≡ group
byte_group v group h e = omega (arith, h, e)

multi-fine : (row : List ℕ) {w : ℕ} → at row 1 ≡ 2 → multi_of_row row ≡ Some w → Fine row w
unfolding multi_of compute_of written
multi-fine row e found =
    let t = passed (eqb (input_faults (at row 3) (at row 4) (at row 7) (at row 8) + output_faults (at row 2) (at row 5) (at row 6)) 0) _ found in
    let h = multi-fit (at row 2) (at row 3) (at row 4) (at row 5) (at row 6) (at row 7) (at row 8) (eqb-true _ 0 t.0) in
    let i = h.inputs in
    let o = h.others in
    let p = kept (at row 2) o.0 in
    let d = kept (at row 6) o.2 in
    record {
      held = record { field = multi_field (at row 2) (at row 3) (at row 4) (at row 5) (at row 6) (at row 7) (at row 8); first = at row 2 % 256; second = at row 6 % 256 };
      some = λ z. omega (arith, e, z);
      below = λ none. multi-below row none e h;
      makes = rw e (multi-good (rows.multi_of row) (byte_group (at row 3) 0 (omega arith) i.0) (byte_group (at row 4) 1 (omega arith) i.1) (byte_group (at row 7) 2 (omega arith) i.2) (byte_group (at row 8) 3 (omega arith) i.3) (rw (p, d) h.differ) ∙ rw (opcode (at row 5) o.1));
      word = sym (same_Some _ _ t.1);
      small = omega (arith, o.0, o.2);
      clear = λ n l c. rw (p, d) (rw e at c);
    }

-- ---- either
by_form :
    (row : List ℕ) (t u : Bool) {w : ℕ} → eqb (at row 1) 1 ≡ t → eqb (at row 1) 2 ≡ u → cond t (single_of_row row) (cond u (multi_of_row row) None) ≡ Some w →
    Fine row w
by_form row true u e f found = single-fine row (eqb-true (at row 1) 1 e) found
by_form row false true e f found = multi-fine row (eqb-true (at row 1) 2 f) found
by_form row false false e f found = absurd (none-some _ found)

pub word-fine : (row : List ℕ) {w : ℕ} → word_of row ≡ Some w → Fine row w
unfolding word_of
word-fine row found = by_form row (eqb (at row 1) 1) (eqb (at row 1) 2) refl refl found

-- the 23 bits of the word
pub low_bits : (row : List ℕ) (w : ℕ) (f : Fine row w) → w % 2 ^ 32 ≡ f.held.field
low_bits row w f = let s : f.held.field < 2 ^ 32 = omega (arith, f.small) in ap (λ (x : ℕ). x % 2 ^ 32) f.word ∙ digits_mod 0x13e s
