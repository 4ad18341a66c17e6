-- The table of computes reads a compute from its 23 bits: its eight places and what it writes.
use Prim.Native.Nat.{ℕ, ◌+◌, ◌/◌, ◌%◌, ◌^◌, ◌<◌}
use native.Mathlib.Omega.{arith}
use mathlib.Core.Path.{◌≡◌, refl, sym, ap, ◌∙◌, subst}
use mathlib.Core.Bool.{Bool, true, false, not, cond}
use mathlib.Core.List.{List}
use lib.Dec.{eqb, ltb}
use lib.ListN.{length}
use borrow.Author.Tests.{eqb-true, eqb-false, lt-ltb, not-false}
use Rattle.fields.specs.Pack.{Field, pack}
use Rattle.fields.specs.Faithful.{Faithful}
use Rattle.fields.specs.Matching.{matches, operands, found, shape}
use Rattle.fields.proofs.Matching.{reads-matches, reads-found, same_shape, same-found}
use Rattle.std.specs.Prelude.{Ok, Err}
use Rattle.refusals.specs.Answers.{Verdict}
use Rattle.refusals.specs.Order.{first}
use Rattle.refusals.proofs.Order.{AllGood, first_good, when-good}
use Rattle.items.specs.declared.Compute.{Compute}
use Rattle.items.specs.declared.FloatMulAlu.{FloatMulAlu}
use Rattle.computes.specs.Compute.{made_by, made_multi, multi_fields, multi_refusals}
use Rattle.computes.proofs.Fitting.{multi-faithful}
use Rattle.encode.specs.Layouts.{layout_of}
use Rattle.bounds.specs.Bounds.{fields}
use Rattle.bounds.proofs.Twelve.{twelve}
use Rattle.rows.specs.Fields.{reg, alu_op_of, scalars, others, instruction_of}
use Rattle.rows.specs.Rows.{single_fields}
use Rattle.faithful.proofs.Lines.{◌&◌, Each, Inside}
use Rattle.std.specs.Prelude.{Option, Some, None, unwrap_or}
use Rattle.known.specs.Table.{held, held_if, single_line, compute_lines, compute_at}
use Rattle.known.proofs.Apart.{apart_from, computes-apart}
use Rattle.back.proofs.Finding.{In, nth, in_nth, apart_in}
use Rattle.back.proofs.Finding as finding
use Rattle.back.proofs.Shapes.{places8}

-- ---- THE LAW of the table of computes: 23 bits that are made of a line's form are read at that line, and are of no form that is apart from all
pub record Computed (n : ℕ) (places : List ℕ) (first second : ℕ) : Type 0 where
  pub one : Option ℕ
  pub two : Option ℕ
  pub same : compute_at n ≡ Some (held places one two)
  pub written : (unwrap_or one 16 ≡ first) × (unwrap_or two 16 ≡ second)
  pub small : n < 2 ^ 23
  pub unlike : (fs : List Field) → apart_from fs compute_lines ≡ true → matches fs n ≡ false

computed :
    (i : ℕ) (fs : List Field) {places : List ℕ} {one two : Option ℕ} → ltb i (length compute_lines) ≡ true → Faithful 23 fs → (nth (single_line 0) compute_lines i).form ≡ shape fs →
    (nth (single_line 0) compute_lines i).made (operands fs) ≡ Some (held places one two) → Computed (pack fs) places (unwrap_or one 16) (unwrap_or two 16)
unfolding compute_at
computed i fs b f e q =
    let l = nth (single_line 0) compute_lines i in
    let j : In l compute_lines = in_nth (single_line 0) compute_lines i b in
    let m : matches l.form (pack fs) ≡ true = ap (λ (gs : List Field). matches gs (pack fs)) e ∙ same_shape fs (pack fs) ∙ reads-matches fs (pack fs) f.back in
    let n : found l.form (pack fs) ≡ operands fs = ap (λ (gs : List Field). found gs (pack fs)) e ∙ same-found fs (pack fs) ∙ reads-found fs (pack fs) f.back in
    record {
      one = _;
      two = _;
      written = (refl, refl);
      same = finding.first l (pack fs) m None compute_lines j computes-apart ∙ ap l.made n ∙ q;
      small = f.within;
      unlike = λ gs a. apart_in l (pack fs) m gs compute_lines j a;
    }

-- ---- the single computes: a line a kind
same-single : {k a a' b b' c c' : ℕ} {one two : Option ℕ} {t : Bool} → a ≡ a' → b ≡ b' → c ≡ c' → t ≡ true →
    held_if t (places8 1 k a b c 0 0 0) one two ≡ Some (held (places8 1 k a' b' c' 0 0 0) one two)
same-single p q r s = rw (p, q, r, s)

abbrev pub HeldKind : ℕ → Type 0
HeldKind k =
    (a b c : ℕ) → Inside k a b c → Faithful 23 (single_fields k a b c) → Computed (pack (single_fields k a b c)) (places8 1 k a b c 0 0 0) (cond (eqb k 27) 16 (reg a).0) 16

pub each-held : Each HeldKind twelve
unfolding fields compute_lines layout_of instruction_of scalars others
each-held =
    (λ a b c h f. computed 0 (single_fields 0 a b c) refl f refl (same-single (omega arith) (omega arith) (omega arith) (lt-ltb (c % 256) 16 (omega arith)))) &
    (λ a b c h f. computed 1 (single_fields 1 a b c) refl f refl (same-single (omega arith) (omega arith) (omega arith) (lt-ltb (c % 256) 16 (omega arith)))) &
    (λ a b c h f. computed 2 (single_fields 2 a b c) refl f refl (same-single (omega arith) (omega arith) (omega arith) (lt-ltb (c % 256) 16 (omega arith)))) &
    (λ a b c h f. computed 3 (single_fields 3 a b c) refl f refl (same-single (omega arith) (omega arith) (omega arith) (lt-ltb (c % 256) 16 (omega arith)))) &
    (λ a b c h f. computed 4 (single_fields 4 a b c) refl f refl (same-single (omega arith) (omega arith) (omega arith) (lt-ltb (c % 256) 16 (omega arith)))) &
    (λ a b c h f. computed 5 (single_fields 5 a b c) refl f refl (same-single (omega arith) (omega arith) (omega arith) refl)) &
    (λ a b c h f. computed 6 (single_fields 6 a b c) refl f refl (same-single (omega arith) (omega arith) (omega arith) refl)) &
    (λ a b c h f. computed 7 (single_fields 7 a b c) refl f refl (same-single (omega arith) (omega arith) (omega arith) (lt-ltb (c % 256) 16 (omega arith)))) &
    (λ a b c h f. computed 8 (single_fields 8 a b c) refl f refl (same-single (omega arith) (omega arith) (omega arith) refl)) &
    (λ a b c h f. computed 9 (single_fields 25 a b c) refl f refl (same-single (omega arith) (omega arith) (omega arith) refl)) &
    (λ a b c h f. computed 10 (single_fields 26 a b c) refl f refl (same-single (omega arith) (omega arith) (omega arith) refl)) &
    (λ a b c h f. computed 11 (single_fields 27 a b c) refl f refl (same-single (omega arith) (omega arith) (omega arith) refl)) &
    tt

-- ---- the multifunction
made-good : (v : Verdict) (x m : Compute) → made_by v x ≡ Ok m → (v ≡ Ok tt) × (x ≡ m)
made-good (Ok _) x m e = (refl, cc)
made-good (Err r) x m e = let z : ◌≡◌ {A = ℕ} 0 1 = cc in absurd (omega arith)

in_group : (n group : ℕ) → not (eqb (n / 4) group) ≡ false → n / 4 ≡ group
in_group n group e = eqb-true (n / 4) group (not-false _ e)

same-multi : {a a' b b' c c' d e e' f f' g g' : ℕ} {one two : Option ℕ} {t : Bool} → a ≡ a' → b ≡ b' → c ≡ c' → e ≡ e' → f ≡ f' → g ≡ g' → t ≡ true →
    held_if t (places8 2 a b c d e f g) one two ≡ Some (held (places8 2 a' b' c' d e' f' g') one two)
same-multi p q r s t u v = rw (p, q, r, s, t, u, v)

module _ (p x y d u v : ℕ) (hp : p < 16) (hx : x < 16) (hy : y < 16) (hd : d < 16) (hu : u < 16) (hv : v < 16) where
  abbrev given : ℕ → FloatMulAlu
  given o = record { product = reg p; mul_x = reg x; mul_y = reg y; op = alu_op_of o; alu_dst = reg d; alu_x = reg u; alu_y = reg v }

  abbrev OpHeld : ℕ → Type 0
  OpHeld o =
      AllGood (multi_refusals (given o)) → Faithful 23 (multi_fields (given o)) → Computed (pack (multi_fields (given o))) (places8 2 p x y o d u v) (p % 256) (d % 256)

  same-fields :
      (o : ℕ) → AllGood (multi_refusals (given o)) →
      held_if (not (eqb (p % 256) (d % 256))) (places8 2 (p % 256) (x % 256 % 4) (y % 256 % 4 + 4) o (d % 256) (u % 256 % 4 + 8) (v % 256 % 4 + 12)) (Some (p % 256)) (Some (d % 256)) ≡
      Some (held (places8 2 p x y o d u v) (Some (p % 256)) (Some (d % 256)))
  same-fields o g =
      let a = in_group (x % 256) 0 (when-good _ _ g.0) in
      let b = in_group (y % 256) 1 (when-good _ _ g.1.0) in
      let c = in_group (u % 256) 2 (when-good _ _ g.1.1.0) in
      let e = in_group (v % 256) 3 (when-good _ _ g.1.1.1.0) in
      same-multi (omega arith) (omega arith) (omega arith) (omega arith) (omega arith) (omega arith) (rw (when-good (eqb (p % 256) (d % 256)) _ g.1.1.1.1.0))

  add_held : OpHeld 0
  unfolding compute_lines alu_op_of
  add_held g f = computed 12 (multi_fields (given 0)) refl f refl (same-fields 0 g)

  sub_held : OpHeld 1
  unfolding compute_lines alu_op_of
  sub_held g f = computed 13 (multi_fields (given 1)) refl f refl (same-fields 1 g)

  op-held : (o : ℕ) → o < 2 → OpHeld o
  op-held o h = go (eqb o 0) refl
    where
      go : (t : Bool) → eqb o 0 ≡ t → OpHeld o
      go true e = subst OpHeld (sym (eqb-true o 0 e)) add_held
      go false e =
          let n = eqb-false o 0 e in
          let z : 1 ≡ o = omega (arith, n) in
          subst OpHeld z sub_held

  pub multi-held : (o : ℕ) (m : Compute) → o < 2 → made_multi (given o) ≡ Ok m → Computed m.field (places8 2 p x y o d u v) m.first m.second
  unfolding made_multi
  multi-held o m ho e =
      let k = made-good (first (multi_refusals (given o))) _ m e in
      let w = op-held o ho (first_good (multi_refusals (given o)) k.0) (multi-faithful (given o) m (omega arith, omega arith) e).1 in
      rw (← k.1) w
