-- The compute of 23 bits: where the reader's table of computes is fine, its eight places make the compute of that number, with the same destinations.
use Prim.Native.Nat.{ℕ, ◌+◌, ◌*◌, ◌/◌, ◌%◌, ◌^◌, ◌<◌}
use native.Mathlib.Omega.{arith}
use mathlib.Core.Path.{◌≡◌, refl, ◌∙◌, subst}
use mathlib.Core.Bool.{Bool, true, false, not, cond}
use mathlib.Core.List.{List, [], ◌∷◌, ◌++◌}
use lib.Dec.{eqb}
use lib.ListN.{length}
use borrow.Author.Tests.{ltb-true, eq-eqb, not-true}
use Rattle.fields.specs.Pack.{pack, Tiles}
use Rattle.fields.specs.Matching.{filled_by}
use Rattle.std.specs.Prelude.{Ok, Option, Some, None, unwrap_or, Result}
use Rattle.refusals.specs.Answers.{Verdict}
use Rattle.refusals.specs.Order.{first}
use Rattle.refusals.proofs.Order.{good-when, good-first}
use Rattle.items.specs.declared.Compute.{Compute}
use Rattle.computes.specs.Compute.{multi, made_single, made_multi, multi_refusals, made_by, opcode_of}
use Rattle.encode.specs.Layouts.{layout_of}
use Rattle.bounds.specs.Bounds.{never, form, word, filled, fields, is_compute, compute}
use Rattle.bounds.specs.Tables.{lookup, at}
use Rattle.rows.specs.Kept.{Below}
use Rattle.rows.specs.Fields.{instruction_of, scalars, others, alu_op_of}
use Rattle.rows.specs.Rows.{single_fields, compute_of, multi_of}
use Rattle.faithful.proofs.Lines.{◌&◌, Inside}
use Rattle.std.specs.Bool.{then_some}
use Rattle.known.specs.declared.Held.{Held}
use Rattle.known.specs.Table.{Line, held, single_line, compare_line, multi_line, compute_lines, compute_at}
use Rattle.forth.proofs.Entries.{ForAll, of-form, Holds, Each, first-line}
use Rattle.forth.proofs.Bits.{untrue, byte}
use Rattle.refusals.specs.declared.Refusal.{Refusal}

-- the eight places within their bounds, whatever a row has before and after them, and the compute that they make
pub record Makes (n : ℕ) (h : Held) : Type 0 where
  pub eight : length h.places ≡ 8
  pub some : (k : ℕ) (qs : List ℕ) → eqb (at (k ∷ (h.places ++ qs)) 1) 0 ≡ false
  pub bounds : (none k : ℕ) (qs : List ℕ) → Below (compute none (k ∷ (h.places ++ qs))) h.places
  pub makes : (k : ℕ) (qs : List ℕ) → compute_of (k ∷ (h.places ++ qs)) ≡ Ok record { field = n; first = unwrap_or h.first 16; second = unwrap_or h.second 16 }

-- ---- a single: its kind and three fields
single-below :
    (l : List ℕ) (kind a b c : ℕ) → kind < 2 ^ 32 → Below (filled 3 l) (a ∷ b ∷ c ∷ []) →
    Below (filled 8 (form ∷ word ∷ filled 3 l)) (1 ∷ kind ∷ a ∷ b ∷ c ∷ 0 ∷ 0 ∷ 0 ∷ [])
single-below [] kind a b c k h = omega arith
single-below (x ∷ []) kind a b c k h = omega arith
single-below (x ∷ y ∷ []) kind a b c k h = omega arith
single-below (x ∷ y ∷ z ∷ l) kind a b c k h = omega arith

made-same :
    (n n' d d' s s' : ℕ) → n ≡ n' → d ≡ d' → s ≡ s'
    → (let r : Result Compute Refusal = Ok (record { field = n; first = d; second = s }) in r ≡ Ok (record { field = n'; first = d'; second = s' }))
made-same n n' d d' s s' p q r = rw (p, q, r)

module _ (kind a b c n : ℕ) (destination : Option ℕ) (t : is_compute kind ≡ true) (k : kind < 2 ^ 32) where
  single-makes :
      Inside kind a b c → pack (single_fields kind a b c) ≡ n → cond (eqb kind 27) 16 (a % 256) ≡ unwrap_or destination 16 →
      Makes n (held (1 ∷ kind ∷ a ∷ b ∷ c ∷ 0 ∷ 0 ∷ 0 ∷ []) destination None)
  unfolding compute compute_of made_single
  single-makes h p q = record {
    eight = refl;
    some = λ k' qs. refl;
    bounds = λ none k' qs. rw t (single-below (lookup kind fields (never ∷ [])) kind a b c k h);
    makes = λ k' qs. rw t (made-same _ n _ (unwrap_or destination 16) 16 16 p q refl);
  }

-- ---- the lines
abbrev pub Fine : Option Held → ℕ → Type 0
Fine o n = (h : Held) → o ≡ Some h → Makes n h

-- what may be held is made
fine-if : {t : Bool} {h : Held} {n : ℕ} → (t ≡ true → Makes n h) → Fine (then_some t h) n
fine-if {t = true} {h = h} {n = n} m k e = let same : h ≡ k = cc in subst (Makes n) same (m refl)
fine-if {t = false} m k e = let z : ◌≡◌ {A = ℕ} 0 1 = cc in absurd (omega arith)

line-holds :
    (l : Line (Option Held)) → Tiles 23 l.form → ForAll l.form (λ ns. Fine (l.made ns) (pack (filled_by l.form ns))) → Holds Fine (2 ^ 23) l
line-holds l t all = record { holds = of-form 23 l.form (λ ns n. Fine (l.made ns) n) t all }

abbrev word_of : ℕ → ℕ → ℕ → ℕ → ℕ
word_of kind a b c = pack (filled_by (single_fields kind 0 0 0) (a ∷ b ∷ c ∷ []))

-- the third field's bound is the kind's; the others fill their four bits
abbrev third : ℕ → ℕ
third kind = at (filled 3 (lookup kind fields (never ∷ []))) 2

single :
    (kind : ℕ) → is_compute kind ≡ true → kind < 2 ^ 32 →
    ((a b c : ℕ) → a < 16 → b < 16 → c < third kind →
    Inside kind a b c × (pack (single_fields kind a b c) ≡ word_of kind a b c) × (cond (eqb kind 27) 16 (a % 256) ≡ a)) →
    (a : ℕ) → a < 16 → (b : ℕ) → b < 16 → (c : ℕ) → c < 16 → Fine ((single_line kind).made (a ∷ b ∷ c ∷ [])) (word_of kind a b c)
single kind t k all a ha b hb c hc = fine-if
    (λ f.
    let x = all a b c ha hb (ltb-true c (third kind) f) in
    single-makes kind a b c (word_of kind a b c) (Some a) t k x.0 x.1 x.2)

-- ---- a multifunction: the inputs' offsets in their groups of four
in_group : (n group low : ℕ) → n ≡ group * 4 + low → low < 4 → n < 256 → not (eqb (n % 256 / 4) group) ≡ false
in_group n group low e l h = untrue _ (eq-eqb (n % 256 / 4) group (omega arith))

offset_in : (n group low : ℕ) → n ≡ group * 4 + low → low < 4 → n < 256 → n % 256 % 4 ≡ low
offset_in n group low e l h = omega arith

multi-same :
    {o o' p p' d d' x x' y y' u u' v v' : ℕ} → o ≡ o' → p ≡ p' → d ≡ d' → x ≡ x' → y ≡ y' → u ≡ u' → v ≡ v' →
    pack (multi o p d x y u v) ≡ pack (multi o' p' d' x' y' u' v')
multi-same eo ep ed ex ey eu ev = rw (eo, ep, ed, ex, ey, eu, ev)

by-good : (v : Verdict) (k : Compute) → v ≡ Ok tt → made_by v k ≡ Ok k
by-good v k e = rw e

module _ (op opcode p d x y u v : ℕ) (hp : p < 16) (hd : d < 16) (hx : x < 4) (hy : y < 4) (hu : u < 4) (hv : v < 4) (t : not (eqb p d) ≡ true) where
  abbrev of_multi : Held
  of_multi = held (2 ∷ p ∷ x ∷ (y + 4) ∷ op ∷ d ∷ (u + 8) ∷ (v + 12) ∷ []) (Some p) (Some d)

  abbrev row : ℕ → List ℕ → List ℕ
  row k qs = k ∷ (of_multi.places ++ qs)

  multi-passes : (k : ℕ) (qs : List ℕ) → first (multi_refusals (multi_of (row k qs))) ≡ Ok tt
  multi-passes k qs =
      let e : eqb (p % 256) (d % 256) ≡ false = rw (byte p (omega arith), byte d (omega arith)) (not-true _ t) in
      good-first (multi_refusals (multi_of (row k qs)))
      (good-when _ _ (in_group x 0 x (omega arith) hx (omega arith)) & good-when _ _ (in_group (y + 4) 1 y (omega arith) hy (omega arith))
      & good-when _ _ (in_group (u + 8) 2 u (omega arith) hu (omega arith)) & good-when _ _ (in_group (v + 12) 3 v (omega arith) hv (omega arith))
      & good-when _ _ e & tt)

  same :
      opcode_of (alu_op_of op) ≡ opcode →
      pack (multi (opcode_of (alu_op_of op)) (p % 256) (d % 256) (x % 256 % 4) ((y + 4) % 256 % 4) ((u + 8) % 256 % 4) ((v + 12) % 256 % 4)) ≡ pack (multi opcode p d x y u v)
  same o =
      multi-same o (byte p (omega arith)) (byte d (omega arith)) (offset_in x 0 x (omega arith) hx (omega arith)) (offset_in (y + 4) 1 y (omega arith) hy (omega arith))
      (offset_in (u + 8) 2 u (omega arith) hu (omega arith)) (offset_in (v + 12) 3 v (omega arith) hv (omega arith))

  multi-makes : op < 2 → opcode_of (alu_op_of op) ≡ opcode → Makes (pack (multi opcode p d x y u v)) of_multi
  unfolding compute compute_of made_multi
  multi-makes ho o = record {
    eight = refl;
    some = λ k qs. refl;
    bounds = λ none k qs. omega arith;
    makes = λ k qs.
        by-good (first (multi_refusals (multi_of (row k qs)))) _ (multi-passes k qs)
        ∙ made-same _ (pack (multi opcode p d x y u v)) _ p _ d (same o) (byte p (omega arith)) (byte d (omega arith));
  }

-- ---- a line a compute
each-compute : Each (Holds Fine (2 ^ 23)) compute_lines
unfolding compute_lines fields layout_of instruction_of scalars others alu_op_of
each-compute =
    line-holds (single_line 0) (omega arith) (single 0 refl (omega arith) (λ a b c ha hb hc. omega arith)) &  -- FloatAdd
    line-holds (single_line 1) (omega arith) (single 1 refl (omega arith) (λ a b c ha hb hc. omega arith)) &
    line-holds (single_line 2) (omega arith) (single 2 refl (omega arith) (λ a b c ha hb hc. omega arith)) &
    line-holds (single_line 3) (omega arith) (single 3 refl (omega arith) (λ a b c ha hb hc. omega arith)) &
    line-holds (single_line 4) (omega arith) (single 4 refl (omega arith) (λ a b c ha hb hc. omega arith)) &
    line-holds (single_line 5) (omega arith) (single 5 refl (omega arith) (λ a b c ha hb hc. omega arith)) &
    line-holds (single_line 6) (omega arith) (single 6 refl (omega arith) (λ a b c ha hb hc. omega arith)) &
    line-holds (single_line 7) (omega arith) (single 7 refl (omega arith) (λ a b c ha hb hc. omega arith)) &
    line-holds (single_line 8) (omega arith) (single 8 refl (omega arith) (λ a b c ha hb hc. omega arith)) &  -- FloatPass
    line-holds (single_line 25) (omega arith) (single 25 refl (omega arith) (λ a b c ha hb hc. omega arith)) &  -- IntegerSubOne
    line-holds (single_line 26) (omega arith) (single 26 refl (omega arith) (λ a b c ha hb hc. omega arith)) &
    line-holds compare_line (omega arith)
    (λ c hc a ha b hb. fine-if (λ f. let h = ltb-true c 1 f in single-makes 27 a b c (word_of 27 c a b) None refl (omega arith) (omega arith) (omega arith) refl)) &
    line-holds (multi_line 0 0x18) (omega arith) (λ p hp d hd x hx y hy u hu v hv. fine-if (λ t. multi-makes 0 0x18 p d x y u v hp hd hx hy hu hv t (omega arith) refl)) &
    line-holds (multi_line 1 0x19) (omega arith) (λ p hp d hd x hx y hy u hu v hv. fine-if (λ t. multi-makes 1 0x19 p d x y u v hp hd hx hy hu hv t (omega arith) refl)) &
    tt

-- THE LAW of computes
pub compute-makes : (n : ℕ) → n < 2 ^ 23 → (h : Held) → compute_at n ≡ Some h → Makes n h
unfolding compute_at
compute-makes n h = first-line Fine (2 ^ 23) None compute_lines each-compute n h (λ k e. let z : ◌≡◌ {A = ℕ} 0 1 = cc in absurd (omega arith))
