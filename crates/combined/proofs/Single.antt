-- The twelve single computes, kind by kind: their bounds, and the 23 bits of their word.
use Prim.Native.Nat.{ℕ, suc, ◌+◌, ◌*◌, ◌%◌, ◌^◌, ◌≤◌, ◌<◌}
use native.Mathlib.Omega.{arith}
use mathlib.Core.Path.{◌≡◌, refl, sym, ap, subst, ◌∙◌}
use mathlib.Core.Bool.{Bool, true, false, cond}
use mathlib.Core.List.{List, [], ◌∷◌}
use lib.Dec.{eqb, lit≤}
use Rattle.std.specs.Prelude.{Option, Some, None, unwrap_or}
use Rattle.std.proofs.lemmas.Option.{none-some}
use borrow.Author.Tests.{eqb-true}
use Rattle.fields.specs.Pack.{Field, pack}
use Rattle.words.specs.Forms.{type2a}
use Rattle.encode.specs.Layouts.{layout_of}
use Rattle.bounds.specs.Tables.{lookup}
use Rattle.bounds.specs.Bounds.{never, filled, fields, is_compute}
use Rattle.rows.specs.Fields.{scalars, others, instruction_of}
use Rattle.rows.specs.Rows.{single_fields}
use Rattle.combined.specs.Single.{thirds, third_of, single_word}

abbrev pub Every : (ℕ → Type 0) → List (ℕ × Option ℕ) → Type 0
Every P [] = Unit
Every P (line ∷ lines) = P line.0 × Every P lines

-- what holds of each kind of the table holds of a kind that it finds
chosen-in : (P : ℕ → Type 0) (kind : ℕ) (lines : List (ℕ × Option ℕ)) {most : ℕ} → Every P lines → lookup kind lines None ≡ Some most → P kind
chosen-in P kind [] all h = absurd (none-some _ h)
chosen-in P kind (line ∷ lines) {most = most} all h = go (eqb kind line.0) refl (chosen-in P kind lines {most = most} all.1) h
  where
    go : (t : Bool) → eqb kind line.0 ≡ t → (lookup kind lines None ≡ Some most → P kind) → cond t line.1 (lookup kind lines None) ≡ Some most → P kind
    go true e other h = subst P (sym (eqb-true kind line.0 e)) all.0
    go false e other h = other h

pub chosen : (P : ℕ → Type 0) (kind : ℕ) {most : ℕ} → Every P thirds → third_of kind ≡ Some most → P kind
unfolding third_of
chosen P kind all h = chosen-in P kind thirds all h

-- the bounds of its three places
abbrev pub Line : ℕ → Type 0
Line kind = (is_compute kind ≡ true) × (filled 3 (lookup kind fields (never ∷ [])) ≡ 16 ∷ 16 ∷ suc (unwrap_or (third_of kind) 0) ∷ [])

pub single-line : (kind : ℕ) {most : ℕ} → third_of kind ≡ Some most → Line kind
unfolding third_of fields
single-line kind h =
    chosen Line kind
    ((refl, refl), ((refl, refl), ((refl, refl), ((refl, refl), ((refl, refl), ((refl, refl), ((refl, refl), ((refl, refl), ((refl, refl), ((refl, refl), ((refl, refl), ((refl, refl), tt)))))))))))) h

-- its kind, and the most of its third field
abbrev Small : ℕ → Type 0
Small kind = (kind ≤ 27) × (unwrap_or (third_of kind) 0 ≤ 15)

pub single-kind : (kind : ℕ) {most : ℕ} → third_of kind ≡ Some most → (kind ≤ 27) × (most ≤ 15)
unfolding third_of
single-kind kind {most = most} h =
    let s = chosen Small kind ((lit≤ tt, lit≤ tt), ((lit≤ tt, lit≤ tt), ((lit≤ tt, lit≤ tt), ((lit≤ tt, lit≤ tt), ((lit≤ tt, lit≤ tt), ((lit≤ tt, lit≤ tt), ((lit≤ tt, lit≤ tt), ((lit≤ tt, lit≤ tt), ((lit≤ tt, lit≤ tt), ((lit≤ tt, lit≤ tt), ((lit≤ tt, lit≤ tt), ((lit≤ tt, lit≤ tt), tt)))))))))))) h in
    (s.0, subst (λ (o : Option ℕ). unwrap_or o 0 ≤ 15) h s.1)

-- its word is 2a around its 23 bits
abbrev Bits : ℕ → ℕ → ℕ → ℕ → Type 0
Bits a b c kind = ((layout_of (instruction_of kind a b c)).fields ≡ type2a (single_fields kind a b c)) × (pack (single_fields kind a b c) < 2 ^ 23)

single-bits : (kind a b c : ℕ) {most : ℕ} → third_of kind ≡ Some most → a % 256 < 16 → b % 256 < 16 → c % 256 < 16 → Bits a b c kind
unfolding third_of layout_of instruction_of scalars others
single-bits kind a b c h x y z =
    chosen (Bits a b c) kind
    ((refl, omega (arith, x, y, z)), ((refl, omega (arith, x, y, z)), ((refl, omega (arith, x, y, z)), ((refl, omega (arith, x, y, z)), ((refl, omega (arith, x, y, z)), ((refl, omega (arith, x, y)), ((refl, omega (arith, x, y)), ((refl, omega (arith, x, y, z)), ((refl, omega (arith, x, y)), ((refl, omega (arith, x, y)), ((refl, omega (arith, x, y)), ((refl, omega (arith, x, y)), tt)))))))))))) h

pub word_2a : (fields : List Field) → pack (type2a fields) ≡ 0x13e * 2 ^ 32 + pack fields
word_2a fields = omega arith

pub single_packs :
    (kind a b c : ℕ) {most : ℕ} → third_of kind ≡ Some most → a % 256 < 16 → b % 256 < 16 → c % 256 < 16 →
    (single_word kind a b c ≡ Some (0x13e * 2 ^ 32 + pack (single_fields kind a b c))) × (pack (single_fields kind a b c) < 2 ^ 23)
unfolding single_word
single_packs kind a b c h x y z =
    let s = single-bits kind a b c h x y z in
    (rw (single-line kind h).0 (ap (λ (l : List Field). Some (pack l)) s.0 ∙ ap Some (word_2a (single_fields kind a b c))), s.1)
