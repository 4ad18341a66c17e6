-- A row without a compute that encodes stands in the reader's table: a line a kind.
use Prim.Native.Nat.{ℕ, ◌+◌, ◌-◌, ◌*◌, ◌/◌, ◌%◌, ◌^◌, ◌<◌}
use native.Mathlib.Omega.{arith}
use mathlib.Core.Path.{◌≡◌, refl, sym}
use mathlib.Core.Bool.{Bool, true, false, cond, ◌&&◌}
use mathlib.Core.Logic.{◌⊎◌, inl, inr}
use mathlib.Core.List.{List}
use lib.IntN.{pos, negsuc}
use lib.Dec.{ltb}
use lib.ListN.{length}
use mir.Syntax.{w32}
use mir.Val.{to_z}
use borrow.Author.Tests.{lt-ltb, not-false}
use Rattle.fields.specs.Pack.{Field}
use Rattle.fields.specs.Matching.{operands, shape, raised}
use Rattle.signs.specs.Signs.{folded, within}
use Rattle.refusals.proofs.Order.{AllGood, when-good}
use Rattle.items.specs.declared.VisaInstruction.TheVariants as Visa
use Rattle.words.specs.Forms.{bit_of, condition_code, offset15b, offset15a}
use Rattle.encode.specs.Registers.{is_pm, in_dag}
use Rattle.encode.specs.Layouts.{layout_of}
use Rattle.encode.proofs.Laid.{Wide, one, two, three}
use Rattle.bounds.specs.Bounds.{fields}
use Rattle.rows.specs.Fields.{instruction_of, scalars, transfers, others, condition_of, signed}
use Rattle.faithful.proofs.Lines.{◌&◌, Each, Inside, by_kind}
use Rattle.std.specs.Prelude.{Some, is_some}
use Rattle.known.specs.Table.{known, known_if, line, line3b, code_fine, source, condition_at}
use Rattle.back.proofs.Finding.{nth, in_nth, plain, listed_plain, listed_3b, Stands, stands}
use Rattle.back.proofs.Folded.{condition-back, bool-back, dag_back, unmixed, signed_back, whole_back, far-back}
use Rattle.back.proofs.Shapes.{named}
use Rattle.back.proofs.Larger.{lower}

-- ---- a line of the table, and what its numbers make
pub at-line :
    (i : ℕ) {n : ℕ} {fs : List Field} {row : List ℕ} → Wide n → ltb i (length plain) ≡ true → (nth line3b plain i).form ≡ raised (48 - 16 * n) (shape fs) →
    (nth line3b plain i).made (operands fs) ≡ Some (known n row) → Stands n fs row
at-line i {n} {fs} w b e q = stands (nth line3b plain i) w (listed_plain (nth line3b plain i) (operands fs) (in_nth line3b plain i b)) e q

at_3b : {n : ℕ} {fs : List Field} {row : List ℕ} → Wide n → line3b.form ≡ raised (48 - 16 * n) (shape fs) → line3b.made (operands fs) ≡ Some (known n row) → Stands n fs row
at_3b {n} {fs} w e q = stands line3b w (listed_3b (operands fs)) e q

pub makes : {t : Bool} {n : ℕ} {row row' : List ℕ} → t ≡ true → row ≡ row' → known_if t n row ≡ Some (known n row')
makes e q = rw (e, q)

pub same : {k k' a a' b b' c c' : ℕ} → k ≡ k' → a ≡ a' → b ≡ b' → c ≡ c' → line k a b c ≡ line k' a' b' c'
same p q r s = cc

-- ---- tests of the numbers
pub and_true : {s t : Bool} → s ≡ true → t ≡ true → (s && t) ≡ true
and_true p q = rw (p, q)

code-fine : (code : ℕ) (store : Bool) → code < 0x60 → (store && in_dag code false) ≡ false → code_fine code (bit_of store) ≡ true
code-fine code true h e = and_true (lt-ltb code 0x60 h) (rw e)
code-fine code false h e = and_true (lt-ltb code 0x60 h) refl

condition-fine : (a : ℕ) → a < 7 → is_some (condition_at (condition_code (condition_of a))) ≡ true
condition-fine a h = rw (condition-back a h)

-- a source parted over three fields
source-back : (n : ℕ) → source (n / 4) (n / 2 % 2) (n % 2) ≡ n
source-back n = omega arith

source-fine : (dst src most : ℕ) → dst < most → src < most → (ltb dst most && ltb (source (src / 4) (src / 2 % 2) (src % 2)) most) ≡ true
source-fine dst src most h g = and_true (lt-ltb dst most h) (rw (source-back src) (lt-ltb src most g))

-- ---- 15b or 15a
offset-stands :
    (t : Bool) (code index c : ℕ) (store : Bool) (k a b : ℕ) → within (negsuc 63) (pos 63) (to_z w32 c) ≡ t → c < 2 ^ 32 → code < 0x60 → (store && in_dag code false) ≡ false →
    23 + bit_of store ≡ k → code ≡ a → index ≡ b →
    Stands (cond t 2 3) (cond t (offset15b code index (folded 7 (to_z w32 c)) (bit_of store)) (offset15a code index (folded 32 (to_z w32 c)) (bit_of store))) (line k a b c)
offset-stands true code index c store k a b e h g s p q r = at-line 15 (two refl) refl refl (makes (code-fine code store g s) (same p q r (signed_back c 7 63 h (omega arith) refl e)))
offset-stands false code index c store k a b e h g s p q r =
    at-line 5 (three refl) refl refl (makes (and_true (code-fine code store g s) (rw (whole_back c h) (far-back c h e))) (same p q r (whole_back c h)))

-- ---- the kinds
abbrev StandKind : ℕ → Type 0
StandKind k =
    lower k ≡ false → named k ≡ false → (a b c : ℕ) → Inside k a b c → AllGood (layout_of (instruction_of k a b c)).refusals →
    Stands (layout_of (instruction_of k a b c)).parcels (layout_of (instruction_of k a b c)).fields (line k a b c) ⊎
    ((instruction_of k a b c ≡ Visa.LeafReturn) × (line k a b c ≡ line 31 0 0 0))

not_here : {A : Type 0} → true ≡ false → A
not_here e = let z : ◌≡◌ {A = ℕ} 0 1 = cc in absurd (omega arith)

each_stands : Each StandKind fields
unfolding fields instruction_of scalars transfers others layout_of
each_stands =
    (λ l n. not_here l) &  -- FloatAdd
    (λ l n. not_here l) &
    (λ l n. not_here l) &
    (λ l n. not_here l) &
    (λ l n. not_here l) &
    (λ l n. not_here l) &
    (λ l n. not_here l) &
    (λ l n. not_here l) &
    (λ l n. not_here l) &  -- FloatPass
    (λ l n. not_here l) &  -- LoadImmediate
    (λ l n a b c h p. inl (at-line 3 (three refl) refl refl (makes (source-fine (a % 256) (b % 256) 16 (omega arith) (omega arith)) (same refl (omega arith) (omega arith) (omega arith))))) &  -- Move
    (λ l n a b c h p. inl (at-line 1 (three refl) refl refl (makes (lt-ltb (a % 256) 16 (omega arith)) (same refl (omega arith) refl (omega arith))))) &  -- LoadDm
    (λ l n a b c h p. inl (at-line 2 (three refl) refl refl (makes (lt-ltb (a % 256) 16 (omega arith)) (same refl (omega arith) refl (omega arith))))) &  -- StoreDm
    (λ l n a b c h p. inl (at-line 14 (two refl) refl refl (makes (source-fine (a % 256) (b % 256) 0x60 (omega arith) (omega arith)) (same refl (omega arith) (omega arith) (omega arith))))) &  -- Transfer
    (λ l n a b c h p. inl (at-line 0 (three refl) refl refl (makes (lt-ltb (a % 256) 0x60 (omega arith)) (same refl (omega arith) refl (omega arith))))) &  -- LoadImmediate
    (λ l n a b c h p. inl (at-line 4 (three refl) refl refl (makes refl (same refl (omega arith) (whole_back b h.1.0) (omega arith))))) &  -- ModifyIndex
    (λ l n a b c h p. inl (at-line 16 (one refl) refl refl (makes refl (same refl (omega arith) (omega arith) (omega arith))))) &  -- LoadDmPostModify
    (λ l n a b c h p. inl (at-line 16 (one refl) refl refl (makes refl (same refl (omega arith) (omega arith) (omega arith))))) &
    (λ l n a b c h p. inl (at_3b (two refl) refl (makes (code-fine (a % 256) false (omega arith) refl) (same refl (omega arith) (omega arith) (omega arith))))) &  -- LoadDmPreModify
    (λ l n a b c h p. inl (at_3b (two refl) refl (makes (code-fine (a % 256) true (omega arith) (when-good _ _ p.1.0)) (same refl (omega arith) (omega arith) (omega arith))))) &
    (λ l n a b c h p.
    inl (offset-stands (within (negsuc 63) (pos 63) (signed c)) (a % 256) (b % 256) c false 23 a b refl h.1.1.0 (omega arith) refl refl (omega arith) (omega arith))) &  -- LoadDmOffset
    (λ l n a b c h p.
    inl (offset-stands (within (negsuc 63) (pos 63) (signed c)) (a % 256) (b % 256) c true 24 a b refl h.1.1.0 (omega arith) (when-good _ _ p.1.0) refl (omega arith) (omega arith))) &
    (λ l n. not_here l) &  -- IntegerSubOne
    (λ l n. not_here l) &
    (λ l n. not_here l) &
    (λ l n a b c h p.
    inl (at-line 6 (three refl) refl refl
    (makes (condition-fine a h.0) (same refl (rw (condition-back a h.0)) (signed_back b 24 0x7f_ffff h.1.0 (omega arith) refl (not-false _ (when-good _ _ p.0))) (bool-back c h.1.1.0))))) &  -- JumpRelative
    (λ l n a b c h p. inl (at-line 7 (three refl) refl refl (makes refl (same refl refl (omega arith) (omega arith))))) &  -- CJump
    (λ l n. not_here l) &  -- PushImmediate
    (λ l n a b c h p. inr (refl, same refl (omega arith) (omega arith) (omega arith))) &  -- LeafReturn
    (λ l n a b c h p.
    let m = unmixed (is_pm (a % 256)) (is_pm (b % 256)) (when-good _ _ p.0) in
    let x = dag_back (is_pm (a % 256)) (a % 256) refl (omega arith) in
    let y = dag_back (is_pm (a % 256)) (b % 256) (sym m) (omega arith) in
    inl (at-line 8 (three refl) refl refl (makes refl (same refl (omega (arith, x)) (omega (arith, y)) refl)))) &  -- StoreImmediate
    (λ l n a b c h p. inl (at-line 9 (three refl) refl refl (makes refl (same refl refl (omega arith) (omega arith))))) &  -- BitSetMode1
    (λ l n a b c h p. inl (at-line 10 (three refl) refl refl (makes refl (same refl refl (omega arith) (omega arith))))) &
    (λ l n a b c h p. inl (at-line 17 (one refl) refl refl (makes refl (same refl (omega arith) (omega arith) (omega arith))))) &  -- Nop
    (λ l n a b c h p. inl (at-line 11 (three refl) refl refl (makes refl (same refl (omega arith) (omega arith) (omega arith))))) &  -- WideNop
    (λ l n. not_here n) &  -- label, jump, loop end
    (λ l n. not_here n) &
    (λ l n. not_here n) &
    tt

-- THE LAW of the kinds without a compute
pub plain-stands :
    (k a b c : ℕ) → lower k ≡ false → named k ≡ false → Inside k a b c → AllGood (layout_of (instruction_of k a b c)).refusals →
    Stands (layout_of (instruction_of k a b c)).parcels (layout_of (instruction_of k a b c)).fields (line k a b c) ⊎
    ((instruction_of k a b c ≡ Visa.LeafReturn) × (line k a b c ≡ line 31 0 0 0))
plain-stands k a b c l n h p = by_kind StandKind each_stands k a b c h l n a b c h p
