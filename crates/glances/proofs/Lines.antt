-- Each line is right about its row: the kind's bounds are one more than the line's limits, and within them the instruction's form is the line's word.
use Prim.Native.Nat.{ℕ, suc, ◌+◌, ◌*◌, ◌/◌, ◌%◌, ◌<◌, ◌≤◌}
use mathlib.Core.List.{List, [], ◌∷◌, ◌++◌}
use mathlib.Core.Bool.{Bool, true, false, cond, ◌&&◌}
use mathlib.Core.Path.{◌≡◌, refl, sym, ap, ◌∙◌, subst}
use native.Mathlib.Omega.{arith}
use Rattle.std.specs.Prelude.{Option, Some, None, unwrap_or, Ok, Result}
use lib.Arith.{digits_mod}
use lib.Dec.{leb, eqb}
use lib.IntN.{ℤ, pos, negsuc}
use lib.ListN.{length}
use borrow.Author.Tests.{lt-leb, le-ltb}
use Rattle.fields.specs.Pack.{pack}
use Rattle.signs.specs.Signs.{folded, within as in_range}
use Rattle.words.specs.Forms.{bit_of, condition_code, jump8a, call25a, store16a, offset15a, modify3b, offset15b, modify3c}
use Rattle.bounds.specs.Bounds.{never, filled, fields, varying, bounds_of}
use Rattle.bounds.specs.Checks.{inside}
use Rattle.bounds.specs.Tables.{at, lookup}
use Rattle.items.specs.declared.Condition.{Condition}
use Rattle.items.specs.declared.VisaInstruction.{VisaInstruction}
use Rattle.items.specs.declared.VisaInstruction.TheVariants.{CJump, StoreImmediate}
use Rattle.items.specs.declared.Item.TheVariants as item
use Rattle.items.specs.Kinds.{kind_of, is_branch}
use Rattle.encode.specs.declared.Form.{Form}
use Rattle.refusals.specs.declared.Refusal.{Refusal}
use Rattle.encode.specs.declared.Form.TheVariants as form
use Rattle.encode.specs.Encoding.{form_in, form_as, form_of}
use Rattle.encode.specs.Layouts.{layout_of, modify_layout, offset_layout, jump_layout}
use Rattle.encode.specs.Registers.{is_pm, in_dag, mixed}
use Rattle.rows.specs.Fields.{code, index, modifier, instruction_of, scalars, others}
use Rattle.rows.specs.Rows.{item_of, read_of}
use Rattle.combined.specs.declared.Glance.{Glance}
use Rattle.combined.specs.declared.Glance.TheVariants.{Pair, Word, Branch}
use Rattle.combined.specs.Right.{Seen, Plain, Shows, Right}
use Rattle.combined.specs.Single.{third_of, single_word}
use Rattle.combined.proofs.Single.{chosen as of-each}
use Rattle.glances.specs.Glances.{fits_of}
use Rattle.glances.proofs.Fitting.{three, fits-fields, Three, reads_three}

module _ (row : List ℕ) where
  -- the instruction of a row, were this its kind
  abbrev pub at-kind : ℕ → VisaInstruction
  at-kind kind = instruction_of kind (at row 1) (at row 2) (at row 3)

  -- a line of a kind, with its limits and its form: the limits are within the kind's bounds
  pub record Line (kind a b c : ℕ) (f : Result Form Refusal) : Type 0 where
    pub x : ℕ
    pub y : ℕ
    pub z : ℕ
    pub fields_are : Three kind x y z row
    pub in_x : a ≤ x
    pub in_y : b ≤ y
    pub in_z : c ≤ z
    pub form_is : at row 1 < suc a → at row 2 < suc b → at row 3 < suc c → form_of (at-kind kind) ≡ f

  -- a kind that holds no compute and is no mark
  abbrev pub Simple : ℕ → Type 0
  Simple kind = (eqb kind 32 ≡ false) × (eqb kind 33 ≡ false) × (eqb kind 34 ≡ false) × (eqb kind 48 ≡ false) × (eqb kind 49 ≡ false) × (eqb kind 50 ≡ false) × (eqb kind 51 ≡ false)

  -- by the kind alone; of a number each is computed
  pub line_in :
      (kind x y z a b c : ℕ) {f : (Result Form Refusal)} → at row 0 ≡ kind → a ≤ x → b ≤ y → c ≤ z
      → filled 16 (lookup kind (varying row ++ fields) (never ∷ [])) ≡ three x y z
      → ((names : ℕ) → inside kind (at row 1) (at row 2) (at row 3) names ≡ true) → Simple kind
      → (at row 1 < suc a → at row 2 < suc b → at row 3 < suc c → form_of (at-kind kind) ≡ f) → Line kind a b c f
  unfolding bounds_of item_of fields
  line_in kind x y z a b c k p q r bounds unnamed s f =
      record {
        x = x;
        y = y;
        z = z;
        fields_are = record { bounds = rw k bounds; unnamed = λ names. rw k (unnamed names); item-is = rw (k, s.0, s.1, s.2, s.3, s.4, s.5, s.6) };
        in_x = p;
        in_y = q;
        in_z = r;
        form_is = f;
      }

  -- where the limits are the bounds
  pub line :
      (kind a b c : ℕ) {f : (Result Form Refusal)} → at row 0 ≡ kind → filled 16 (lookup kind (varying row ++ fields) (never ∷ [])) ≡ three a b c
      → ((names : ℕ) → inside kind (at row 1) (at row 2) (at row 3) names ≡ true) → Simple kind
      → (at row 1 < suc a → at row 2 < suc b → at row 3 < suc c → form_of (at-kind kind) ≡ f) → Line kind a b c f
  line kind a b c k bounds unnamed s f = line_in kind a b c a b c k (omega arith) (omega arith) (omega arith) bounds unnamed s f

  module _ (n : length row ≡ 17) where
    reads-line : {kind a b c : ℕ} {f : (Result Form Refusal)} → Line kind a b c f → fits_of a b c row ≡ true → (names : ℕ) → read_of row names ≡ Ok (item.Instruction (at-kind kind))
    reads-line {kind} {a} {b} {c} l t = reads_three a b c row n l.fields_are l.in_x l.in_y l.in_z t

    -- what a line that fits shows
    coded : {kind a b c : ℕ} {f : (Result Form Refusal)} → Line kind a b c f → fits_of a b c row ≡ true → form_of (at-kind kind) ≡ f
    coded {kind} {a} {b} {c} l t = let h = fits-fields a b c row t in l.form_is h.0 h.1 h.2

    shows : {kind a b c : ℕ} {f g : (Result Form Refusal)} → f ≡ g → Line kind a b c f → fits_of a b c row ≡ true → Seen row g
    shows {kind} e l t = record { instruction = at-kind kind; reads = reads-line l t; encodes = coded l t ∙ e }

    plain : {kind a b c : ℕ} {f g : (Result Form Refusal)} → f ≡ g → Line kind a b c f → is_branch (kind_of (at-kind kind)) ≡ false → fits_of a b c row ≡ true → Plain row g
    plain {kind} e l s t = record { seen = record { instruction = at-kind kind; reads = reads-line l t; encodes = coded l t ∙ e }; stays = s }

    -- a word of three parcels, of two, of one; a branch's word; the leaf return
    module _ {kind a b c w v : ℕ} (e : w ≡ v) where
      pub worded : Line kind a b c (Ok (form.Word v)) → is_branch (kind_of (at-kind kind)) ≡ false → true ≡ fits_of a b c row → Plain row (Ok (form.Word w))
      worded l s t = plain (ap (λ (v : ℕ). Ok (form.Word v)) (sym e)) l s (sym t)

      pub paired : Line kind a b c (Ok (form.Pair v)) → is_branch (kind_of (at-kind kind)) ≡ false → true ≡ fits_of a b c row → Plain row (Ok (form.Pair w))
      paired l s t = plain (ap (λ (v : ℕ). Ok (form.Pair v)) (sym e)) l s (sym t)

      pub shorted : Line kind a b c (Ok (form.Short v)) → is_branch (kind_of (at-kind kind)) ≡ false → true ≡ fits_of a b c row → Plain row (Ok (form.Short w))
      shorted l s t = plain (ap (λ (v : ℕ). Ok (form.Short v)) (sym e)) l s (sym t)

      pub branched : Line kind a b c (Ok (form.Word v)) → true ≡ fits_of a b c row → Seen row (Ok (form.Word w))
      branched l t = shows (ap (λ (v : ℕ). Ok (form.Word v)) (sym e)) l (sym t)

    pub leaves : {kind a b c : ℕ} → Line kind a b c (Ok form.Leaf) → true ≡ fits_of a b c row → Seen row (Ok form.Leaf)
    leaves {kind} {a} {b} {c} l t = shows refl l (sym t)

    -- a single compute, by its own table
    abbrev Computing : ℕ → Type 0
    Computing kind =
        at row 0 ≡ kind →
        Line kind 15 15 (unwrap_or (third_of kind) 0) (Ok (form.Word (unwrap_or (single_word kind (at row 1) (at row 2) (at row 3)) 0))) × (is_branch (kind_of (at-kind kind)) ≡ false)

    computing : {most : ℕ} → third_of (at row 0) ≡ Some most → Computing (at row 0)
    unfolding fields instruction_of scalars others layout_of form_of third_of single_word
    computing known =
        of-each Computing (at row 0) (
          (λ k. (line 0 15 15 15 k refl (λ _. refl) (refl, refl, refl, refl, refl, refl, refl) (λ _ _ _. refl), refl)),
          (
            (λ k. (line 1 15 15 15 k refl (λ _. refl) (refl, refl, refl, refl, refl, refl, refl) (λ _ _ _. refl), refl)),
            (
              (λ k. (line 2 15 15 15 k refl (λ _. refl) (refl, refl, refl, refl, refl, refl, refl) (λ _ _ _. refl), refl)),
              (
                (λ k. (line 3 15 15 15 k refl (λ _. refl) (refl, refl, refl, refl, refl, refl, refl) (λ _ _ _. refl), refl)),
                (
                  (λ k. (line 4 15 15 15 k refl (λ _. refl) (refl, refl, refl, refl, refl, refl, refl) (λ _ _ _. refl), refl)),
                  (
                    (λ k. (line 5 15 15 0 k refl (λ _. refl) (refl, refl, refl, refl, refl, refl, refl) (λ _ _ _. refl), refl)),
                    (
                      (λ k. (line 6 15 15 0 k refl (λ _. refl) (refl, refl, refl, refl, refl, refl, refl) (λ _ _ _. refl), refl)),
                      (
                        (λ k. (line 7 15 15 15 k refl (λ _. refl) (refl, refl, refl, refl, refl, refl, refl) (λ _ _ _. refl), refl)),
                        (
                          (λ k. (line 8 15 15 0 k refl (λ _. refl) (refl, refl, refl, refl, refl, refl, refl) (λ _ _ _. refl), refl)),
                          (
                            (λ k. (line 25 15 15 0 k refl (λ _. refl) (refl, refl, refl, refl, refl, refl, refl) (λ _ _ _. refl), refl)),
                            (
                              (λ k. (line 26 15 15 0 k refl (λ _. refl) (refl, refl, refl, refl, refl, refl, refl) (λ _ _ _. refl), refl)),
                              (
                                (λ k. (line 27 15 15 0 k refl (λ _. refl) (refl, refl, refl, refl, refl, refl, refl) (λ _ _ _. refl), refl)),
                                tt,
                              ),
                            ),
                          ),
                        ),
                      ),
                    ),
                  ),
                ),
              ),
            ),
          ),
        ) known

    pub singled :
        {most w : ℕ} → third_of (at row 0) ≡ Some most → single_word (at row 0) (at row 1) (at row 2) (at row 3) ≡ Some w
        → true ≡ fits_of 15 15 most row → Plain row (Ok (form.Word w))
    singled {most} {w} known made t =
        let l = computing known refl in
        worded (sym (ap (λ (o : Option ℕ). unwrap_or o 0) made))
        (subst (λ (m : ℕ). Line (at row 0) 15 15 m (Ok (form.Word (unwrap_or (single_word (at row 0) (at row 1) (at row 2) (at row 3)) 0)))) (ap (λ (o : Option ℕ). unwrap_or o 0) known) l.0) l.1 t

    -- near or far; within reach or not seen; of one DAG or not seen
    pub chosen :
        (near : Bool) (v w : ℕ) {kind a b c : ℕ} {g : Glance} → Line kind a b c (cond near (Ok (form.Pair v)) (Ok (form.Word w))) → is_branch (kind_of (at-kind kind)) ≡ false
        → true ≡ fits_of a b c row → g ≡ cond near (Pair v) (Word w) → Shows row g
    chosen true v w l s t e = rw e (paired refl l s t)
    chosen false v w l s t e = rw e (worded refl l s t)

    pub reached :
        (near : Bool) (w : ℕ) {kind a b c : ℕ} {o : Option Glance} → (near ≡ true → Line kind a b c (Ok (form.Word w)))
        → true ≡ fits_of a b c row → o ≡ cond near (Some (Branch w)) None → Right row o
    reached true w l t e = rw e (branched refl (l refl) t)
    reached false w l t e = rw e tt

    pub unmixed :
        (clash : Bool) (w : ℕ) {kind a b c : ℕ} {o : Option Glance} → (clash ≡ false → Line kind a b c (Ok (form.Word w))) → is_branch (kind_of (at-kind kind)) ≡ false
        → true ≡ fits_of a b c row → o ≡ cond clash None (Some (Word w)) → Right row o
    unmixed true w l s t e = rw e tt
    unmixed false w l s t e = rw e (worded refl (l refl) s t)

-- ---- within the limits the tests of the refusals are false
kept : (v most : ℕ) → v < suc most → most < 256 → v % 256 ≡ v
kept v most h m = let s : v < 256 = omega (arith, h, m) in let z : 0 * 256 + v ≡ v = omega arith in rw z at (digits_mod 0 s)

low : (v most : ℕ) → v < suc most → most < 256 → leb (suc most) (v % 256) ≡ false
low v most h m = rw (kept v most h m) (lt-leb (suc most) v h)

-- a data register is none of a DAG's
no_dag : (v : ℕ) → v < 16 → in_dag (v % 256) false ≡ false
unfolding in_dag
no_dag v h = let z : v / 16 ≡ 0 = omega arith in rw (kept v 15 h (omega arith), z)

pub post_form : (store : Bool) (a b c : ℕ) → a < 16 → b < 8 → c < 8 → form_as (modify_layout (code a) (index b) (modifier c) store true) ≡ Ok (form.Short (pack (modify3c (a % 256) (b % 256) (c % 256) (bit_of store))))
post_form true a b c p q r = rw (low b 7 q (omega arith), low c 7 r (omega arith), no_dag a p, low a 15 p (omega arith))
post_form false a b c p q r = rw (low b 7 q (omega arith), low c 7 r (omega arith), low a 15 p (omega arith))

pub pre_form : (store : Bool) (a b c : ℕ) → (store && in_dag (a % 256) false) ≡ false → b < 8 → c < 8 → form_as (modify_layout (code a) (index b) (modifier c) store false) ≡ Ok (form.Pair (pack (modify3b (a % 256) (b % 256) (c % 256) (bit_of store))))
pre_form store a b c p q r = rw (low b 7 q (omega arith), low c 7 r (omega arith), p)

pub access-form :
    (store : Bool) (a b : ℕ) (z : ℤ) → (store && in_dag (a % 256) false) ≡ false → b < 8
    → form_as (offset_layout (code a) (index b) z store)
    ≡ cond (in_range (negsuc 63) (pos 63) z) (Ok (form.Pair (pack (offset15b (a % 256) (b % 256) (folded 7 z) (bit_of store))))) (Ok (form.Word (pack (offset15a (a % 256) (b % 256) (folded 32 z) (bit_of store)))))
access-form store a b z p q = rw (low b 7 q (omega arith), p) (go (in_range (negsuc 63) (pos 63) z))
  where
    go :
        (t : Bool) →
        form_in (cond t 2 3) (pack (cond t (offset15b (a % 256) (b % 256) (folded 7 z) (bit_of store)) (offset15a (a % 256) (b % 256) (folded 32 z) (bit_of store))))
        ≡ cond t (Ok (form.Pair (pack (offset15b (a % 256) (b % 256) (folded 7 z) (bit_of store))))) (Ok (form.Word (pack (offset15a (a % 256) (b % 256) (folded 32 z) (bit_of store)))))
    go true = refl
    go false = refl

pub jump-form : (condition : Condition) (z : ℤ) (delayed : Bool) → in_range (negsuc 0x7f_ffff) (pos 0x7f_ffff) z ≡ true → form_as (jump_layout condition z delayed) ≡ Ok (form.Word (pack (jump8a (condition_code condition) (bit_of delayed) (folded 24 z))))
jump-form condition z delayed t = rw t

pub call-form : (target : ℕ) → target < 0x100_0000 → form_of (CJump target) ≡ Ok (form.Word (pack (call25a target)))
unfolding form_of layout_of
call-form target h = rw (le-ltb 0xff_ffff target (omega (arith, h)))

pub immediate_form : (a b value : ℕ) → mixed (a % 256) (b % 256) ≡ false → form_of (StoreImmediate (index a) (modifier b) value) ≡ Ok (form.Word (pack (store16a (a % 256 % 8) (b % 256 % 8) (bit_of (is_pm (a % 256))) value)))
unfolding form_of layout_of
immediate_form a b value h = rw h
