-- A DM move with a modifier that encodes takes one parcel or two, and as a memory move without compute it encodes in three.
use Prim.Native.Nat.{ℕ, ◌/◌, ◌<◌}
use native.Mathlib.Omega.{arith}
use mathlib.Core.Path.{◌≡◌, refl, subst}
use mathlib.Core.Bool.{Bool, false, cond, not, ◌&&◌}
use lib.Dec.{leb, ltb}
use lib.ListN.{length}
use borrow.Author.Tests.{leb-false}
use Rattle.fields.specs.Pack.{pack}
use Rattle.registers.specs.declared.UniversalRegister.{UniversalRegister}
use Rattle.registers.specs.declared.IndexRegister.{IndexRegister}
use Rattle.registers.specs.declared.ModifyRegister.{ModifyRegister}
use Rattle.refusals.specs.declared.Refusal.TheVariants.{InvalidDmIndex, InvalidDmModifier, UnsupportedPostModifyRegister, Dag1StoreSource}
use Rattle.std.specs.Prelude.{Ok, None}
use Rattle.refusals.proofs.Order.{AllGood, when-good, good-when}
use Rattle.items.specs.declared.Direction.{Direction}
use Rattle.items.specs.declared.Direction.TheVariants.{Load, Store}
use Rattle.items.specs.declared.Update.{Update}
use Rattle.items.specs.declared.Update.TheVariants.{PostModify, PreModify}
use Rattle.items.specs.declared.MemoryAccess.{MemoryAccess}
use Rattle.items.specs.declared.VisaInstruction.{VisaInstruction}
use Rattle.items.specs.declared.VisaInstruction.TheVariants as visa
use Rattle.words.specs.Forms.{is_store, is_post}
use Rattle.encode.specs.Registers.{is_pm, in_dag, mixed, same_dag, writes, memory_clashes}
use Rattle.encode.specs.Refusals.{modify_refusals}
use Rattle.encode.specs.Layouts.{Layout, modify_layout, layout_of}
use Rattle.encode.specs.Encoding.{form_in, form_as, form_of, form_parcels, form_verdict, parcels_of, verdict_of}
use Rattle.encode.proofs.Passed.{good-passed, good-word, passed-good}
use Rattle.prefixes.proofs.Tests.{and_second}
use Rattle.widened.specs.Moves.{Moves, dm, pm, moved, load_post, store_post, load_pre, store_pre, memory}

-- the four moves, and the memory move for them
abbrev pub short_move : Direction → Update → UniversalRegister → IndexRegister → ModifyRegister → VisaInstruction
short_move Load PostModify r i m = visa.LoadDmPostModify r i m
short_move Store PostModify r i m = visa.StoreDmPostModify r i m
short_move Load PreModify r i m = visa.LoadDmPreModify r i m
short_move Store PreModify r i m = visa.StoreDmPreModify r i m

abbrev pub access : Direction → Update → UniversalRegister → IndexRegister → ModifyRegister → MemoryAccess
access d u r i m = record { direction = d; register = r; index = i; modifier = m; update = u }

abbrev pub wide_move : Direction → Update → UniversalRegister → IndexRegister → ModifyRegister → VisaInstruction
wide_move d u r i m = visa.MemoryMove None (access d u r i m)

-- a code below 16 is a data register
no_dag : (code : ℕ) (second : Bool) → leb 16 code ≡ false → in_dag code second ≡ false
unfolding in_dag
no_dag code second e = let h = leb-false 16 code e in let z : code / 16 ≡ 0 = omega arith in rw z refl

-- what it moves
pub short_moves : (d : Direction) (u : Update) {r : UniversalRegister} {i : IndexRegister} {m : ModifyRegister} → Moves (short_move d u r i m) (moved dm d r i m u)
short_moves Load PostModify = load_post
short_moves Store PostModify = store_post
short_moves Load PreModify = load_pre
short_moves Store PreModify = store_pre

module _ (r : UniversalRegister) (i : IndexRegister) (m : ModifyRegister) where
  short-layout : (d : Direction) (u : Update) → layout_of (short_move d u r i m) ≡ modify_layout r i m (is_store d) (is_post u)
  unfolding layout_of
  short-layout Load PostModify = refl
  short-layout Store PostModify = refl
  short-layout Load PreModify = refl
  short-layout Store PreModify = refl

  -- 16 is not met: post-modify of a data register, or a store that meets no 8
  no_clash :
      (d : Direction) (u : Update) → is_pm i.0 ≡ false → (is_store d && in_dag r.0 false) ≡ false → (is_post u && leb 16 r.0) ≡ false →
      same_dag (access d u r i m) ≡ false
  unfolding same_dag
  no_clash Load PostModify p s c = rw p (no_dag r.0 false c)
  no_clash Store PostModify p s c = rw p s
  no_clash Load PreModify p s c = refl
  no_clash Store PreModify p s c = rw p s

  no-compute : (d : Direction) (u : Update) → memory_clashes None (access d u r i m) ≡ false
  unfolding memory_clashes writes
  no-compute d u = and_second (not (is_store d)) (ltb r.0 16 && false) (and_second (ltb r.0 16) false refl)

  one_or_two : (u : Update) (word : ℕ) → length (form_parcels (form_in (cond (is_post u) 1 2) word)) < 3
  one_or_two PostModify word = omega arith
  one_or_two PreModify word = omega arith

  module _ (d : Direction) (u : Update) (g : verdict_of (short_move d u r i m) ≡ Ok tt) where
    abbrev narrow : Layout
    narrow = modify_layout r i m (is_store d) (is_post u)

    encodes_so : form_verdict (form_as narrow) ≡ Ok tt
    unfolding verdict_of form_of
    encodes_so = subst (λ (l : Layout). form_verdict (form_as l) ≡ Ok tt) (short-layout d u) g

    met : AllGood (modify_refusals r i m (is_store d) (is_post u))
    met = good-passed narrow encodes_so

    dm-index : is_pm i.0 ≡ false
    dm-index = when-good (is_pm i.0) (InvalidDmIndex i.0) met.0

    dm-modifier : is_pm m.0 ≡ false
    dm-modifier = when-good (is_pm m.0) (InvalidDmModifier m.0) met.1.1.0

    one-memory : mixed i.0 m.0 ≡ false
    one-memory = rw (dm-index, dm-modifier)

    pub short-few : length (parcels_of (short_move d u r i m)) < 3
    unfolding parcels_of form_of
    short-few = rw (short-layout d u, good-word narrow encodes_so) (one_or_two u (pack narrow.fields))

    pub wide-encodes : verdict_of (wide_move d u r i m) ≡ Ok tt
    unfolding verdict_of form_of layout_of
    wide-encodes =
        passed-good (layout_of (wide_move d u r i m)) (
          good-when _ _ one-memory,
          (
            good-when _ _
                (no_clash d u dm-index (when-good _ (Dag1StoreSource r.0) met.1.0) (when-good _ (UnsupportedPostModifyRegister r.0) met.1.1.1.0)),
            (good-when _ _ (no-compute d u), tt),
          ),
        )

    pub wide-full : length (parcels_of (wide_move d u r i m)) ≡ 3
    unfolding parcels_of verdict_of form_of layout_of
    wide-full = rw (good-word (layout_of (wide_move d u r i m)) wide-encodes) refl

    -- and moves the same
    pub wide_moves : Moves (wide_move d u r i m) (moved dm d r i m u)
    wide_moves = subst (λ (b : Bool). Moves (wide_move d u r i m) (moved (cond b pm dm) d r i m u)) dm-index memory
