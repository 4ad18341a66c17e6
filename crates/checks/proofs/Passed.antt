-- What it says that an item's checks are passed: each of its tests came out false.
use mathlib.Core.Path.{◌≡◌, refl}
use mathlib.Core.Bool.{Bool, false, ◌&&◌}
use mathlib.Core.List.{List}
use Prim.Native.Nat.{ℕ, ◌+◌, ◌≤◌}
use lib.Dec.{ltb}
use borrow.Author.Tests.{ltb-false}
use Rattle.refusals.specs.declared.Refusal.{Refusal}
use Rattle.std.specs.Prelude.{Ok, Some, None, Option}
use Rattle.refusals.specs.Answers.{Verdict}
use Rattle.refusals.specs.Order.{when, or_else}
use Rattle.items.specs.Kinds.{is_branch}
use Rattle.encode.specs.Encoding.{form_verdict}
use Rattle.coded.specs.declared.Coding.{Coding}
use Rattle.places.specs.declared.Rooms.{Rooms}
use Rattle.places.specs.Items.{size_of}
use Rattle.prefixes.proofs.Tests.{true_false}
use Rattle.refusals.proofs.Order.{when-good, or_else-good}
use Rattle.tables.specs.Tables.{lookup, is_there}
use Rattle.checks.specs.Checks.{instruction_chk, label_chk, jump_chk, begin_chk}

-- a test, and what follows it
pub unmet : (t : Bool) (r : Refusal) (w : Verdict) → or_else (when t r) w ≡ Ok tt → (t ≡ false) × (w ≡ Ok tt)
unmet t r w e = let g = or_else-good (when t r) w e in (when-good t r g.0, g.1)

nowhere : (f : Option ℕ) → is_there f ≡ false → f ≡ None
nowhere (Some p) e = absurd (true_false refl e)
nowhere None e = refl

-- ---- each kind of item
pub record InstructionGood (r : Rooms) (at depth : ℕ) (c : Coding) : Type 0 where
  pub outside : (is_branch c.kind && ltb 0 depth) ≡ false
  pub encodes : form_verdict c.form ≡ Ok tt
  pub parcels : at + size_of c.form ≤ r.parcels

pub instruction-good : (r : Rooms) (at depth : ℕ) (c : Coding) → instruction_chk r at depth c ≡ Ok tt → InstructionGood r at depth c
instruction-good r at depth c e =
    let x = unmet _ _ _ e in
    let y = or_else-good _ _ x.1 in
    let z = unmet _ _ _ y.1 in
    record { outside = x.0; encodes = y.0; parcels = ltb-false _ _ z.0 }

pub record LabelGood (r : Rooms) (depth : ℕ) (names ls : List ℕ) (n a b : ℕ) : Type 0 where
  pub outside : depth ≤ 0
  pub fresh : lookup names ls a b n ≡ None
  pub labels : n + 1 ≤ r.labels

pub label-good : (r : Rooms) (depth : ℕ) (names ls : List ℕ) (n a b : ℕ) → label_chk r depth names ls n a b ≡ Ok tt → LabelGood r depth names ls n a b
label-good r depth names ls n a b e =
    let x = unmet _ _ _ e in
    let y = unmet _ _ _ x.1 in
    let z = unmet _ _ _ y.1 in
    record { outside = ltb-false _ _ x.0; fresh = nowhere _ y.0; labels = ltb-false _ _ z.0 }

pub record JumpGood (r : Rooms) (at jumps depth : ℕ) : Type 0 where
  pub outside : depth ≤ 0
  pub waits : jumps + 1 ≤ r.jumps
  pub parcels : at + 3 ≤ r.parcels

pub jump-good : (r : Rooms) (at jumps depth : ℕ) → jump_chk r at jumps depth ≡ Ok tt → JumpGood r at jumps depth
jump-good r at jumps depth e =
    let x = unmet _ _ _ e in
    let y = unmet _ _ _ x.1 in
    let z = unmet _ _ _ y.1 in
    record { outside = ltb-false _ _ x.0; waits = ltb-false _ _ y.0; parcels = ltb-false _ _ z.0 }

pub record BeginGood (r : Rooms) (at depth : ℕ) : Type 0 where
  pub loops : depth + 1 ≤ r.loops
  pub parcels : at + 3 ≤ r.parcels

pub begin_good : (r : Rooms) (at depth : ℕ) → begin_chk r at depth ≡ Ok tt → BeginGood r at depth
begin_good r at depth e =
    let x = unmet _ _ _ e in
    let y = unmet _ _ _ x.1 in
    record { loops = ltb-false _ _ x.0; parcels = ltb-false _ _ y.0 }
