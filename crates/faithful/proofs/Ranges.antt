-- The numbers of an instruction that is read from a row lie in its ranges: a line a kind.
use Prim.Native.Nat.{ℕ, suc, ◌^◌, ◌-◌, ◌<◌}
use native.Mathlib.Omega.{arith}
use mathlib.Core.Path.{◌≡◌, refl}
use mathlib.Core.Bool.{Bool, true, false, cond}
use lib.IntN.{pos, negsuc}
use lib.Dec.{ltb}
use lib.Signed.{mag}
use mir.Syntax.{w32}
use mir.Val.{to_z}
use borrow.Author.Tests.{ltb-true, ltb-false}
use Rattle.computes.proofs.Ranged.{Ranged}
use Rattle.bounds.specs.Bounds.{fields}
use Rattle.rows.specs.Fields.{scalars, transfers, others, instruction_of}
use Rattle.faithful.proofs.Lines.{◌&◌, Each, Inside, by_kind}

-- a place of 32 bits as a signed number
halves : (t : Bool) (b : ℕ) → ltb b (2 ^ 31) ≡ t → b < 2 ^ 32 → mag (cond t (pos b) (negsuc (2 ^ 32 - suc b))) < 2 ^ 31
halves true b e h = ltb-true b (2 ^ 31) e
halves false b e h = let g = ltb-false b (2 ^ 31) e in omega arith

signed_mag : (b : ℕ) → b < 2 ^ 32 → mag (to_z w32 b) < 2 ^ 31
signed_mag b h = halves (ltb b (2 ^ 31)) b refl h

abbrev pub RangedKind : ℕ → Type 0
RangedKind k = (a b c : ℕ) → Inside k a b c → Ranged (instruction_of k a b c)

each-ranged : Each RangedKind fields
unfolding fields instruction_of scalars transfers others
each-ranged =
    (λ a b c h. omega arith) &  -- FloatAdd
    (λ a b c h. omega arith) &
    (λ a b c h. omega arith) &
    (λ a b c h. omega arith) &
    (λ a b c h. omega arith) &
    (λ a b c h. omega arith) &
    (λ a b c h. omega arith) &
    (λ a b c h. omega arith) &
    (λ a b c h. omega arith) &  -- FloatPass
    (λ a b c h. omega arith) &  -- LoadImmediate
    (λ a b c h. omega arith) &  -- Move
    (λ a b c h. omega arith) &  -- LoadDm
    (λ a b c h. omega arith) &  -- StoreDm
    (λ a b c h. omega arith) &  -- Transfer
    (λ a b c h. omega arith) &  -- LoadImmediate
    (λ a b c h. (omega arith, signed_mag b h.1.0)) &  -- ModifyIndex
    (λ a b c h. omega arith) &  -- LoadDmPostModify
    (λ a b c h. omega arith) &
    (λ a b c h. omega arith) &
    (λ a b c h. omega arith) &  -- StoreDmPreModify
    (λ a b c h. (omega arith, omega arith, signed_mag c h.1.1.0)) &  -- LoadDmOffset
    (λ a b c h. (omega arith, omega arith, signed_mag c h.1.1.0)) &
    (λ a b c h. omega arith) &  -- IntegerSubOne
    (λ a b c h. omega arith) &
    (λ a b c h. omega arith) &
    (λ a b c h. signed_mag b h.1.0) &  -- JumpRelative
    (λ a b c h. omega arith) &  -- CJump
    (λ a b c h. omega arith) &  -- PushImmediate
    (λ a b c h. tt) &  -- LeafReturn
    (λ a b c h. omega arith) &  -- StoreImmediate
    (λ a b c h. omega arith) &  -- BitSetMode1
    (λ a b c h. omega arith) &
    (λ a b c h. tt) &  -- Nop
    (λ a b c h. tt) &  -- WideNop
    (λ a b c h. tt) &
    (λ a b c h. tt) &
    (λ a b c h. tt) &
    tt

-- THE LAW for the kinds without a compute
pub ranged : (k a b c : ℕ) → Inside k a b c → Ranged (instruction_of k a b c)
ranged k a b c h = by_kind RangedKind each-ranged k a b c h a b c h
