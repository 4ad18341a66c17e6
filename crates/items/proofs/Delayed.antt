-- Any instruction but a `JumpRelative` (13) is no delayed jump.
use mathlib.Core.Path.{◌≡◌, refl}
use mathlib.Core.Bool.{false}
use mathlib.Core.List.{List, [], ◌∷◌}
use Prim.Native.Nat.{ℕ}
use denote.Enum.Declared.{tag_of}
use types.Run.{OneOf, miss}
use Rattle.items.specs.contracts.VisaInstruction.{the_type}
use Rattle.items.specs.declared.VisaInstruction.{VisaInstruction}
use Rattle.items.specs.declared.VisaInstruction.TheVariants.{Scalar, Transfer, LoadImmediate, ModifyIndex, LoadDmPostModify, StoreDmPostModify, LoadDmPreModify, StoreDmPreModify, LoadDmOffset, StoreDmOffset, IntegerSubOne, IntegerPass, IntegerCompareUnsigned, JumpRelative, CJump, PushImmediate, LeafReturn, Compute, DualMove, MemoryMove, StoreImmediate, BitSetMode1, BitClearMode1, Nop, WideNop}
use Rattle.items.specs.Kinds.{kind_of}

-- where a match has passed it by
abbrev others : List ℕ
others = 0 ∷ 1 ∷ 2 ∷ 3 ∷ 4 ∷ 5 ∷ 6 ∷ 7 ∷ 8 ∷ 9 ∷ 10 ∷ 11 ∷ 12 ∷ 14 ∷ 15 ∷ 16 ∷ 17 ∷ 18 ∷ 19 ∷ 20 ∷ 21 ∷ 22 ∷ 23 ∷ 24 ∷ []

pub not_delayed : (v : VisaInstruction) → OneOf others (tag_of the_type v) → false ≡ (kind_of v).delayed
not_delayed (Scalar i) h = refl
not_delayed (Transfer d s) h = refl
not_delayed (LoadImmediate d v) h = refl
not_delayed (ModifyIndex i z) h = refl
not_delayed (LoadDmPostModify r i m) h = refl
not_delayed (StoreDmPostModify r i m) h = refl
not_delayed (LoadDmPreModify r i m) h = refl
not_delayed (StoreDmPreModify r i m) h = refl
not_delayed (LoadDmOffset r i z) h = refl
not_delayed (StoreDmOffset r i z) h = refl
not_delayed (IntegerSubOne d s) h = refl
not_delayed (IntegerPass d s) h = refl
not_delayed (IntegerCompareUnsigned l r) h = refl
not_delayed (JumpRelative c z d) h = absurd (miss others 13 tt h)
not_delayed (CJump t) h = refl
not_delayed (PushImmediate v) h = refl
not_delayed LeafReturn h = refl
not_delayed (Compute k) h = refl
not_delayed (DualMove k dm pm) h = refl
not_delayed (MemoryMove k a) h = refl
not_delayed (StoreImmediate i m v) h = refl
not_delayed (BitSetMode1 v) h = refl
not_delayed (BitClearMode1 v) h = refl
not_delayed Nop h = refl
not_delayed WideNop h = refl
