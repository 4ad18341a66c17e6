-- The entry of an item at its place.
use mathlib.Core.Path.{◌≡◌, refl}
use Prim.Native.Nat.{ℕ}
use Rattle.std.specs.Prelude.{Ok, Err}
use Rattle.coded.specs.Coded.{Coded}
use Rattle.items.specs.declared.Item.TheVariants.{Instruction, Label, Jump, LoopBegin, LoopEnd}
use Rattle.places.specs.Items.{Kernel, place}
use Rattle.places.specs.Left.{left}
use Rattle.plain.specs.Plain.{label_of, jump_of}

pub label-left : (k : Kernel) (i : ℕ) (x : Coded) → label_of (place k.it i) x ≡ (left k i x).labels
label-left k i (Ok (Instruction c)) = refl
label-left k i (Ok (Label a b)) = refl
label-left k i (Ok (Jump c a b)) = refl
label-left k i (Ok (LoopBegin c m)) = refl
label-left k i (Ok LoopEnd) = refl
label-left k i (Err why) = refl

pub jump-left : (k : Kernel) (i : ℕ) (x : Coded) → jump_of (place k.it i) i x ≡ (left k i x).jumps
jump-left k i (Ok (Instruction c)) = refl
jump-left k i (Ok (Label a b)) = refl
jump-left k i (Ok (Jump c a b)) = refl
jump-left k i (Ok (LoopBegin c m)) = refl
jump-left k i (Ok LoopEnd) = refl
jump-left k i (Err why) = refl
