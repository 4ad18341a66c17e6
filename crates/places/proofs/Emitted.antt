-- An item's place is the sum of the lengths of what the earlier items emit: each item emits as many parcels as it counts for.
use Prim.Native.Nat.{ℕ, zero, suc, ◌+◌}
use mathlib.Core.Path.{◌≡◌, refl, ap₂, ◌∙◌}
use mathlib.Core.Bool.{false}
use lib.ListN.{length, length-append}
use Rattle.items.specs.declared.Item.TheVariants.{Instruction, Label, Jump, LoopBegin, LoopEnd}
use Rattle.std.specs.Prelude.{Ok, Err, Result}
use Rattle.encode.specs.declared.Form.{Form}
use Rattle.refusals.specs.declared.Refusal.{Refusal}
use Rattle.coded.specs.Coded.{Coded}
use Rattle.encode.specs.declared.Form.TheVariants as form
use Rattle.encode.specs.Encoding.{jump_form, loop_form, settled}
use Rattle.places.specs.Items.{Kernel, size, place}
use Rattle.places.specs.Looking.{Found, at, nothing, labelled, closer}
use Rattle.places.specs.Verdict.{jump_offset, loop_offset}
use Rattle.places.specs.Left.{jump_parcels, loop_parcels, left, gather}

pub settled-three : (f : Result Form Refusal) → length (settled f) ≡ 3
settled-three (Ok (form.Short w)) = refl
settled-three (Ok (form.Pair w)) = refl
settled-three (Ok (form.Word w)) = refl
settled-three (Ok form.Leaf) = refl
settled-three (Err r) = refl

module _ (k : Kernel) where
  pub emits : (i : ℕ) (x : Coded) → length (left k i x).parcels ≡ size x
  emits i (Ok (Instruction v)) = refl
  emits i (Ok (Label a b)) = refl
  emits i (Ok (Jump c a b)) = go (labelled k a b k.n)
    where
      go : (f : Found) → length (jump_parcels k.it c i f) ≡ 3
      go (at row) = settled-three (jump_form c (jump_offset k.it row i) false)
      go nothing = refl
  emits i (Ok (LoopBegin c m)) = go (closer k.it k.n i)
    where
      go : (f : Found) → length (loop_parcels k.it c m i f) ≡ 3
      go (at e) = settled-three (loop_form c m (loop_offset k.it e i))
      go nothing = refl
  emits i (Ok LoopEnd) = refl
  emits i (Err r) = refl

  pub place-emitted : (i : ℕ) → length (gather (λ q. (left k q (k.it q)).parcels) i) ≡ place k.it i
  place-emitted zero = refl
  place-emitted (suc i) = length-append (gather (λ q. (left k q (k.it q)).parcels) i) _ ∙ ap₂ ◌+◌ (place-emitted i) (emits i (k.it i))
