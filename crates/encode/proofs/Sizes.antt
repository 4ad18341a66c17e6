-- How many parcels: an instruction has at most six, at least one where it encodes, none where it is refused; a jump and a loop start have three.
use Prim.Native.Nat.{ℕ, ◌≤◌}
use mathlib.Core.Path.{◌≡◌, refl}
use mathlib.Core.List.{[]}
use mathlib.Core.Bool.{Bool}
use lib.IntN.{ℤ}
use native.Mathlib.Omega.{arith}
use lib.Dec.{lit≤}
use lib.ListN.{length}
use Rattle.refusals.specs.declared.Refusal.{Refusal}
use Rattle.items.specs.declared.Condition.{Condition}
use Rattle.items.specs.declared.LoopCount.{LoopCount}
use Rattle.items.specs.declared.LoopMode.{LoopMode}
use Rattle.items.specs.declared.VisaInstruction.{VisaInstruction}
use Rattle.std.specs.Prelude.{Ok, Err, Result}
use Rattle.encode.specs.declared.Form.{Form}
use Rattle.encode.specs.declared.Form.TheVariants.{Short, Pair, Word, Leaf}
use Rattle.encode.specs.Encoding.{jump_form, loop_form, form_of, form_parcels, form_verdict, parcels_of, verdict_of}
use Rattle.encode.proofs.Reach.{jump-word, loop-word}

pub form-few : (f : Result Form Refusal) → length (form_parcels f) ≤ 6
form-few (Ok (Short w)) = lit≤ tt
form-few (Ok (Pair w)) = lit≤ tt
form-few (Ok (Word w)) = lit≤ tt
form-few (Ok Leaf) = lit≤ tt
form-few (Err r) = lit≤ tt

pub form-some : (f : Result Form Refusal) → form_verdict f ≡ Ok tt → 1 ≤ length (form_parcels f)
form-some (Ok (Short w)) g = lit≤ tt
form-some (Ok (Pair w)) g = lit≤ tt
form-some (Ok (Word w)) g = lit≤ tt
form-some (Ok Leaf) g = lit≤ tt
form-some (Err r) g = let z : ◌≡◌ {A = ℕ} 0 1 = cc in omega arith

form-none : (f : Result Form Refusal) (r : Refusal) → form_verdict f ≡ Err r → form_parcels f ≡ []
form-none (Ok (Short w)) r g = cc
form-none (Ok (Pair w)) r g = cc
form-none (Ok (Word w)) r g = cc
form-none (Ok Leaf) r g = cc
form-none (Err s) r g = refl

pub parcels_few : (v : VisaInstruction) → length (parcels_of v) ≤ 6
unfolding parcels_of
parcels_few v = form-few (form_of v)

pub parcels-some : (v : VisaInstruction) → verdict_of v ≡ Ok tt → 1 ≤ length (parcels_of v)
unfolding parcels_of verdict_of
parcels-some v g = form-some (form_of v) g

pub refused_none : (v : VisaInstruction) (r : Refusal) → verdict_of v ≡ Err r → parcels_of v ≡ []
unfolding parcels_of verdict_of
refused_none v r g = form-none (form_of v) r g

-- "Jumps and loop starts take three parcels"
pub jump-three : (c : Condition) (z : ℤ) (d : Bool) → form_verdict (jump_form c z d) ≡ Ok tt → length (form_parcels (jump_form c z d)) ≡ 3
jump-three c z d g = rw (jump-word c z d g).1

pub loop-three : (count : LoopCount) (mode : LoopMode) (z : ℤ) → form_verdict (loop_form count mode z) ≡ Ok tt → length (form_parcels (loop_form count mode z)) ≡ 3
loop-three count mode z g = rw (loop-word count mode z g).1
