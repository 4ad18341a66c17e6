-- What instructions, jumps and loop starts encode to are parcels: each below 2 ^ 16.
use Prim.Native.Nat.{ℕ, zero, suc, ◌*◌, ◌/◌, ◌^◌}
use native.Mathlib.Omega.{arith}
use native.Mathlib.Nat.{mod-lt}
use mathlib.Core.List.{List, [], ◌∷◌, ◌++◌}
use lib.ListN.{drop, replicate}
use lib.Pow.{pow_pos}
use Rattle.fields.specs.Pack.{pack}
use Rattle.fields.specs.Parcels.{cut}
use Rattle.words.specs.Forms.{leaf_return}
use Rattle.std.specs.Prelude.{Ok, Err, Result}
use Rattle.encode.specs.declared.Form.{Form}
use Rattle.refusals.specs.declared.Refusal.{Refusal}
use Rattle.encode.specs.declared.Form.TheVariants as form
use Rattle.encode.specs.Encoding.{form_parcels, settled}
use Rattle.known.specs.Front.{Parcels}

pub no-parcels : Parcels []
no-parcels i = omega arith

pub parcels-join : (xs ys : List ℕ) → Parcels xs → Parcels ys → Parcels (xs ++ ys)
parcels-join [] ys p q i = q i
parcels-join (x ∷ xs) ys p q zero = p 0
parcels-join (x ∷ xs) ys p q (suc i) = parcels-join xs ys (λ j. p (suc j)) q i

pub cut-parcels : (n w : ℕ) → Parcels (cut n w)
cut-parcels zero w i = omega arith
cut-parcels (suc n) w zero = mod-lt (w / 2 ^ (16 * n)) (pow_pos 16)
cut-parcels (suc n) w (suc i) = cut-parcels n w i

pub zero_parcels : (n : ℕ) → Parcels (replicate n 0)
zero_parcels zero i = omega arith
zero_parcels (suc n) zero = omega arith
zero_parcels (suc n) (suc i) = zero_parcels n i

pub form-parcels : (f : Result Form Refusal) → Parcels (form_parcels f)
form-parcels (Ok (form.Short w)) = cut-parcels 1 w
form-parcels (Ok (form.Pair w)) = cut-parcels 2 w
form-parcels (Ok (form.Word w)) = cut-parcels 3 w
form-parcels (Ok form.Leaf) = cut-parcels 6 (pack leaf_return)
form-parcels (Err r) = no-parcels

pub settled-parcels : (f : Result Form Refusal) → Parcels (settled f)
settled-parcels (Ok (form.Short w)) = zero_parcels 3
settled-parcels (Ok (form.Pair w)) = zero_parcels 3
settled-parcels (Ok (form.Word w)) = cut-parcels 3 w
settled-parcels (Ok form.Leaf) = zero_parcels 3
settled-parcels (Err r) = zero_parcels 3

pub parcels-drop : (n : ℕ) (ps : List ℕ) → Parcels ps → Parcels (drop n ps)
parcels-drop zero ps p i = p i
parcels-drop (suc n) [] p i = p i
parcels-drop (suc n) (x ∷ ps) p i = parcels-drop n ps (λ j. p (suc j)) i
