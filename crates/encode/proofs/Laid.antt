-- An instruction that encodes is its layout's word, cut into so many parcels; the leaf return alone takes six.
use Prim.Native.Nat.{ℕ}
use native.Mathlib.Omega.{arith}
use mathlib.Core.Path.{◌≡◌, refl, ap, ◌∙◌}
use mathlib.Core.Bool.{Bool, true, false, cond}
use mathlib.Core.Logic.{◌⊎◌, inl, inr}
use lib.IntN.{pos, negsuc}
use Rattle.fields.specs.Pack.{pack}
use Rattle.fields.specs.Parcels.{cut}
use Rattle.signs.specs.Signs.{within}
use Rattle.std.specs.Prelude.{Ok, Err}
use Rattle.refusals.specs.Answers.{Verdict}
use Rattle.refusals.specs.Order.{first}
use Rattle.items.specs.declared.VisaInstruction.{VisaInstruction}
use Rattle.items.specs.declared.VisaInstruction.TheVariants as Visa
use Rattle.encode.specs.declared.Form.TheVariants.{Leaf}
use Rattle.encode.specs.Layouts.{Layout, layout_of}
use Rattle.encode.specs.Encoding.{form_in, form_by, form_of, form_parcels, parcels_of, verdict_of}
use Rattle.encode.proofs.Passed.{good-word}

-- one, two or three parcels
pub data Wide (n : ℕ) : Type 0 where
  one : n ≡ 1 → Wide n
  two : n ≡ 2 → Wide n
  three : n ≡ 3 → Wide n

near : (t : Bool) → Wide (cond t 2 3)
near true = two refl
near false = three refl

pub wide : (v : VisaInstruction) → (v ≡ Visa.LeafReturn) ⊎ Wide (layout_of v).parcels
unfolding layout_of
wide (Visa.Scalar i) = inr (three refl)
wide (Visa.Transfer d s) = inr (two refl)
wide (Visa.LoadImmediate d v) = inr (three refl)
wide (Visa.ModifyIndex i z) = inr (three refl)
wide (Visa.LoadDmPostModify r i m) = inr (one refl)
wide (Visa.StoreDmPostModify r i m) = inr (one refl)
wide (Visa.LoadDmPreModify r i m) = inr (two refl)
wide (Visa.StoreDmPreModify r i m) = inr (two refl)
wide (Visa.LoadDmOffset r i z) = inr (near (within (negsuc 63) (pos 63) z))
wide (Visa.StoreDmOffset r i z) = inr (near (within (negsuc 63) (pos 63) z))
wide (Visa.IntegerSubOne d s) = inr (three refl)
wide (Visa.IntegerPass d s) = inr (three refl)
wide (Visa.IntegerCompareUnsigned l r) = inr (three refl)
wide (Visa.JumpRelative c z d) = inr (three refl)
wide (Visa.CJump t) = inr (three refl)
wide (Visa.PushImmediate v) = inr (three refl)
wide Visa.LeafReturn = inl refl
wide (Visa.Compute k) = inr (three refl)
wide (Visa.DualMove k dm pm) = inr (three refl)
wide (Visa.MemoryMove k a) = inr (three refl)
wide (Visa.StoreImmediate i m v) = inr (three refl)
wide (Visa.BitSetMode1 m) = inr (three refl)
wide (Visa.BitClearMode1 m) = inr (three refl)
wide Visa.Nop = inr (one refl)
wide Visa.WideNop = inr (three refl)

wide-parcels : (n word : ℕ) → Wide n → form_parcels (form_in n word) ≡ cut n word
wide-parcels n word (one e) = rw e
wide-parcels n word (two e) = rw e
wide-parcels n word (three e) = rw e

in_parcels : (v : VisaInstruction) → (v ≡ Visa.LeafReturn) ⊎ Wide (layout_of v).parcels →
    form_parcels (form_in (layout_of v).parcels (pack (layout_of v).fields)) ≡ cut (layout_of v).parcels (pack (layout_of v).fields)
unfolding layout_of
in_parcels v (inl e) = rw e
in_parcels v (inr w) = wide-parcels (layout_of v).parcels (pack (layout_of v).fields) w

-- THE THEOREM of parcels: they come from the list of fields alone
pub laid-parcels : (v : VisaInstruction) → verdict_of v ≡ Ok tt → parcels_of v ≡ cut (layout_of v).parcels (pack (layout_of v).fields)
unfolding parcels_of verdict_of form_of
laid-parcels v g = ap form_parcels (good-word (layout_of v) g) ∙ in_parcels v (wide v)

-- a leaf return's form is no other instruction's
not_leaf : (n word : ℕ) → Wide n → form_in n word ≡ Ok Leaf → ⊥
not_leaf n word (one e) l = let y = rw e at l in let z : ◌≡◌ {A = ℕ} 0 1 = cc in omega arith
not_leaf n word (two e) l = let y = rw e at l in let z : ◌≡◌ {A = ℕ} 0 1 = cc in omega arith
not_leaf n word (three e) l = let y = rw e at l in let z : ◌≡◌ {A = ℕ} 0 1 = cc in omega arith

by-leaf : (w : Verdict) (l : Layout) → Wide l.parcels → form_by w l ≡ Ok Leaf → ⊥
by-leaf (Ok _) l n e = not_leaf l.parcels (pack l.fields) n e
by-leaf (Err r) l n e = let z : ◌≡◌ {A = ℕ} 0 1 = cc in omega arith

pub leaf-only : (v : VisaInstruction) → (v ≡ Visa.LeafReturn) ⊎ (form_of v ≡ Ok Leaf → ⊥)
unfolding form_of
leaf-only v = go (wide v)
  where
    go : (v ≡ Visa.LeafReturn) ⊎ Wide (layout_of v).parcels → (v ≡ Visa.LeafReturn) ⊎ (form_by (first (layout_of v).refusals) (layout_of v) ≡ Ok Leaf → ⊥)
    go (inl e) = inl e
    go (inr w) = inr (λ e. by-leaf (first (layout_of v).refusals) (layout_of v) w e)
