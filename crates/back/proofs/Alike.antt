-- An instruction with the same parcels, read from the row of larger kind: a line a kind.
use Prim.Native.Nat.{ℕ}
use native.Mathlib.Omega.{arith}
use mathlib.Core.Path.{◌≡◌, refl, ap, ◌∙◌}
use mathlib.Core.Bool.{true}
use mathlib.Core.List.{List, [], ◌∷◌}
use lib.ListN.{drop, replicate}
use Rattle.fields.specs.Parcels.{cut}
use Rattle.std.specs.Prelude.{Ok}
use Rattle.items.specs.declared.VisaInstruction.{VisaInstruction}
use Rattle.items.specs.declared.VisaInstruction.TheVariants as Visa
use Rattle.items.specs.declared.Item.TheVariants as item
use Rattle.computes.specs.Compute.{made_single}
use Rattle.words.specs.Forms.{type2a}
use Rattle.encode.specs.Layouts.{layout_of}
use Rattle.encode.specs.Encoding.{form_of, verdict_of, parcels_of}
use Rattle.bounds.specs.Tables.{at}
use Rattle.bounds.specs.Bounds.{fields, compute, bounds_of}
use Rattle.bounds.specs.Checks.{inside}
use Rattle.bounds.proofs.Twelve.{twelve}
use Rattle.rows.specs.Fields.{code, index, modifier, instruction_of, scalars, transfers, others}
use Rattle.rows.specs.Rows.{read_of, item_of, single_fields, compute_of}
use Rattle.rows.specs.Kept.{Below}
use Rattle.rows.proofs.Kept.{read-item}
use Rattle.faithful.proofs.Lines.{◌&◌, Each, Inside}
use Rattle.faithful.proofs.Opened.{opened-pack}
use Rattle.known.specs.Table.{line}

-- ---- an instruction with the same parcels, read from another row
pub record Alike (row : List ℕ) (v : VisaInstruction) : Type 0 where
  pub twin : VisaInstruction
  pub reads : read_of row 0 ≡ Ok (item.Instruction twin)
  pub good : verdict_of twin ≡ Ok tt
  pub same : parcels_of twin ≡ parcels_of v

alike :
    (row : List ℕ) (v w : VisaInstruction) → Below (bounds_of row) (drop 1 row) → inside (at row 0) (at row 1) (at row 2) (at row 3) 0 ≡ true →
    item_of row ≡ Ok (item.Instruction w) → verdict_of w ≡ Ok tt → parcels_of w ≡ parcels_of v → Alike row v
alike row v w h i r g p = record { twin = w; reads = read-item row 0 h i ∙ r; good = g; same = p }

pub load-alike : (a b c : ℕ) → Inside 9 a b c → Alike (17 ∷ a ∷ b ∷ c ∷ replicate 13 0) (instruction_of 9 a b c)
unfolding fields bounds_of item_of instruction_of scalars transfers others layout_of form_of verdict_of parcels_of
load-alike a b c h = alike _ _ (Visa.LoadImmediate (code a) b) (omega arith) refl refl refl refl

pub push-alike : (a b c : ℕ) → Inside 30 a b c → Alike (line 35 7 7 a) (instruction_of 30 a b c)
unfolding fields bounds_of item_of instruction_of scalars transfers others layout_of form_of verdict_of parcels_of
push-alike a b c h = alike _ _ (Visa.StoreImmediate (index 7) (modifier 7) a) (omega arith) refl refl refl refl

-- a compute in kind 32: a line a kind
abbrev pub AlikeKind : ℕ → Type 0
AlikeKind k = (a b c : ℕ) → Inside k a b c → Alike (32 ∷ 1 ∷ k ∷ a ∷ b ∷ c ∷ replicate 11 0) (instruction_of k a b c)

pub each-alike : Each AlikeKind twelve
unfolding fields bounds_of compute item_of compute_of made_single instruction_of scalars others layout_of form_of verdict_of parcels_of
each-alike =
    (λ a b c h. alike _ _ (Visa.Compute _) (omega arith) refl refl refl (ap (cut 3) (opened-pack (type2a []) (single_fields 0 a b c) _ refl))) &
    (λ a b c h. alike _ _ (Visa.Compute _) (omega arith) refl refl refl (ap (cut 3) (opened-pack (type2a []) (single_fields 1 a b c) _ refl))) &
    (λ a b c h. alike _ _ (Visa.Compute _) (omega arith) refl refl refl (ap (cut 3) (opened-pack (type2a []) (single_fields 2 a b c) _ refl))) &
    (λ a b c h. alike _ _ (Visa.Compute _) (omega arith) refl refl refl (ap (cut 3) (opened-pack (type2a []) (single_fields 3 a b c) _ refl))) &
    (λ a b c h. alike _ _ (Visa.Compute _) (omega arith) refl refl refl (ap (cut 3) (opened-pack (type2a []) (single_fields 4 a b c) _ refl))) &
    (λ a b c h. alike _ _ (Visa.Compute _) (omega arith) refl refl refl (ap (cut 3) (opened-pack (type2a []) (single_fields 5 a b c) _ refl))) &
    (λ a b c h. alike _ _ (Visa.Compute _) (omega arith) refl refl refl (ap (cut 3) (opened-pack (type2a []) (single_fields 6 a b c) _ refl))) &
    (λ a b c h. alike _ _ (Visa.Compute _) (omega arith) refl refl refl (ap (cut 3) (opened-pack (type2a []) (single_fields 7 a b c) _ refl))) &
    (λ a b c h. alike _ _ (Visa.Compute _) (omega arith) refl refl refl (ap (cut 3) (opened-pack (type2a []) (single_fields 8 a b c) _ refl))) &
    (λ a b c h. alike _ _ (Visa.Compute _) (omega arith) refl refl refl (ap (cut 3) (opened-pack (type2a []) (single_fields 25 a b c) _ refl))) &
    (λ a b c h. alike _ _ (Visa.Compute _) (omega arith) refl refl refl (ap (cut 3) (opened-pack (type2a []) (single_fields 26 a b c) _ refl))) &
    (λ a b c h. alike _ _ (Visa.Compute _) (omega arith) refl refl refl (ap (cut 3) (opened-pack (type2a []) (single_fields 27 a b c) _ refl))) &
    tt
