-- A word with a compute's number in its lowest 23 bits is the word with the compute's own fields there.
use Prim.Native.Nat.{ℕ, ◌+◌, ◌*◌, ◌^◌, ◌<◌}
use native.Mathlib.Omega.{arith}
use mathlib.Core.Path.{◌≡◌, ap, ◌∙◌}
use mathlib.Core.List.{List, [], ◌∷◌, ◌++◌}
use Rattle.fields.specs.Pack.{Field, fixed, operand, pack, Tiles, Fits}
use Rattle.fields.specs.Parcels.{cut}
use Rattle.fields.specs.Faithful.{Faithful, Spells}
use Rattle.fields.proofs.Packed.{faithful, spells}
use Rattle.std.specs.Prelude.{Ok, Some, None, Option}
use Rattle.items.specs.declared.Compute.{Compute}
use Rattle.items.specs.declared.DataAccess.{DataAccess}
use Rattle.items.specs.declared.MemoryAccess.{MemoryAccess}
use Rattle.items.specs.declared.VisaInstruction.{VisaInstruction}
use Rattle.items.specs.declared.VisaInstruction.TheVariants as Visa
use Rattle.words.specs.Forms.{type2a, whole}
use Rattle.computes.proofs.Ranged.{Ranged, RangedCompute, RangedData, RangedMemory}
use Rattle.encode.specs.Layouts.{field_of, dual_fields, memory_fields, layout_of}
use Rattle.encode.specs.Encoding.{parcels_of, verdict_of}
use Rattle.encode.proofs.Laid.{laid-parcels}
use Rattle.encode.proofs.Fitting.{instruction-faithful}
use Rattle.faithful.proofs.Computes.{Opens}

pub opened-pack : (xs fs : List Field) (n : ℕ) → n ≡ pack fs → pack (xs ++ whole n) ≡ pack (xs ++ fs)
opened-pack [] fs n e = omega (arith, e)
opened-pack (fixed hi lo v ∷ xs) fs n e = ap (λ (k : ℕ). v * 2 ^ lo + k) (opened-pack xs fs n e)
opened-pack (operand hi lo v ∷ xs) fs n e = ap (λ (k : ℕ). v * 2 ^ lo + k) (opened-pack xs fs n e)

opened-tiles : (top : ℕ) (xs fs : List Field) (n : ℕ) → Tiles top (xs ++ whole n) → Tiles 23 fs → Tiles top (xs ++ fs)
opened-tiles top [] fs n t s = rw t.0 s
opened-tiles top (fixed hi lo v ∷ xs) fs n t s = (t.0, t.1, opened-tiles lo xs fs n t.2 s)
opened-tiles top (operand hi lo v ∷ xs) fs n t s = (t.0, t.1, opened-tiles lo xs fs n t.2 s)

opened-fits : (xs fs : List Field) (n : ℕ) → Fits (xs ++ whole n) → Fits fs → Fits (xs ++ fs)
opened-fits [] fs n t s = s
opened-fits (fixed hi lo v ∷ xs) fs n t s = (t.0, opened-fits xs fs n t.1 s)
opened-fits (operand hi lo v ∷ xs) fs n t s = (t.0, opened-fits xs fs n t.1 s)

opened : (xs fs : List Field) (n : ℕ) (ps : List ℕ) → Opens n fs → Faithful 48 (xs ++ whole n) → ps ≡ cut 3 (pack (xs ++ whole n)) → Spells ps 3 (xs ++ fs)
opened xs fs n ps o f e =
    spells ps 3 (xs ++ fs) (e ∙ ap (cut 3) (opened-pack xs fs n o.0))
    (faithful 48 (xs ++ fs) (opened-tiles 48 xs fs n f.tiles o.1.tiles) (opened-fits xs fs n f.fits o.1.fits))

-- ---- the kinds without a compute, and the three with one
pub plain-spells : (v : VisaInstruction) → Ranged v → verdict_of v ≡ Ok tt → Spells (parcels_of v) (layout_of v).parcels (layout_of v).fields
plain-spells v h g = spells (parcels_of v) (layout_of v).parcels (layout_of v).fields (laid-parcels v g) (instruction-faithful v h g)

field-small : (n : ℕ) (fs : List Field) → Opens n fs → n < 2 ^ 23
field-small n fs o = rw o.0 o.1.within

compute-ranged : (k : Option Compute) (fs : List Field) → Opens (field_of k) fs → RangedCompute k
compute-ranged None fs o = tt
compute-ranged (Some k) fs o = field-small k.field fs o

module _ (fs : List Field) where
  pub compute-spells : (k : Compute) → Opens k.field fs → verdict_of (Visa.Compute k) ≡ Ok tt → Spells (parcels_of (Visa.Compute k)) (layout_of (Visa.Compute k)).parcels (type2a fs)
  unfolding layout_of
  compute-spells k o g =
      opened (type2a []) fs k.field (parcels_of (Visa.Compute k)) o (instruction-faithful (Visa.Compute k) (field-small k.field fs o) g) (laid-parcels (Visa.Compute k) g)

  pub dual_spells :
      (k : Option Compute) (dm pm : DataAccess) → Opens (field_of k) fs → RangedData dm → RangedData pm → verdict_of (Visa.DualMove k dm pm) ≡ Ok tt →
      Spells (parcels_of (Visa.DualMove k dm pm)) (layout_of (Visa.DualMove k dm pm)).parcels (dual_fields dm pm fs)
  unfolding layout_of
  dual_spells k dm pm o a b g =
      let v = Visa.DualMove k dm pm in
      opened (dual_fields dm pm []) fs (field_of k) (parcels_of v) o (instruction-faithful v (compute-ranged k fs o, a, b) g) (laid-parcels v g)

  pub memory-spells :
      (k : Option Compute) (access : MemoryAccess) → Opens (field_of k) fs → RangedMemory access → verdict_of (Visa.MemoryMove k access) ≡ Ok tt →
      Spells (parcels_of (Visa.MemoryMove k access)) (layout_of (Visa.MemoryMove k access)).parcels (memory_fields access fs)
  unfolding layout_of
  memory-spells k access o a g =
      let v = Visa.MemoryMove k access in
      opened (memory_fields access []) fs (field_of k) (parcels_of v) o (instruction-faithful v (compute-ranged k fs o, a) g) (laid-parcels v g)
