-- Each number of a multifunction fits its field, so its 23 bits are faithful to its fields.
use Prim.Native.Nat.{ℕ}
use native.Mathlib.Omega.{arith}
use mathlib.Core.Path.{◌≡◌}
use Rattle.fields.specs.Pack.{pack, Fits}
use Rattle.fields.specs.Faithful.{Faithful}
use Rattle.fields.proofs.Packed.{faithful}
use Rattle.std.specs.Prelude.{Ok, Err}
use Rattle.refusals.specs.Answers.{Verdict}
use Rattle.refusals.specs.Order.{first}
use Rattle.items.specs.declared.AluOp.{AluOp}
use Rattle.items.specs.declared.AluOp.TheVariants.{Add, Sub}
use Rattle.items.specs.declared.Compute.{Compute}
use Rattle.items.specs.declared.FloatMulAlu.{FloatMulAlu}
use Rattle.computes.specs.Compute.{opcode_of, multi, multi_fields, multi_refusals, made_by, made_multi}
use Rattle.computes.proofs.Ranged.{RangedMulti}

multi-fits : (op : AluOp) (p d a b c e : ℕ) → Fits (multi 0x18 p d a b c e) → Fits (multi (opcode_of op) p d a b c e)
multi-fits Add p d a b c e f = f
multi-fits Sub p d a b c e f = omega (arith, f)

made : (v : Verdict) (x k : Compute) → made_by v x ≡ Ok k → k.field ≡ x.field
made (Ok _) x k e = cc
made (Err r) x k e = cc

-- THE THEOREM
pub multi-faithful : (f : FloatMulAlu) (k : Compute) → RangedMulti f → made_multi f ≡ Ok k → (k.field ≡ pack (multi_fields f)) × Faithful 23 (multi_fields f)
unfolding made_multi
multi-faithful f k h e = (
  made (first (multi_refusals f)) _ k e,
  faithful 23 (multi_fields f) (omega arith) (multi-fits f.op _ _ _ _ _ _ (omega arith)),
)
