-- Document 01, "Field tables": the 23 bits of a compute word, single or multifunction.
use Rattle.std.specs.Prelude.{ℕ, ◌/◌, ◌%◌, not, List, [], ◌∷◌, eqb, Ok, Err, Result}
use Rattle.fields.specs.Pack.{Field, fixed, operand, pack}
use Rattle.registers.specs.declared.Register.{Register}
use Rattle.refusals.specs.Answers.{Verdict}
use Rattle.refusals.specs.declared.Refusal.{Refusal}
use Rattle.refusals.specs.Order.{when, first}
use Rattle.refusals.specs.declared.Refusal.TheVariants.{MultifunctionOperand, DuplicateDestination}
use Rattle.items.specs.declared.AluOp.{AluOp}
use Rattle.items.specs.declared.AluOp.TheVariants.{Add, Sub}
use Rattle.items.specs.declared.Compute.{Compute}
use Rattle.items.specs.declared.FloatMulAlu.{FloatMulAlu}

-- "Single: unit 21:20, opcode 19:12, rn 11:8, rx 7:4, ry 3:0"
abbrev pub single : ℕ → ℕ → ℕ → ℕ → ℕ → List Field
single unit opcode rn rx ry = fixed 22 22 0 ∷ fixed 21 20 unit ∷ fixed 19 12 opcode ∷ operand 11 8 rn ∷ operand 7 4 rx ∷ operand 3 0 ry ∷ []

-- "Multifunction: bit 22, opcode 18 or 19 (hex) in 21:16, product 15:12, ALU destination 11:8, then the two-bit offsets of the four inputs"
abbrev pub multi : ℕ → ℕ → ℕ → ℕ → ℕ → ℕ → ℕ → List Field
multi opcode product destination mul_x mul_y alu_x alu_y =
    fixed 22 22 1 ∷ fixed 21 16 opcode ∷ operand 15 12 product ∷ operand 11 8 destination
    ∷ operand 7 6 mul_x ∷ operand 5 4 mul_y ∷ operand 3 2 alu_x ∷ operand 1 0 alu_y ∷ []

-- `Compute::single`: the compute of these 23 bits, with its destination: 16 where there is none
unfoldable pub made_single : List Field → ℕ → Result Compute Refusal
made_single fields destination = Ok record { field = pack fields; first = destination; second = 16 }

-- "opcode 18 or 19 (hex)"
abbrev pub opcode_of : AluOp → ℕ
opcode_of Add = 0x18
opcode_of Sub = 0x19

-- the 23 bits of a multifunction: an input's offset is its number in its group of four
abbrev pub multi_fields : FloatMulAlu → List Field
multi_fields f = multi (opcode_of f.op) f.product.0 f.alu_dst.0 (f.mul_x.0 % 4) (f.mul_y.0 % 4) (f.alu_x.0 % 4) (f.alu_y.0 % 4)

-- an input outside its group of four
abbrev pub outside : ℕ → Register → Verdict
outside group r = when (not (eqb (r.0 / 4) group)) (MultifunctionOperand group r.0)

-- inputs "in groups 0-3, 4-7, 8-11, 12-15": 18 in input order, then 19
abbrev pub multi_refusals : FloatMulAlu → List Verdict
multi_refusals f =
    outside 0 f.mul_x ∷ outside 1 f.mul_y ∷ outside 2 f.alu_x ∷ outside 3 f.alu_y
    ∷ when (eqb f.product.0 f.alu_dst.0) (DuplicateDestination f.product.0) ∷ []

-- the compute, or its first refusal
abbrev pub made_by : Verdict → Compute → Result Compute Refusal
made_by (Ok _) compute = Ok compute
made_by (Err refusal) compute = Err refusal

-- `Compute::float_mul_alu`
unfoldable pub made_multi : FloatMulAlu → Result Compute Refusal
made_multi f = made_by (first (multi_refusals f)) record { field = pack (multi_fields f); first = f.product.0; second = f.alu_dst.0 }
