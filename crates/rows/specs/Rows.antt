-- Document 01, "Item rows" and "Refusal numbers": what a row says, an item or a refusal.
use Rattle.std.specs.Prelude.{ℕ, ◌*◌, ◌%◌, List, [], ◌∷◌, Bool, cond, ◌&&◌, eqb, leb, length, drop, Ok, Err, Some, None, Result, Option}
use Rattle.fields.specs.Pack.{Field}
use Rattle.words.specs.Forms.{type2a}
use Rattle.encode.specs.Layouts.{layout_of}
use Rattle.bounds.specs.Tables.{lookup, at}
use Rattle.bounds.specs.Bounds.{is_compute}
use Rattle.bounds.specs.Checks.{check_of}
use Rattle.computes.specs.Compute.{made_single, made_multi}
use Rattle.items.specs.declared.Compute.{Compute}
use Rattle.refusals.specs.declared.Refusal.{Refusal}
use Rattle.refusals.specs.Answers.{Verdict}
use Rattle.items.specs.declared.Item.{Item}
use Rattle.items.specs.declared.VisaInstruction.{VisaInstruction}
use Rattle.refusals.specs.declared.Refusal.TheVariants.{NotACompute}
use Rattle.items.specs.declared.FloatMulAlu.{FloatMulAlu}
use Rattle.items.specs.declared.DataAccess.{DataAccess}
use Rattle.items.specs.declared.MemoryAccess.{MemoryAccess}
use Rattle.items.specs.declared.VisaInstruction.TheVariants as visa
use Rattle.items.specs.declared.Item.TheVariants as item
use Rattle.rows.specs.Fields.{reg, index, modifier, code, condition_of, direction_of, update_of, alu_op_of, mode_of, count_of, instruction_of}

-- "A row is seventeen 32-bit numbers"; "Rows: at most 4,194,304"
abbrev pub row_width : ℕ
row_width = 17

abbrev pub most_rows : ℕ
most_rows = 4194304

-- "row slice not a multiple of 17 or over the limit": whether refusal 1 is not met
abbrev pub well_formed : ℕ → Bool
well_formed length = eqb (length % row_width) 0 && leb length (most_rows * row_width)

-- "2 multifunction, then seven fields"
abbrev pub multi_of : List ℕ → FloatMulAlu
multi_of row =
    record {
      product = reg (at row 2);
      mul_x = reg (at row 3);
      mul_y = reg (at row 4);
      op = alu_op_of (at row 5);
      alu_dst = reg (at row 6);
      alu_x = reg (at row 7);
      alu_y = reg (at row 8);
    }

-- "1 single, then a kind .. and its three field places": the 23 bits of that instruction's compute word, its fields after 2a's own
abbrev pub single_fields : ℕ → ℕ → ℕ → ℕ → List Field
single_fields kind a b c = drop (length (type2a [])) (layout_of (instruction_of kind a b c)).fields

-- `Compute::single`: these, and the destination, the first field, but none of IntegerCompareUnsigned (27); 17 where the kind is no compute
abbrev pub single_of : ℕ → ℕ → ℕ → ℕ → Result Compute Refusal
single_of kind a b c = cond (is_compute kind) (made_single (single_fields kind a b c) (cond (eqb kind 27) 16 (reg a).0)) (Err NotACompute)

-- the compute of a row that has one
unfoldable pub compute_of : List ℕ → Result Compute Refusal
compute_of row = lookup (at row 1) ((1, single_of (at row 2) (at row 3) (at row 4) (at row 5)) ∷ (2, made_multi (multi_of row)) ∷ []) (made_multi (multi_of row))

-- "0 none", or the compute beside a move
abbrev pub beside : Result Compute Refusal → Result (Option Compute) Refusal
beside (Ok compute) = Ok (Some compute)
beside (Err refusal) = Err refusal

unfoldable pub beside_of : List ℕ → Result (Option Compute) Refusal
beside_of row = cond (eqb (at row 1) 0) (Ok None) (beside (compute_of row))

-- `DataAccess` and `MemoryAccess`: the direction a, the register b, the index c, the modifier d and the update e
unfoldable pub data_access_of : ℕ → ℕ → ℕ → ℕ → DataAccess
data_access_of a b c d = record { direction = direction_of a; register = reg b; index = index c; modifier = modifier d }

unfoldable pub memory_access_of : ℕ → ℕ → ℕ → ℕ → ℕ → MemoryAccess
memory_access_of a b c d e = record { direction = direction_of a; register = code b; index = index c; modifier = modifier d; update = update_of e }

-- after the eight places of the compute: the DM half and the PM half of a dual move, and the access of a memory move
abbrev pub dm_of : List ℕ → DataAccess
dm_of row = data_access_of (at row 9) (at row 10) (at row 11) (at row 12)

abbrev pub pm_of : List ℕ → DataAccess
pm_of row = data_access_of (at row 13) (at row 14) (at row 15) (at row 16)

abbrev pub access_of : List ℕ → MemoryAccess
access_of row = memory_access_of (at row 9) (at row 10) (at row 11) (at row 12) (at row 13)

-- kinds 32 to 34, or the refusal of the compute
abbrev pub compute_item : Result Compute Refusal → Result (Item VisaInstruction) Refusal
compute_item (Ok compute) = Ok (item.Instruction (visa.Compute compute))
compute_item (Err refusal) = Err refusal

abbrev pub dual_item : DataAccess → DataAccess → Result (Option Compute) Refusal → Result (Item VisaInstruction) Refusal
dual_item dm pm (Ok compute) = Ok (item.Instruction (visa.DualMove compute dm pm))
dual_item dm pm (Err refusal) = Err refusal

abbrev pub memory_item : MemoryAccess → Result (Option Compute) Refusal → Result (Item VisaInstruction) Refusal
memory_item access (Ok compute) = Ok (item.Instruction (visa.MemoryMove compute access))
memory_item access (Err refusal) = Err refusal

-- the item of a row within its bounds, or 17, 18 or 19 of its compute
unfoldable pub item_of : List ℕ → Result (Item VisaInstruction) Refusal
item_of row =
    lookup (at row 0)
    ((32, compute_item (compute_of row)) ∷
    (33, dual_item (dm_of row) (pm_of row) (beside_of row)) ∷
    (34, memory_item (access_of row) (beside_of row)) ∷
    (48, Ok (item.Label (at row 1) (at row 2))) ∷
    (49, Ok (item.Jump (condition_of (at row 1)) (at row 2) (at row 3))) ∷
    (50, Ok (item.LoopBegin (count_of (at row 1) (at row 2)) (mode_of (at row 3)))) ∷
    (51, Ok item.LoopEnd) ∷ [])
    (Ok (item.Instruction (instruction_of (at row 0) (at row 1) (at row 2) (at row 3))))

-- "In a row: 2, 4 (first in field order), compute construction"
abbrev pub after : Verdict → Result (Item VisaInstruction) Refusal → Result (Item VisaInstruction) Refusal
after (Ok _) item = item
after (Err refusal) item = Err refusal

-- what a row of seventeen numbers says, over `names` bytes of names
unfoldable pub read_of : List ℕ → ℕ → Result (Item VisaInstruction) Refusal
read_of row names = after (check_of row names) (item_of row)
