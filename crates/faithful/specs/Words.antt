-- What is promised of the words of a kernel's rows: the parcels of each spell the fields that document 01's tables give its numbers.
use Rattle.std.specs.Prelude.{ℕ, false, List, [], ◌∷◌, ◌≡◌, ℤ, length, Ok}
use Rattle.fields.specs.Pack.{Field, fixed, field}
use Rattle.fields.specs.Parcels.{joined}
use Rattle.fields.specs.Faithful.{Spells}
use Rattle.signs.specs.Signs.{signed_in}
use Rattle.items.specs.declared.Condition.{Condition}
use Rattle.items.specs.declared.LoopCount.{LoopCount}
use Rattle.items.specs.declared.LoopMode.{LoopMode}
use Rattle.items.specs.declared.VisaInstruction.{VisaInstruction}
use Rattle.items.specs.declared.Item.TheVariants as item
use Rattle.computes.specs.Compute.{multi_fields}
use Rattle.words.specs.Forms.{type2a}
use Rattle.encode.specs.Layouts.{layout_of, dual_fields, memory_fields, jump_layout, loop_layout}
use Rattle.encode.specs.Encoding.{parcels_of, verdict_of, jump_form, loop_form, form_parcels, form_verdict}
use Rattle.bounds.specs.Tables.{lookup, at}
use Rattle.rows.specs.Rows.{multi_of, single_fields, dm_of, pm_of, access_of, read_of}

-- the 23 bits of a row's compute: "0 none", "1 single", "2 multifunction"
unfoldable pub compute_fields : List ℕ → List Field
compute_fields row =
    lookup (at row 1)
    ((0, fixed 22 0 0 ∷ []) ∷
    (1, single_fields (at row 2) (at row 3) (at row 4) (at row 5)) ∷ [])
    (multi_fields (multi_of row))

-- the fields of a row's instruction: its layout's, where it holds a compute with those of the compute
unfoldable pub row_fields : List ℕ → VisaInstruction → List Field
row_fields row v =
    lookup (at row 0)
    ((32, type2a (compute_fields row)) ∷
    (33, dual_fields (dm_of row) (pm_of row) (compute_fields row)) ∷
    (34, memory_fields (access_of row) (compute_fields row)) ∷ [])
    (layout_of v).fields

-- every row that is read as an instruction that encodes
abbrev pub EachInstruction : Type 0
EachInstruction =
    (row : List ℕ) (names : ℕ) (v : VisaInstruction) → length row ≡ 17 → read_of row names ≡ Ok (item.Instruction v) → verdict_of v ≡ Ok tt →
    Spells (parcels_of v) (layout_of v).parcels (row_fields row v)

-- every row that is read as a jump to a label, and every one that is read as a loop start, over each offset that its word can be made for:
-- the word holds the signed offset in its lowest 24 (23) bits
abbrev pub EachJump : Type 0
EachJump =
    (row : List ℕ) (names : ℕ) (c : Condition) (s l : ℕ) → read_of row names ≡ Ok (item.Jump c s l) →
    (offset : ℤ) → form_verdict (jump_form c offset false) ≡ Ok tt →
    Spells (form_parcels (jump_form c offset false)) 3 (jump_layout c offset false).fields × (signed_in 24 (field 23 0 (joined (form_parcels (jump_form c offset false)))) ≡ offset)

abbrev pub EachLoop : Type 0
EachLoop =
    (row : List ℕ) (names : ℕ) (count : LoopCount) (mode : LoopMode) → length row ≡ 17 → read_of row names ≡ Ok (item.LoopBegin count mode) →
    (offset : ℤ) → form_verdict (loop_form count mode offset) ≡ Ok tt →
    Spells (form_parcels (loop_form count mode offset)) 3 (loop_layout count mode offset).fields × (signed_in 23 (field 22 0 (joined (form_parcels (loop_form count mode offset)))) ≡ offset)
