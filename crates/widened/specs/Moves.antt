-- Document 02, wish 6: "each change keeps what the instruction moves, from the fields".
use Rattle.std.specs.Prelude.{◌≡◌, cond, List, ℕ, ◌<◌, length, Ok, None}
use Rattle.registers.specs.declared.UniversalRegister.{UniversalRegister}
use Rattle.registers.specs.declared.IndexRegister.{IndexRegister}
use Rattle.registers.specs.declared.ModifyRegister.{ModifyRegister}
use Rattle.items.specs.declared.Direction.{Direction}
use Rattle.items.specs.declared.Direction.TheVariants.{Load, Store}
use Rattle.items.specs.declared.Update.{Update}
use Rattle.items.specs.declared.Update.TheVariants.{PostModify, PreModify}
use Rattle.items.specs.declared.MemoryAccess.{MemoryAccess}
use Rattle.items.specs.declared.VisaInstruction.{VisaInstruction}
use Rattle.items.specs.declared.VisaInstruction.TheVariants as visa
use Rattle.items.specs.declared.Item.TheVariants as item
use Rattle.encode.specs.Registers.{is_pm}
use Rattle.encode.specs.Encoding.{parcels_of, verdict_of}
use Rattle.rows.specs.Rows.{read_of}

-- the memory that an index addresses: I0 to I7 data memory, I8 to I15 program memory
pub data Memory : Type 0 where
  dm : Memory
  pm : Memory

abbrev pub memory_of : IndexRegister → Memory
memory_of index = cond (is_pm index.0) pm dm

-- nothing; or a register from or to a memory, at an index that a modifier modifies after the access or before it
pub data Moved : Type 0 where
  nothing : Moved
  moved : Memory → Direction → UniversalRegister → IndexRegister → ModifyRegister → Update → Moved

-- what an instruction moves, read from its fields: the kinds that give way, and those that stand for them
pub data Moves : VisaInstruction → Moved → Type 0 where
  load_post : {r : UniversalRegister} {i : IndexRegister} {m : ModifyRegister} → Moves (visa.LoadDmPostModify r i m) (moved dm Load r i m PostModify)
  store_post : {r : UniversalRegister} {i : IndexRegister} {m : ModifyRegister} → Moves (visa.StoreDmPostModify r i m) (moved dm Store r i m PostModify)
  load_pre : {r : UniversalRegister} {i : IndexRegister} {m : ModifyRegister} → Moves (visa.LoadDmPreModify r i m) (moved dm Load r i m PreModify)
  store_pre : {r : UniversalRegister} {i : IndexRegister} {m : ModifyRegister} → Moves (visa.StoreDmPreModify r i m) (moved dm Store r i m PreModify)
  memory :
      {a : MemoryAccess} →
      Moves (visa.MemoryMove None a) (moved (memory_of a.index) a.direction a.register a.index a.modifier a.update)
  nop : Moves visa.Nop nothing
  full_nop : Moves visa.WideNop nothing

-- a row and the row that stands for it: both are read as instructions, which move the same; the first takes one parcel or two, the second
-- encodes in three
pub record KeepsMove (old wide : List ℕ) (names : ℕ) : Type 0 where
  pub before : VisaInstruction
  pub after : VisaInstruction
  pub what : Moved
  pub is_before : read_of old names ≡ Ok (item.Instruction before)
  pub is_after : read_of wide names ≡ Ok (item.Instruction after)
  pub moves_before : Moves before what
  pub moves_after : Moves after what
  pub short : length (parcels_of before) < 3
  pub encodes : verdict_of after ≡ Ok tt
  pub full : length (parcels_of after) ≡ 3
