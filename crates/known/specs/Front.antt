-- Document 02, wish 4: what stands at the front of parcels: "It recognises every form the build can emit and nothing else".
use Rattle.std.specs.Prelude.{ℕ, ◌^◌, ◌<◌, ◌≤◌, ◌≡◌, List, ◌∷◌, pos, length, take, replicate, Ok}
use Rattle.items.specs.declared.VisaInstruction.{VisaInstruction}
use Rattle.items.specs.declared.Item.TheVariants as item
use Rattle.encode.specs.Encoding.{parcels_of, verdict_of, loop_form, form_parcels, form_verdict}
use Rattle.bounds.specs.Tables.{at}
use Rattle.rows.specs.Fields.{count_of, mode_of}
use Rattle.rows.specs.Rows.{row_width, read_of}

-- a row is an instruction, and encodes to these parcels
pub record EncodesTo (parcels row : List ℕ) : Type 0 where
  pub whole : length row ≡ row_width
  pub instruction : VisaInstruction
  pub reads : read_of row 0 ≡ Ok (item.Instruction instruction)
  pub good : verdict_of instruction ≡ Ok tt
  pub same : parcels_of instruction ≡ parcels

-- the parcels start with the n of an instruction; "Six parcels of `LeafReturn` are one row": where the parcels of several start there, the most
-- parcels; "The reader gives the row with the larger kind"
pub record StartsWith (parcels : List ℕ) (n : ℕ) (row : List ℕ) : Type 0 where
  pub within : n ≤ length parcels
  pub encodes : EncodesTo (take n parcels) row
  pub longest : (m : ℕ) (other : List ℕ) → m ≤ length parcels → EncodesTo (take m parcels) other → m ≤ n
  pub largest : (other : List ℕ) → EncodesTo (take n parcels) other → at other 0 ≤ at row 0

-- the parcels start with a loop start's word: "known if an immediate count isn't 0 and the offset is 3 to 0x3fffff"; it comes back as kind 50
pub record StartsLoop (parcels row : List ℕ) : Type 0 where
  pub choice : ℕ
  pub count : ℕ
  pub mode : ℕ
  pub offset : ℕ
  pub numbers : row ≡ 50 ∷ choice ∷ count ∷ mode ∷ replicate 13 0
  pub reads : read_of row 0 ≡ Ok (item.LoopBegin (count_of choice count) (mode_of mode))
  pub low : 3 ≤ offset
  pub high : offset ≤ 0x3f_ffff
  pub good : form_verdict (loop_form (count_of choice count) (mode_of mode) (pos offset)) ≡ Ok tt
  pub within : 3 ≤ length parcels
  pub same : form_parcels (loop_form (count_of choice count) (mode_of mode) (pos offset)) ≡ take 3 parcels

-- so many parcels, and their row; or "a parcel that starts no known form or a form cut short"
pub data Reading : Type 0 where
  known : ℕ → List ℕ → Reading
  unknown : Reading

pub data Front (parcels : List ℕ) : Reading → Type 0 where
  instruction : {n : ℕ} {row : List ℕ} → StartsWith parcels n row → Front parcels (known n row)
  loop_start : {row : List ℕ} → StartsLoop parcels row → Front parcels (known 3 row)
  neither :
      ((n : ℕ) (row : List ℕ) → n ≤ length parcels → EncodesTo (take n parcels) row → ⊥) → ((row : List ℕ) → StartsLoop parcels row → ⊥) →
      Front parcels unknown

-- each is a parcel
abbrev pub Parcels : List ℕ → Type 0
Parcels parcels = (i : ℕ) → at parcels i < 2 ^ 16
