-- The items of a list, and what is counted over the first i of them.
use Rattle.std.specs.Prelude.{Bool, cond, List, ℕ, zero, suc, ◌+◌, ◌-◌, ◌*◌, ◌/◌, min, length, take, drop, eqb, Ok, Err, Result}
use Rattle.encode.specs.declared.Form.{Form}
use Rattle.refusals.specs.declared.Refusal.{Refusal}
use Rattle.coded.specs.Coded.{Coded, coded_of}
use Rattle.encode.specs.Encoding.{form_parcels}
use Rattle.rows.specs.Rows.{row_width, read_of}
use Rattle.items.specs.declared.Item.TheVariants.{Instruction, Label, Jump, LoopBegin, LoopEnd}
use Rattle.places.specs.declared.Rooms.{Rooms}
use Rattle.places.specs.declared.Traits.{Traits}

-- what row i of a slice comes to, and how many rows it has
abbrev pub row_at : List ℕ → List ℕ → ℕ → Coded
row_at rows names i = coded_of (read_of (take row_width (drop (i * row_width) rows)) (length names))

abbrev pub row_count : List ℕ → ℕ
row_count rows = length rows / row_width

-- what is given to a build: the names, what each row comes to, how many rows
pub record Kernel : Type 0 where
  pub names : List ℕ
  pub it : ℕ → Coded
  pub n : ℕ

abbrev pub kernel : List ℕ → (ℕ → Coded) → ℕ → Kernel
kernel names it n = record { names = names; it = it; n = n }

-- the rows of a slice, with their names
abbrev pub kernel_of : List ℕ → List ℕ → Kernel
kernel_of rows names = kernel names (row_at rows names) (row_count rows)

-- what an item counts for: its parcels; 1 if it is an instruction entry, a label, a waiting jump, an instruction
-- that does not take three parcels, a loop start, a loop end; its name's start and length
abbrev pub traits : ℕ → ℕ → ℕ → ℕ → ℕ → ℕ → ℕ → ℕ → ℕ → Traits
traits s e l j n o c a b = record { size = s; entry = e; label = l; jump = j; short = n; opens = o; closes = c; start = a; len = b }

abbrev pub size_of : Result Form Refusal → ℕ
size_of f = length (form_parcels f)

-- "Labels emit nothing. Jumps and loop starts take three parcels."
abbrev pub about : Coded → Traits
about (Ok (Instruction c)) = traits (size_of c.form) 1 0 0 (cond (eqb (size_of c.form) 3) 0 1) 0 0 0 0
about (Ok (Label a b)) = traits 0 0 1 0 0 0 0 a b
about (Ok (Jump c a b)) = traits 3 1 0 1 0 0 0 a b
about (Ok (LoopBegin c m)) = traits 3 1 0 0 0 1 0 0 0
about (Ok LoopEnd) = traits 0 0 0 0 0 0 1 0 0
about (Err r) = traits 0 0 0 0 0 0 0 0 0

abbrev pub size : Coded → ℕ
size x = (about x).size

abbrev pub is_entry : Coded → ℕ
is_entry x = (about x).entry

abbrev pub is_label : Coded → ℕ
is_label x = (about x).label

abbrev pub is_jump : Coded → ℕ
is_jump x = (about x).jump

abbrev pub is_end : Coded → Bool
is_end x = eqb (about x).closes 1

abbrev pub is_short : Coded → Bool
is_short x = eqb (about x).short 1

-- how many of the first i items, or how much of them
abbrev pub total : (Coded → ℕ) → (ℕ → Coded) → ℕ → ℕ
total f it zero = 0
total f it (suc i) = total f it i + f (it i)

-- the place of item i: the parcels of the items before it
abbrev pub place : (ℕ → Coded) → ℕ → ℕ
place it i = total size it i

-- the address of a place, and of item i: what offsets and label entries speak of
abbrev pub address_of : ℕ → ℕ
address_of place = place

abbrev pub address : (ℕ → Coded) → ℕ → ℕ
address it i = address_of (place it i)

-- how many instruction entries stand before item i
abbrev pub entries : (ℕ → Coded) → ℕ → ℕ
entries it i = total is_entry it i

-- how many loops are open before item i
abbrev pub nest : (ℕ → Coded) → ℕ → ℕ
nest it zero = 0
nest it (suc i) = nest it i + (about (it i)).opens - (about (it i)).closes

-- "Label entries (start, length, place) and waiting jumps (place, row)": the numbers of an entry
abbrev pub label_width : ℕ
label_width = 3

abbrev pub jump_width : ℕ
jump_width = 2

-- "Parcels: the lent length, at most 16,777,216. Label entries .. and waiting jumps ..: lent length over 3 and over 2, rounded down,
-- at most 4,096 each. The open loops .., at most 64."
abbrev pub most_parcels : ℕ
most_parcels = 16777216

abbrev pub most_entries : ℕ
most_entries = 4096

abbrev pub most_loops : ℕ
most_loops = 64

abbrev pub rooms_of : ℕ → ℕ → ℕ → ℕ → Rooms
rooms_of p l j k =
    record { parcels = min p most_parcels; labels = min (l / label_width) most_entries; jumps = min (j / jump_width) most_entries; loops = min k most_loops }
