-- What the program `widen` prints of an input: the widened list, and apart from it what was changed.
use Rattle.std.specs.Prelude.{◌≡◌, cond, List, [], ◌∷◌, ◌++◌, ℕ, take, get_or, replicate, eqb}
use Rattle.refusals.specs.declared.Told.{Told}
use Rattle.places.specs.Items.{row_count}
use Rattle.widening.specs.declared.ToldWidened.{ToldWidened}
use Rattle.widening.specs.Widening.{Widens}
use Rattle.reader.specs.Lines.{Said, rows, unread, said}
use Rattle.text.specs.Text.{decimal, refused_text, unread_text}
use Rattle.row_lines.specs.RowText.{field}
use Rattle.item_lines.specs.ItemText.{lines_of, item_lines}

-- a refusal as the bench program has it: a number and three details
abbrev pub refusal_in : ToldWidened → Told
refusal_in t = record { number = t.number; count = 0; first = t.first; second = t.second; third = t.third; start = 0; length = 0 }

-- `changed` with a tab, and `unpaired` as a line
abbrev pub changed : List ℕ
changed = 99 ∷ 104 ∷ 97 ∷ 110 ∷ 103 ∷ 101 ∷ 100 ∷ 9 ∷ []

abbrev pub unpaired : List ℕ
unpaired = 117 ∷ 110 ∷ 112 ∷ 97 ∷ 105 ∷ 114 ∷ 101 ∷ 100 ∷ 10 ∷ []

-- a change: `changed`, tab, row, tab, old kind
unfoldable pub change_line : List ℕ → List ℕ
change_line pair = changed ++ decimal (get_or pair 0 0) ++ field (get_or pair 1 0) ++ 10 ∷ []

-- standard output: the copy of so many rows, or the refusal
abbrev pub list_text : ToldWidened → ℕ → List ℕ → List ℕ → List ℕ
list_text t n copy names = cond (eqb t.number 0) (item_lines names n copy) (refused_text (refusal_in t))

-- standard error: the changes, or that loops don't pair, or the refusal again
abbrev pub notes_text : ToldWidened → List ℕ → List ℕ
notes_text t list = cond (eqb t.number 0) (cond (eqb t.paired 0) unpaired (lines_of 2 change_line t.changes list)) (refused_text (refusal_in t))

-- both texts of rows and names that are widened, with room for 512 rows and 512 changes
pub record WidenedText (rs names text notes : List ℕ) : Type 0 where
  pub told : ToldWidened
  pub copy : List ℕ
  pub list : List ℕ
  pub widens : Widens rs names (replicate 8704 0) (replicate 1024 0) told copy list
  pub shown : text ≡ list_text told (row_count rs) copy names
  pub noted : notes ≡ notes_text told list

abbrev pub SaidText : Said → List ℕ → List ℕ → Type 0
SaidText (rows rs names) text notes = WidenedText rs names text notes
SaidText (unread line) text notes = (text ≡ unread_text line) × (notes ≡ unread_text line)

-- a text on standard output and one on standard error are what is printed of an input
abbrev pub Printed : List ℕ → List ℕ → List ℕ → Type 0
Printed input text notes = SaidText (said input) text notes

-- such texts of n and k bytes stand at the front of two buffers
abbrev pub PrintedIn : List ℕ → List ℕ → ℕ → List ℕ → ℕ → Type 0
PrintedIn input out n notes k = Printed input (take n out) (take k notes)
