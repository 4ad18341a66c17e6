-- What the read back program prints of an input.
use Rattle.std.specs.Prelude.{◌≡◌, cond, List, ℕ, take, replicate, eqb}
use Rattle.refusals.specs.declared.Told.{Told}
use Rattle.reading.specs.declared.ToldRows.{ToldRows}
use Rattle.reading.specs.Back.{ReadsBack}
use Rattle.text.specs.Text.{refused_text, unread_text}
use Rattle.hex_lines.specs.Parcels.{Said, parcels, unread, said}
use Rattle.row_lines.specs.RowText.{rows_text}

-- a refusal as the bench program has it: a number and three details
abbrev pub refusal_in : ToldRows → Told
refusal_in t = record { number = t.number; count = 0; first = t.first; second = t.second; third = t.third; start = 0; length = 0 }

-- an answer in numbers, with the rows and places that it leaves
abbrev pub back_text : ToldRows → List ℕ → List ℕ → List ℕ
back_text t rows places = cond (eqb t.number 0) (rows_text t.rows (take t.rows places) rows) (refused_text (refusal_in t))

-- the text of parcels that are read back, with room for 3,072 rows
pub record BackText (ps text : List ℕ) : Type 0 where
  pub told : ToldRows
  pub rows : List ℕ
  pub places : List ℕ
  pub back : ReadsBack ps (replicate 52224 0) (replicate 3072 0) told rows places
  pub shown : text ≡ back_text told rows places

abbrev pub SaidText : Said → List ℕ → Type 0
SaidText (parcels ps) text = BackText ps text
SaidText (unread line) text = text ≡ unread_text line

-- a text is what is printed of an input
abbrev pub Printed : List ℕ → List ℕ → Type 0
Printed input text = SaidText (said input) text

-- such a text of r bytes stands at the front of a buffer
abbrev pub PrintedIn : List ℕ → List ℕ → ℕ → Type 0
PrintedIn input buffer r = Printed input (take r buffer)
