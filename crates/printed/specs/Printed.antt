-- Document 01, "The bench program": what it prints of an input.
use Rattle.std.specs.Prelude.{List, ℕ, replicate}
use Rattle.refusals.specs.Numbers.{answered}
use Rattle.places.specs.Left.{lent_of, zero_loop, Outcome, build_of}
use Rattle.reader.specs.Lines.{Said, rows, unread, said}
use Rattle.text.specs.Text.{answer_text, unread_text}

-- "Its rooms are 3,072 parcels, 512 labels, 512 jumps and 64 loops": three numbers a label, two a jump
abbrev pub built_of : List ℕ → List ℕ → Outcome
built_of rs names = build_of rs names (lent_of (replicate 3072 0) (replicate 1536 0) (replicate 1024 0) (replicate 64 zero_loop))

-- the build of rows and names
unfoldable pub list_text : List ℕ → List ℕ → List ℕ
list_text rs names = answer_text (answered (built_of rs names).answer) (built_of rs names).lent.parcels

abbrev pub said_text : Said → List ℕ
said_text (rows rs names) = list_text rs names
said_text (unread line) = unread_text line

-- the whole output
abbrev pub printed : List ℕ → List ℕ
printed input = said_text (said input)
