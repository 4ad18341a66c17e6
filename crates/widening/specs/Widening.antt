-- Document 02, wish 6: "takes rows, copies them to a lent slice and, in the last 11 instructions of each loop body, turns Nop into WideNop, and
-- the post-modify and pre-modify DM moves into a memory move without compute. It lists each changed row number with the old kind, in row order."
use Rattle.std.specs.Prelude.{◌≡◌, Bool, true, false, cond, not, ◌&&◌, ◌||◌, List, [], ◌∷◌, ◌++◌, ℕ, zero, suc, ◌+◌, ◌*◌, ◌/◌, ◌≤◌, pos, length, take, drop, replicate, eqb, ltb, Ok, Err, Result}
use Rattle.refusals.specs.declared.Refusal.TheVariants.{NoRoomForRows}
use Rattle.refusals.specs.Answers.{Verdict, Judged}
use Rattle.refusals.specs.declared.Refused.{Refused}
use Rattle.refusals.specs.Numbers.{told_of}
use Rattle.refusals.specs.Order.{when, if_good, said_of_row, foremost}
use Rattle.bounds.specs.Tables.{lookup, at}
use Rattle.rows.specs.Rows.{row_width}
use Rattle.coded.specs.Coded.{read_verdict, encodes}
use Rattle.places.specs.Items.{Kernel, kernel_of, row_count, is_end, nest}
use Rattle.places.specs.Looking.{is_found, newest, is_in_tail}
use Rattle.places.specs.Left.{gather}
use Rattle.counts.specs.Counts.{list_judged, Passes}
use Rattle.widening.specs.declared.Copied.{Copied}
use Rattle.widening.specs.declared.ToldWidened.{ToldWidened}

-- ---- which rows give way, and to what
-- kind 34 without compute: its eight places zero, then direction, register, index, modifier and update
abbrev pub memory_move : ℕ → ℕ → List ℕ → List ℕ
memory_move direction update row = 34 ∷ replicate 8 0 ++ direction ∷ at row 1 ∷ at row 2 ∷ at row 3 ∷ update ∷ replicate 3 0

abbrev pub wide_nop : List ℕ
wide_nop = 39 ∷ replicate 16 0

-- the kinds that give way, each with the full-width twin of its row
abbrev pub twins : List ℕ → List (ℕ × List ℕ)
twins row =
    (19, memory_move 0 0 row) ∷  -- LoadDmPostModify
    (20, memory_move 1 0 row) ∷  -- StoreDmPostModify
    (21, memory_move 0 1 row) ∷  -- LoadDmPreModify
    (22, memory_move 1 1 row) ∷  -- StoreDmPreModify
    (38, wide_nop) ∷ []  -- Nop

-- a table has a line for the key
abbrev pub has : {A : Type 0} → ℕ → List (ℕ × A) → Bool
has key [] = false
has key (line ∷ lines) = eqb key line.0 || has key lines

-- whether a row has a twin, and which; of a row without one it is not asked
abbrev pub has_twin : List ℕ → Bool
has_twin row = has (at row 0) (twins row)

abbrev pub twin : List ℕ → List ℕ
twin row = lookup (at row 0) (twins row) wide_nop

-- ---- where
module _ (k : Kernel) where
  open k use {it, n}

  -- "Loop starts and ends pair as brackets": each end closes a loop, and none stays open
  abbrev pub pairs : Bool
  pairs = not (is_found (newest (λ e. is_end (it e) && eqb (nest it e) 0) n)) && eqb (nest it n) 0

  -- row i is one of "the last 11 instructions" of a body, as the build counts them
  abbrev pub tailed : ℕ → Bool
  tailed i = is_found (newest (λ e. is_end (it e) && (ltb i e && is_in_tail it e i)) n)

-- the seventeen numbers of row i
abbrev pub row_of : List ℕ → ℕ → List ℕ
row_of rows i = take row_width (drop (i * row_width) rows)

-- how many of the first n indices pass the test
abbrev pub how_many : (ℕ → Bool) → ℕ → ℕ
how_many t zero = 0
how_many t (suc n) = how_many t n + cond (t n) 1 0

module _ (rows names : List ℕ) where
  -- row i is changed; "Only rows that encode are changed"; "If loops don't pair, it copies without change"
  abbrev pub changes : ℕ → Bool
  changes i = pairs (kernel_of rows names) && (has_twin (row_of rows i) && (if_good (encodes ((kernel_of rows names).it i)) true false && tailed (kernel_of rows names) i))

  -- what stands for row i in the copy, and in the list of changes: "each changed row number with the old kind"
  abbrev pub copied : ℕ → List ℕ
  copied i = cond (changes i) (twin (row_of rows i)) (row_of rows i)

  abbrev pub listed : ℕ → List ℕ
  listed i = cond (changes i) (i ∷ at (row_of rows i) 0 ∷ []) []

  abbrev pub changed : ℕ
  changed = how_many changes (row_count rows)

-- ---- the answer
-- the numbers of a change, and the rooms in rows and in changes
abbrev pub change_width : ℕ
change_width = 2

abbrev pub copy_room : List ℕ → ℕ
copy_room copy = length copy / row_width

abbrev pub list_room : List ℕ → ℕ
list_room list = length list / change_width

-- "1 and the row refusals first, then 36, with the room in rows or changes, when the copy (tested first) or the list of changes has no room"
abbrev pub widen_judged : List ℕ → List ℕ → List ℕ → List ℕ → Judged
widen_judged rows names copy list =
    foremost
    (list_judged read_verdict rows names
    ∷ said_of_row 0 (when (ltb (copy_room copy) (row_count rows)) (NoRoomForRows (copy_room copy)))
    ∷ said_of_row 0 (when (ltb (list_room list) (changed rows names)) (NoRoomForRows (list_room list)))
    ∷ [])

-- the rows changed, and whether loops pair; or why nothing was written, and the row that this names
abbrev pub Widened : Type 0
Widened = Result Copied Refused

abbrev pub widened_in : ℕ → Verdict → ℕ → Bool → Widened
widened_in row (Ok _) n paired = Ok (record { changes = n; paired = paired })
widened_in row (Err r) n paired = Err (record { why = r; row = row })

abbrev pub widened_of : List ℕ → List ℕ → Judged → Widened
widened_of rows names j = widened_in j.row j.verdict (changed rows names) (pairs (kernel_of rows names))

-- and in numbers
abbrev pub told_widened : Widened → ToldWidened
told_widened (Ok c) = record { number = 0; changes = c.changes; first = pos 0; second = pos 0; third = pos 0; paired = cond c.paired 1 0; spare = 0 }
told_widened (Err e) =
    record { number = (told_of e.why).number; changes = 0; first = (told_of e.why).first; second = (told_of e.why).second; third = pos e.row; paired = 0; spare = 0 }

-- the new at the front of what was lent, if the verdict is good; "nothing is written in any refusal"
abbrev pub laid : Verdict → List ℕ → List ℕ → List ℕ
laid v new old = if_good v (new ++ drop (length new) old) old

-- what is left in the copy and in the list of changes
abbrev pub left_copy : List ℕ → List ℕ → List ℕ → List ℕ → List ℕ
left_copy rows names copy list = laid (widen_judged rows names copy list).verdict (gather (copied rows names) (row_count rows)) copy

abbrev pub left_list : List ℕ → List ℕ → List ℕ → List ℕ → List ℕ
left_list rows names copy list = laid (widen_judged rows names copy list).verdict (gather (listed rows names) (row_count rows)) list

-- THE CONTRACT: what is told and what is left in both slices
pub record Widens (rows names copy list : List ℕ) (told : ToldWidened) (copy' list' : List ℕ) : Type 0 where
  pub answer : told ≡ told_widened (widened_of rows names (widen_judged rows names copy list))
  pub copy_left : copy' ≡ left_copy rows names copy list
  pub list_left : list' ≡ left_list rows names copy list

-- none of the refusals is met: the list is well formed, every row is read, and there is room for the copy and for the changes
pub record Fits (rows names copy list : List ℕ) : Type 0 where
  pub passes : Passes read_verdict rows names
  pub copy_fits : row_count rows ≤ copy_room copy
  pub list_fits : changed rows names ≤ list_room list
