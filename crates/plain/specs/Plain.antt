-- An instrument of the plain build's proof: what each walk leans on, and what it comes to.
use Rattle.std.specs.Prelude.{◌≡◌, true, false, cond, List, [], ◌∷◌, ℕ, zero, suc, ◌+◌, ◌-◌, ◌*◌, ◌≤◌, ◌<◌, max, length, eqb, ltb, Ok, Err, Some, None, Result, Option}
use Rattle.std.proofs.lemmas.List.Edits.{sets}
use Rattle.refusals.specs.Answers.{Answer, Verdict, Judged}
use Rattle.encode.specs.declared.Form.{Form}
use Rattle.coded.specs.Coded.{Coded, of_jump}
use Rattle.refusals.specs.declared.Refusal.{Refusal}
use Rattle.refusals.specs.declared.Refusal.TheVariants.{RowSlice, UnclosedLoop, UndefinedLabel}
use Rattle.refusals.specs.declared.Refused.{Refused}
use Rattle.refusals.specs.Order.{when, first, if_good, row_named, said_of_row, first_in, foremost}
use Rattle.refusals.specs.Scan.{Came}
use Rattle.items.specs.declared.Condition.{Condition}
use Rattle.encode.specs.declared.Form.TheVariants as form
use Rattle.rows.specs.Rows.{most_rows, well_formed}
use Rattle.items.specs.declared.Item.TheVariants.{Instruction, Label, Jump, LoopBegin, LoopEnd}
use Rattle.coded.specs.Fine.{CodedFine}
use Rattle.places.specs.declared.Rooms.{Rooms}
use Rattle.places.specs.declared.Traits.{Traits}
use Rattle.places.specs.Items.{Kernel, kernel_of, row_at, row_count, about, is_label, is_jump, total, place, address_of, nest, label_width, jump_width, most_parcels, most_entries, most_loops}
use Rattle.places.specs.Looking.{at, opener, closer, deepest}
use Rattle.places.specs.Verdict.{faults, reach_at, loop_row, verdict_at, taken}
use Rattle.places.specs.Left.{Lent, lent_of, left}
use Rattle.tables.specs.Tables.{zeroed, lookup, Entries}
use Rattle.tables.specs.Held.{HoldsLabels}
use Rattle.settling.specs.Settling.{aim_form, Used}
use Rattle.checks.specs.Checks.{instruction_chk, label_chk, jump_chk, begin_chk}
use Rattle.checks.specs.Rooming.{Rooming}
use Rattle.ends.specs.Ends.{Rows, Closed}
use Rattle.plain.specs.declared.first.Before.{Before}
use Rattle.plain.specs.declared.first.Placed.{Placed}
use Rattle.plain.specs.Once.{written}

-- ---- what the rows before a row take
abbrev pub before_row : (ℕ → Coded) → ℕ → Before
before_row it i = record { place = place it i; labels = total is_label it i; jumps = total is_jump it i; depth = nest it i; deepest = deepest it i }

-- once one more is passed
abbrev pub passed : Before → Traits → Before
passed b t =
    record {
      place = b.place + t.size;
      labels = b.labels + t.label;
      jumps = b.jumps + t.jump;
      depth = b.depth + t.opens - t.closes;
      deepest = max b.deepest (b.depth + t.opens - t.closes);
    }

pub record PassFine (b : Before) (t : Traits) : Type 0 where
  pub place : b.place + t.size ≤ most_parcels
  pub labels : b.labels + t.label ≤ most_entries
  pub jumps : b.jumps + t.jump ≤ most_entries
  pub opens : b.depth + t.opens ≤ most_loops + 1
  pub closes : t.closes ≤ b.depth + t.opens

-- ---- the first walk: what row i is refused for, over the label entries that stand
module _ (k : Kernel) (r : Rooms) (ls : List ℕ) (b : Before) (i : ℕ) where
  abbrev pub check_at : Coded → Verdict
  check_at (Ok (Instruction c)) = instruction_chk r b.place b.depth c
  check_at (Ok (Label start len)) = label_chk r b.depth k.names ls b.labels start len
  check_at (Ok (Jump c start len)) = jump_chk r b.place b.jumps b.depth
  check_at (Ok (LoopBegin c m)) = begin_chk r b.place b.depth
  check_at (Ok LoopEnd) = first (faults k r i (Ok LoopEnd))
  check_at (Err why) = Err why

pub record CheckFine (rows names : List ℕ) (r : Rooms) (ls : List ℕ) (b : Before) (i : ℕ) (x : Coded) : Type 0 where
  pub rows_in : Rows rows i
  pub closed : Closed (row_at rows names) i
  pub place_is : b.place ≡ place (row_at rows names) i
  pub depth_is : b.depth ≡ nest (row_at rows names) i
  pub place_few : b.place ≤ most_parcels
  pub parcels_few : r.parcels ≤ most_parcels
  pub labels_in : b.labels ≤ r.labels
  pub labels_few : r.labels ≤ most_entries
  pub entries_in : label_width * b.labels ≤ length ls
  pub entries : Entries names ls b.labels
  pub jumps_few : b.jumps ≤ most_entries
  pub waits_few : r.jumps ≤ most_entries
  pub depth_few : b.depth ≤ most_loops
  pub loops_few : r.loops ≤ most_loops
  pub fine : CodedFine (length names) x

-- the entry of an item at a place
abbrev pub label_of : ℕ → Coded → List ℕ
label_of p x = cond (eqb (is_label x) 1) ((about x).start ∷ (about x).len ∷ address_of p ∷ []) []

abbrev pub jump_of : ℕ → ℕ → Coded → List ℕ
jump_of p row x = cond (eqb (is_jump x) 1) (p ∷ row ∷ []) []

pub record EnterFine (x : Coded) (b : Before) (lent : Lent) : Type 0 where
  pub label : is_label x ≡ 1 → label_width * b.labels + label_width ≤ length lent.labels
  pub jump : is_jump x ≡ 1 → jump_width * b.jumps + jump_width ≤ length lent.jumps
  pub place_few : b.place ≤ most_parcels
  pub labels_few : b.labels ≤ most_entries
  pub jumps_few : b.jumps ≤ most_entries

pub record Entered (x : Coded) (row : ℕ) (b : Before) (lent left : Lent) : Type 0 where
  pub labels : left.labels ≡ sets lent.labels (label_width * b.labels) (label_of b.place x)
  pub jumps : left.jumps ≡ sets lent.jumps (jump_width * b.jumps) (jump_of b.place row x)

-- the tables once i rows are passed
abbrev pub labels_at : Kernel → List ℕ → ℕ → List ℕ
labels_at k ls zero = ls
labels_at k ls (suc i) = sets (labels_at k ls i) (label_width * total is_label k.it i) (left k i (k.it i)).labels

abbrev pub jumps_at : Kernel → List ℕ → ℕ → List ℕ
jumps_at k js zero = js
jumps_at k js (suc i) = sets (jumps_at k js i) (jump_width * total is_jump k.it i) (left k i (k.it i)).jumps

-- past the last row: 23, if so many loops are open
abbrev pub unclosed : Kernel → ℕ → Judged
unclosed k depth = said_of_row (opener k.it k.n) (when (ltb 0 depth) UnclosedLoop)

abbrev pub late_of : Kernel → ℕ → Judged
late_of k depth = foremost (unclosed k depth ∷ [])

abbrev pub past_of : Kernel → Before → Placed
past_of k b = record { before = b; outcome = row_named (late_of k b.depth).row (late_of k b.depth).verdict }

pub record Passed (rows names : List ℕ) (b : Before) : Type 0 where
  pub few : row_count rows ≤ most_rows
  pub closed : Closed (row_at rows names) (row_count rows)
  pub depth_is : b.depth ≡ nest (row_at rows names) (row_count rows)

-- "rows in turn; then 23"
abbrev pub rows_judged : Kernel → Rooms → Judged
rows_judged k r = foremost (first_in (verdict_at k r) k.n ∷ unclosed k (nest k.it k.n) ∷ [])

abbrev pub RoomingOf : Rooms → Lent → Type 0
RoomingOf r lent = Rooming r r.parcels (length lent.labels) (length lent.jumps) r.loops

pub record Walking (rows : List ℕ) (r : Rooms) (lent : Lent) : Type 0 where
  pub few : row_count rows ≤ most_rows
  pub rooming : RoomingOf r lent

pub record Walked (k : Kernel) (r : Rooms) (lent : Lent) (p : Placed) (left : Lent) : Type 0 where
  pub before : p.before ≡ before_row k.it (taken k r)
  pub outcome : p.outcome ≡ row_named (rows_judged k r).row (rows_judged k r).verdict
  pub labels : left.labels ≡ labels_at k lent.labels (taken k r)
  pub jumps : left.jumps ≡ jumps_at k lent.jumps (taken k r)

pub record Unread (lent : Lent) (p : Placed) (left : Lent) : Type 0 where
  pub before : p.before ≡ record { place = 0; labels = 0; jumps = 0; depth = 0; deepest = 0 }
  pub outcome : p.outcome ≡ Err (record { why = RowSlice; row = 0 })
  pub labels : left.labels ≡ lent.labels
  pub jumps : left.jumps ≡ lent.jumps

pub record WalkedAll (rows names : List ℕ) (r : Rooms) (lent : Lent) (p : Placed) (left : Lent) : Type 0 where
  pub read : well_formed (length rows) ≡ true → Walked (kernel_of rows names) r lent p left
  pub unread : well_formed (length rows) ≡ false → Unread lent p left

-- the two tables of what is lent, and nothing else
abbrev pub tables : List ℕ → List ℕ → Lent
tables ls js = lent_of [] ls js []

-- ---- the second walk
-- the word of a jump at place p to the name at a of length b, once it is looked for
abbrev pub jump_word : Condition → ℕ → ℕ → ℕ → Option ℕ → Result Form Refusal
jump_word c p a b (Some q) = aim_form c p q
jump_word c p a b None = Err (UndefinedLabel a b)

abbrev pub jump_forms : List ℕ → List ℕ → ℕ → ℕ → Coded → Result Form Refusal
jump_forms ns ls count p x = of_jump (λ c a b. jump_word c p a b (lookup ns ls a b count)) (Ok form.Leaf) x

-- the word of the loop start in row i, once its end is looked for
pub record StartWord (rows names : List ℕ) (i : ℕ) (f : Result Form Refusal) : Type 0 where
  pub end : ℕ
  pub within : end < row_count rows
  pub found : closer (row_at rows names) (row_count rows) i ≡ at end
  pub is : f ≡ loop_row (row_at rows names) end i (row_at rows names i)

-- whether its jump reaches its label
abbrev pub aims : Kernel → ℕ → List ℕ → Verdict
aims k i ps = reach_at k i

pub record Writable (k : Kernel) (ls : List ℕ) (count room : ℕ) : Type 0 where
  pub rooms : Rooms
  pub few : k.n ≤ most_rows
  pub passed : (q : ℕ) → q < k.n → verdict_at k rooms q ≡ Ok tt
  pub closed : nest k.it k.n ≡ 0
  pub count_is : count ≡ total is_label k.it k.n
  pub held : HoldsLabels k.it k.n ls
  pub labels_in : label_width * count ≤ length ls
  pub parcels_few : rooms.parcels ≤ most_parcels
  pub parcels_in : rooms.parcels ≤ room

pub record WriteFine (k : Kernel) (ls : List ℕ) (count room i at : ℕ) (x : Coded) : Type 0 where
  pub writable : Writable k ls count room
  pub before : i < k.n
  pub at_is : at ≡ place k.it i
  pub is : x ≡ k.it i

pub record Wrote (k : Kernel) (i : ℕ) (ps : List ℕ) (r : Verdict) (ps' : List ℕ) : Type 0 where
  pub answer : r ≡ aims k i ps
  pub parcels : ps' ≡ if_good r (written k i ps) ps

-- all rows in turn: the judgement, and the parcels then
pub record Ran (k : Kernel) (ps : List ℕ) (r : Result (Unit {0}) Refused) (ps' : List ℕ) : Type 0 where
  pub judged : Judged
  pub came : Came (aims k) (written k) ps k.n judged.verdict judged.row ps'
  pub answer : r ≡ row_named judged.row judged.verdict

-- ---- the end
pub record Wiped (why : Refused) (b : Before) (lent : Lent) (a : Answer) (lent' : Lent) : Type 0 where
  pub answer : a ≡ Err why
  pub parcels : lent'.parcels ≡ zeroed b.place lent.parcels
  pub labels : lent'.labels ≡ zeroed (label_width * b.labels) lent.labels
  pub jumps : lent'.jumps ≡ zeroed (jump_width * b.jumps) lent.jumps

pub record Concluding (k : Kernel) (p : Placed) (lent : Lent) : Type 0 where
  pub used : Used p.before.place p.before.labels p.before.jumps (length lent.parcels) (length lent.labels) (length lent.jumps)
  pub writable : p.outcome ≡ Ok tt → Writable k lent.labels p.before.labels (length lent.parcels)

-- the second walk's verdict and parcels; accepted, they are left
pub record Ended (k : Kernel) (b : Before) (lent : Lent) (a : Answer) (lent' : Lent) : Type 0 where
  pub judged : Judged
  pub parcels : List ℕ
  pub came : Came (aims k) (written k) lent.parcels k.n judged.verdict judged.row parcels
  pub accepted : judged.verdict ≡ Ok tt → (a ≡ Ok b.place) × (lent' ≡ lent_of parcels lent.labels lent.jumps [])
  pub refused : (why : Refusal) → judged.verdict ≡ Err why → Wiped (record { why = why; row = judged.row }) b (lent_of parcels lent.labels lent.jumps []) a lent'

pub record Concluded (k : Kernel) (p : Placed) (lent : Lent) (a : Answer) (lent' : Lent) : Type 0 where
  pub stopped : (why : Refused) → p.outcome ≡ Err why → Wiped why p.before lent a lent'
  pub went : p.outcome ≡ Ok tt → Ended k p.before lent a lent'
