-- An instrument of the build's proof: what a row's checks say of a state, and what a row makes of the state and of each lent buffer.
use Rattle.std.specs.Prelude.{◌≡◌, Bool, cond, ◌&&◌, List, [], ◌∷◌, ℕ, ◌+◌, ◌-◌, ◌*◌, ◌≤◌, ◌<◌, ◌%◌, length, get_or, set, ltb, eqb, pos, ◌-ℤ◌, Ok, Err, Result}
use Rattle.std.proofs.lemmas.List.Edits.{sets}
use Rattle.refusals.specs.declared.Refusal.TheVariants.{EmptyLoop, UnmatchedLoopEnd, SharedLoopEnd, LoopTailNotFullWidth}
use Rattle.refusals.specs.Answers.{Verdict}
use Rattle.encode.specs.declared.Form.{Form}
use Rattle.refusals.specs.declared.Refusal.{Refusal}
use Rattle.coded.specs.Coded.{Coded, of_jump}
use Rattle.refusals.specs.Order.{when, first, if_good}
use Rattle.items.specs.declared.LoopCount.{LoopCount}
use Rattle.items.specs.declared.LoopCount.TheVariants.{Immediate, Register}
use Rattle.items.specs.declared.LoopMode.{LoopMode}
use Rattle.items.specs.declared.LoopMode.TheVariants.{E2Active, F1Active}
use Rattle.encode.specs.Encoding.{form_parcels, form_verdict, loop_form, settled}
use Rattle.coded.specs.declared.Coding.{Coding}
use Rattle.items.specs.declared.Item.TheVariants.{Instruction, Label, Jump, LoopBegin, LoopEnd}
use Rattle.places.specs.declared.OpenLoop.{OpenLoop}
use Rattle.places.specs.declared.Rooms.{Rooms}
use Rattle.places.specs.Items.{size_of, address_of, label_width, jump_width}
use Rattle.places.specs.Looking.{loop_tail}
use Rattle.places.specs.Left.{Lent, lent_of, zeros, zero_loop}
use Rattle.tables.specs.Tables.{Entries}
use Rattle.checks.specs.Checks.{instruction_chk, label_chk, jump_chk, begin_chk}
use Rattle.checks.specs.Rooming.{Rooming, RoomingIn}
use Rattle.machine.specs.declared.State.{State}
use Rattle.machine.specs.declared.Step.{Step}
use Rattle.machine.specs.declared.Step.TheVariants.{On, Opened, Closed}

-- ---- loop records: place, first body entry, count, mode
-- an immediate count as itself, a register's code past 65536
abbrev pub count_number : LoopCount → ℕ
count_number (Immediate n) = n
count_number (Register r) = 65536 + r.0

abbrev pub count_from : ℕ → LoopCount
count_from n = cond (ltb n 65536) (Immediate n) (Register (record { 0 = (n - 65536) % 256 }))

abbrev pub mode_number : LoopMode → ℕ
mode_number E2Active = 0
mode_number F1Active = 1

abbrev pub mode_from : ℕ → LoopMode
mode_from n = cond (eqb n 0) E2Active F1Active

-- the innermost open loop's record; with none open, whatever stands at the front
abbrev pub top_of : State → List OpenLoop → OpenLoop
top_of s ks = get_or ks (s.depth - 1) zero_loop

-- the loop start's word, were the loop of this record to end here
unfoldable pub top_form : State → OpenLoop → Result Form Refusal
top_form s top = loop_form (count_from top.count) (mode_from top.mode) (pos s.last -ℤ pos (address_of top.place))

-- ---- what a loop end checks; the other kinds of rows: checks/specs/Checks.antt
-- the latest short instruction is one of the last 11 of the body
abbrev pub tail_short : ℕ → ℕ → ℕ → Bool
tail_short begin short count = ltb begin short && ltb count (short + loop_tail)

abbrev pub end_chk : State → OpenLoop → Verdict
end_chk s top =
    first
    (when (eqb s.depth 0) UnmatchedLoopEnd
    ∷ when (eqb s.count top.first) EmptyLoop
    ∷ when (eqb s.ended s.count) SharedLoopEnd
    ∷ when (tail_short top.first s.short s.count) (LoopTailNotFullWidth s.shortat)
    ∷ form_verdict (top_form s top)
    ∷ [])

-- ---- the states that follow
-- at, labels, jumps, depth, count, last, short, shortat, ended
abbrev pub st : ℕ → ℕ → ℕ → ℕ → ℕ → ℕ → ℕ → ℕ → ℕ → State
st a l j d c t s sa e = record { at = a; labels = l; jumps = j; depth = d; count = c; last = t; short = s; shortat = sa; ended = e }

-- an instruction entry of n parcels
abbrev pub advanced : ℕ → State → State
advanced n s =
    st (s.at + n) s.labels s.jumps s.depth (s.count + 1) (address_of s.at) (cond (eqb n 3) s.short (s.count + 1)) (cond (eqb n 3) s.shortat (address_of s.at)) s.ended

abbrev pub label_next : State → State
label_next s = st s.at (s.labels + 1) s.jumps s.depth s.count s.last s.short s.shortat s.ended

abbrev pub jump_next : State → State
jump_next s = st (s.at + 3) s.labels (s.jumps + 1) s.depth (s.count + 1) (address_of s.at) s.short s.shortat s.ended

abbrev pub begin_next : State → State
begin_next s = st (s.at + 3) s.labels s.jumps (s.depth + 1) (s.count + 1) (address_of s.at) s.short s.shortat s.ended

abbrev pub begin_record : State → LoopCount → LoopMode → OpenLoop
begin_record s c m = record { place = s.at; first = s.count + 1; count = count_number c; mode = mode_number m }

abbrev pub end_next : State → State
end_next s = st s.at s.labels s.jumps (s.depth - 1) s.count s.last s.short s.shortat s.count

-- ---- the contracts of the methods: the step, and each buffer it may write
abbrev pub step_by : Verdict → Result Step Refusal → Result Step Refusal
step_by (Ok _) x = x
step_by (Err r) x = Err r

pub record Instructed (s : State) (r : Rooms) (c : Coding) (p : List ℕ) (x : Result Step Refusal) (p' : List ℕ) : Type 0 where
  pub answer : x ≡ step_by (instruction_chk r s.at s.depth c) (Ok (On (advanced (size_of c.form) s)))
  pub parcels : p' ≡ if_good (instruction_chk r s.at s.depth c) (sets p s.at (form_parcels c.form)) p

pub record Labelled (ns : List ℕ) (s : State) (r : Rooms) (ls : List ℕ) (a b : ℕ) (x : Result Step Refusal) (ls' : List ℕ) : Type 0 where
  pub answer : x ≡ step_by (label_chk r s.depth ns ls s.labels a b) (Ok (On (label_next s)))
  pub labels : ls' ≡ if_good (label_chk r s.depth ns ls s.labels a b) (sets ls (label_width * s.labels) (a ∷ b ∷ address_of s.at ∷ [])) ls

pub record Jumped (s : State) (r : Rooms) (row : ℕ) (p js : List ℕ) (x : Result Step Refusal) (p' js' : List ℕ) : Type 0 where
  pub answer : x ≡ step_by (jump_chk r s.at s.jumps s.depth) (Ok (On (jump_next s)))
  pub parcels : p' ≡ if_good (jump_chk r s.at s.jumps s.depth) (sets p s.at zeros) p
  pub jumps : js' ≡ if_good (jump_chk r s.at s.jumps s.depth) (sets js (jump_width * s.jumps) (s.at ∷ row ∷ [])) js

pub record Begun (s : State) (r : Rooms) (c : LoopCount) (m : LoopMode) (p : List ℕ) (x : Result Step Refusal) (p' : List ℕ) : Type 0 where
  pub answer : x ≡ step_by (begin_chk r s.at s.depth) (Ok (Opened (begin_next s) (begin_record s c m)))
  pub parcels : p' ≡ if_good (begin_chk r s.at s.depth) (sets p s.at zeros) p

pub record Ended (s : State) (top : OpenLoop) (p : List ℕ) (x : Result Step Refusal) (p' : List ℕ) : Type 0 where
  pub answer : x ≡ step_by (end_chk s top) (Ok (Closed (end_next s)))
  pub parcels : p' ≡ if_good (end_chk s top) (sets p top.place (settled (top_form s top))) p

-- ---- what a row checks, and what it makes of the state and each buffer, the innermost open loop having the record top
abbrev pub check_row : List ℕ → Rooms → Coded → State → List ℕ → OpenLoop → Verdict
check_row ns r (Ok (Instruction c)) s ls top = instruction_chk r s.at s.depth c
check_row ns r (Ok (Label a b)) s ls top = label_chk r s.depth ns ls s.labels a b
check_row ns r (Ok (Jump c a b)) s ls top = jump_chk r s.at s.jumps s.depth
check_row ns r (Ok (LoopBegin c k)) s ls top = begin_chk r s.at s.depth
check_row ns r (Ok LoopEnd) s ls top = end_chk s top
check_row ns r (Err why) s ls top = Err why

abbrev pub step_row : Coded → State → Result Step Refusal
step_row (Ok (Instruction c)) s = Ok (On (advanced (size_of c.form) s))
step_row (Ok (Label a b)) s = Ok (On (label_next s))
step_row (Ok (Jump c a b)) s = Ok (On (jump_next s))
step_row (Ok (LoopBegin c m)) s = Ok (Opened (begin_next s) (begin_record s c m))
step_row (Ok LoopEnd) s = Ok (Closed (end_next s))
step_row (Err why) s = Ok (On s)

abbrev pub parcels_row : Coded → State → OpenLoop → List ℕ → List ℕ
parcels_row (Ok (Instruction c)) s top p = sets p s.at (form_parcels c.form)
parcels_row (Ok (Label a b)) s top p = p
parcels_row (Ok (Jump c a b)) s top p = sets p s.at zeros
parcels_row (Ok (LoopBegin c m)) s top p = sets p s.at zeros
parcels_row (Ok LoopEnd) s top p = sets p top.place (settled (top_form s top))
parcels_row (Err why) s top p = p

abbrev pub labels_row : Coded → State → List ℕ → List ℕ
labels_row (Ok (Instruction c)) s ls = ls
labels_row (Ok (Label a b)) s ls = sets ls (label_width * s.labels) (a ∷ b ∷ address_of s.at ∷ [])
labels_row (Ok (Jump c a b)) s ls = ls
labels_row (Ok (LoopBegin c m)) s ls = ls
labels_row (Ok LoopEnd) s ls = ls
labels_row (Err why) s ls = ls

abbrev pub jumps_row : ℕ → Coded → State → List ℕ → List ℕ
jumps_row row x s js = of_jump (λ c a b. sets js (jump_width * s.jumps) (s.at ∷ row ∷ [])) js x

-- the step's state
abbrev pub step_state : Result Step Refusal → State → State
step_state (Ok (On s')) s = s'
step_state (Ok (Opened s' start)) s = s'
step_state (Ok (Closed s')) s = s'
step_state (Err r) s = s

-- the loop table: a record pushed, or popped and zeroed
abbrev pub loops_by : Result Step Refusal → State → List OpenLoop → List OpenLoop
loops_by (Ok (On s')) s ks = ks
loops_by (Ok (Opened s' start)) s ks = set ks s.depth start
loops_by (Ok (Closed s')) s ks = set ks (s.depth - 1) zero_loop
loops_by (Err r) s ks = ks

-- the loop table stays out of it
pub record Stepped (ns : List ℕ) (r : Rooms) (rd : Coded) (row : ℕ) (s : State) (lent : Lent) (top : OpenLoop) (x : Result Step Refusal) (left : Lent) : Type 0 where
  pub answer : x ≡ step_by (check_row ns r rd s lent.labels top) (step_row rd s)
  pub parcels : left.parcels ≡ if_good (check_row ns r rd s lent.labels top) (parcels_row rd s top lent.parcels) lent.parcels
  pub labels : left.labels ≡ if_good (check_row ns r rd s lent.labels top) (labels_row rd s lent.labels) lent.labels
  pub jumps : left.jumps ≡ if_good (check_row ns r rd s lent.labels top) (jumps_row row rd s lent.jumps) lent.jumps

-- ---- the buffers with one of them another
abbrev pub with_parcels : Lent → List ℕ → Lent
with_parcels lent p = lent_of p lent.labels lent.jumps lent.loops

abbrev pub with_labels : Lent → List ℕ → Lent
with_labels lent l = lent_of lent.parcels l lent.jumps lent.loops

abbrev pub with_jumps : Lent → List ℕ → Lent
with_jumps lent j = lent_of lent.parcels lent.labels j lent.loops

-- ---- the state and the buffers together
pub record Mem : Type 0 where
  pub s : State
  pub lent : Lent

abbrev pub mem_of : State → Lent → Mem
mem_of s lent = record { s = s; lent = lent }

abbrev pub check : List ℕ → Rooms → Coded → Mem → Verdict
check ns r rd m = check_row ns r rd m.s m.lent.labels (top_of m.s m.lent.loops)

abbrev pub next : ℕ → Coded → Mem → Mem
next row rd m =
    mem_of (step_state (step_row rd m.s) m.s)
    (record {
      parcels = parcels_row rd m.s (top_of m.s m.lent.loops) m.lent.parcels;
      labels = labels_row rd m.s m.lent.labels;
      jumps = jumps_row row rd m.s m.lent.jumps;
      loops = loops_by (step_row rd m.s) m.s m.lent.loops;
    })

-- ---- what stays true while rows are accepted
-- an open loop's record: the parcels of its start are written
abbrev pub StartFine : State → OpenLoop → Type 0
StartFine s start = (start.place + 3 ≤ s.at) × (address_of start.place ≤ s.last)

abbrev pub Starts : State → List OpenLoop → Type 0
Starts s ks = (d : ℕ) → d < s.depth → StartFine s (get_or ks d zero_loop)

abbrev pub TopFine : State → OpenLoop → Type 0
TopFine s top = 0 < s.depth → StartFine s top

-- the places in use lie within the rooms
pub record Within (s : State) (r : Rooms) : Type 0 where
  pub at_in : s.at ≤ r.parcels
  pub labels_in : s.labels ≤ r.labels
  pub jumps_in : s.jumps ≤ r.jumps
  pub depth_in : s.depth ≤ r.loops
  pub count_in : s.count ≤ s.at
  pub last_in : s.last ≤ s.at
  pub short_in : s.short ≤ s.count
  pub shortat_in : s.shortat ≤ s.at

-- what a row leans on, but for the loop table
pub record Fine (ns : List ℕ) (r : Rooms) (s : State) (lent : Lent) (top : OpenLoop) : Type 0 where
  pub rooming : Rooming r (length lent.parcels) (length lent.labels) (length lent.jumps) r.loops
  pub within : Within s r
  pub entries : Entries ns lent.labels s.labels
  pub top_fine : TopFine s top

pub record GoodFor (ns : List ℕ) (r : Rooms) (m : Mem) : Type 0 where
  pub rooming : RoomingIn r m.lent
  pub within : Within m.s r
  pub entries : Entries ns m.lent.labels m.s.labels
  pub starts : Starts m.s m.lent.loops
