-- What a build leaves in the lent buffers. Document 01, "Rooms and what is left".
use Rattle.std.specs.Prelude.{◌≡◌, cond, false, List, [], ◌∷◌, ◌++◌, ℕ, zero, suc, length, drop, replicate, Ok, Err}
use Rattle.refusals.specs.declared.Told.{Told}
use Rattle.refusals.specs.Answers.{Answer, Verdict, Judged}
use Rattle.coded.specs.Coded.{Coded}
use Rattle.refusals.specs.declared.Refusal.TheVariants.{RowSlice}
use Rattle.refusals.specs.Numbers.{answer_of, answered}
use Rattle.refusals.specs.Order.{if_good}
use Rattle.items.specs.declared.Condition.{Condition}
use Rattle.items.specs.declared.LoopCount.{LoopCount}
use Rattle.items.specs.declared.LoopMode.{LoopMode}
use Rattle.encode.specs.Encoding.{form_parcels, jump_form, loop_form, settled}
use Rattle.rows.specs.Rows.{well_formed}
use Rattle.items.specs.declared.Item.TheVariants.{Instruction, Label, Jump, LoopBegin, LoopEnd}
use Rattle.places.specs.declared.OpenLoop.{OpenLoop}
use Rattle.places.specs.declared.Rooms.{Rooms}
use Rattle.places.specs.Items.{Kernel, kernel_of, place, address, rooms_of}
use Rattle.places.specs.Looking.{Found, at, nothing, closer, deepest, labelled, part}
use Rattle.places.specs.Verdict.{jump_offset, loop_offset, judgement, taken}

-- what is lent: "parcels", "label entries", "waiting jumps", and "a lent table of loop records"
pub record Lent : Type 0 where
  pub parcels : List ℕ
  pub labels : List ℕ
  pub jumps : List ℕ
  pub loops : List OpenLoop

abbrev pub lent_of : List ℕ → List ℕ → List ℕ → List OpenLoop → Lent
lent_of p l j k = record { parcels = p; labels = l; jumps = j; loops = k }

-- with other loop records
abbrev pub with_loops : Lent → List OpenLoop → Lent
with_loops lent ks = lent_of lent.parcels lent.labels lent.jumps ks

abbrev pub rooms_of_lent : Lent → Rooms
rooms_of_lent lent = rooms_of (length lent.parcels) (length lent.labels) (length lent.jumps) (length lent.loops)

-- "Zero in a loop record is an immediate count 0, mode 0."
abbrev pub zero_loop : OpenLoop
zero_loop = record { place = 0; first = 0; count = 0; mode = 0 }

-- a word whose label, or whose loop's end, is not found
abbrev pub zeros : List ℕ
zeros = 0 ∷ 0 ∷ 0 ∷ []

module _ (it : ℕ → Coded) where
  abbrev pub jump_parcels : Condition → ℕ → Found → List ℕ
  jump_parcels c i (at label) = settled (jump_form c (jump_offset it label i) false)
  jump_parcels c i nothing = zeros

  abbrev pub loop_parcels : LoopCount → LoopMode → ℕ → Found → List ℕ
  loop_parcels c m i (at e) = settled (loop_form c m (loop_offset it e i))
  loop_parcels c m i nothing = zeros

module _ (k : Kernel) where
  open k use {it, n}

  -- what item i leaves: parcels; "Label entries (start, length, place) and waiting jumps (place, row)"
  abbrev pub left : ℕ → Coded → Lent
  left i (Ok (Instruction c)) = lent_of (form_parcels c.form) [] [] []
  left i (Ok (Label a b)) = lent_of [] (a ∷ b ∷ address it i ∷ []) [] []
  left i (Ok (Jump c a b)) = lent_of (jump_parcels it c i (labelled k a b n)) [] (place it i ∷ i ∷ []) []
  left i (Ok (LoopBegin c m)) = lent_of (loop_parcels it c m i (closer it n i)) [] [] []
  left i (Ok LoopEnd) = lent_of [] [] [] []
  left i (Err r) = lent_of [] [] [] []

-- f 0, .., f (i - 1), one after the other
abbrev pub gather : (ℕ → List ℕ) → ℕ → List ℕ
gather f zero = []
gather f (suc i) = gather f i ++ f i

-- "Accepted: parcels at the front, labels and jumps in item order .. Refused: zeros stand .. All else is unchanged."
abbrev pub put : Verdict → List ℕ → List ℕ → List ℕ
put v new old = if_good v new (replicate (length new) 0) ++ drop (length new) old

-- ---- what a build comes to: the answer, and what is left in the lent buffers
pub record Outcome : Type 0 where
  pub answer : Answer
  pub lent : Lent

abbrev pub outcome : Answer → Lent → Outcome
outcome a lent = record { answer = a; lent = lent }

module _ (k : Kernel) (lent : Lent) where
  open k use {it, n}

  abbrev pub judged : Judged
  judged = judgement k (rooms_of_lent lent)

  abbrev pub took : ℕ
  took = taken k (rooms_of_lent lent)

  abbrev pub left_by : ℕ → Lent
  left_by i = left k i (it i)

  -- zeros "in the parcels, label entries and jump entries that the rows before the refused one took .., and in the loop places up to
  -- their deepest nesting"; accepted: "used loop places zero"
  abbrev pub built : Outcome
  built =
      outcome (answer_of judged (place it n))
      (record {
        parcels = put judged.verdict (gather (λ i. (left_by i).parcels) took) lent.parcels;
        labels = put judged.verdict (gather (λ i. (left_by i).labels) took) lent.labels;
        jumps = put judged.verdict (gather (λ i. (left_by i).jumps) took) lent.jumps;
        loops = replicate (deepest it took) zero_loop ++ drop (deepest it took) lent.loops;
      })

-- 1 changes nothing and names no row; else the rows are built
abbrev pub build_of : List ℕ → List ℕ → Lent → Outcome
build_of rows names lent = cond (well_formed (length rows)) (built (kernel_of rows names) lent) (outcome (Err (record { why = RowSlice; row = 0 })) lent)

-- THE CONTRACT of a build: what is told, in document 01's numbers, and what is left, are what the build comes to
pub record Builds (rows names : List ℕ) (lent : Lent) (told : Told) (left : Lent) : Type 0 where
  pub answer : told ≡ answered (build_of rows names lent).answer
  pub parcels : left.parcels ≡ (build_of rows names lent).lent.parcels
  pub labels : left.labels ≡ (build_of rows names lent).lent.labels
  pub jumps : left.jumps ≡ (build_of rows names lent).lent.jumps
  pub loops : left.loops ≡ (build_of rows names lent).lent.loops

-- the same with 64 loop records of its own, all zero
abbrev pub BuildsAlone : List ℕ → List ℕ → Lent → Told → Lent → Type 0
BuildsAlone rows names lent told left =
    Builds rows names (with_loops lent (replicate 64 zero_loop)) told (with_loops left (build_of rows names (with_loops lent (replicate 64 zero_loop))).lent.loops)

-- "the name itself is handed back as that part of the lent names, by a call on the answer and the names .. any other answer, or a range
-- outside the names, gives an empty part": THE CONTRACT of the name
abbrev pub HandsBack : List ℕ → Answer → List ℕ → Type 0
HandsBack names a x = x ≡ part names (answered a).start (answered a).length
