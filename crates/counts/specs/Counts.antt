-- Document 01, "Also public": "the parcel count and the instruction count of a list".
use Rattle.std.specs.Prelude.{◌≡◌, true, not, List, [], ◌∷◌, ℕ, ◌<◌, length, Ok, Err, Result}
use Rattle.refusals.specs.declared.Refusal.{Refusal}
use Rattle.refusals.specs.declared.Refusal.TheVariants.{RowSlice}
use Rattle.refusals.specs.Answers.{Verdict, Answer, Judged}
use Rattle.coded.specs.Coded.{Coded, of_instruction, read_verdict, encodes}
use Rattle.refusals.specs.declared.Told.{Told}
use Rattle.refusals.specs.Numbers.{answer_of, answered}
use Rattle.refusals.specs.Calls.{Call, parcel_count, instruction_count}
use Rattle.refusals.specs.Order.{when, or_else, said_of_row, first_in, foremost}
use Rattle.items.specs.Kinds.{issued}
use Rattle.rows.specs.Rows.{well_formed}
use Rattle.places.specs.Items.{row_at, row_count, total, size, is_entry}
use Rattle.counts.specs.declared.Counting.{Counting}
use Rattle.counts.specs.declared.Counting.TheVariants.{Parcels, Instructions}

-- "the parcel count also refuses instructions that don't encode"
abbrev pub row_verdict : Counting → Coded → Verdict
row_verdict Parcels x = or_else (read_verdict x) (encodes x)
row_verdict Instructions x = read_verdict x

-- what a row counts for: its parcels; its instructions, of which a `LeafReturn` is four, a jump and a loop start one
abbrev pub amount : Counting → Coded → ℕ
amount Parcels x = size x
amount Instructions x = of_instruction (λ y. issued y.kind) (is_entry x) x

-- this count, or why there is none
abbrev pub counted_in : Verdict → ℕ → Result ℕ Refusal
counted_in (Ok _) n = Ok n
counted_in (Err why) n = Err why

-- "1; then rows in turn": 1 names no row
abbrev pub list_judged : (Coded → Verdict) → List ℕ → List ℕ → Judged
list_judged f rows names =
    foremost
    (said_of_row 0 (when (not (well_formed (length rows))) RowSlice)
    ∷ first_in (λ i. f (row_at rows names i)) (row_count rows)
    ∷ [])

-- that it is good: the list is well formed and every row passes
pub record Passes (f : Coded → Verdict) (rows names : List ℕ) : Type 0 where
  pub formed : well_formed (length rows) ≡ true
  pub each : (i : ℕ) → i < row_count rows → f (row_at rows names i) ≡ Ok tt

-- the count of a list: over all its rows
abbrev pub count_of : Counting → List ℕ → List ℕ → Answer
count_of what rows names = answer_of (list_judged (row_verdict what) rows names) (total (amount what) (row_at rows names) (row_count rows))

-- THE CONTRACT of a count: what is told, in document 01's numbers
abbrev pub Counts : Counting → List ℕ → List ℕ → Told → Type 0
Counts what rows names told = told ≡ answered (count_of what rows names)

-- the call that counts so
abbrev pub call_for : Counting → Call
call_for Parcels = parcel_count
call_for Instructions = instruction_count
