-- Document 01, "Slot check", and document 02, wish 1: "It should read the next two items that are not labels."
use Rattle.std.specs.Prelude.{◌≡◌, Bool, false, cond, ◌&&◌, not, List, [], ◌∷◌, ◌++◌, ℕ, zero, suc, ◌+◌, ◌<◌, drop, eqb, Ok}
use Rattle.refusals.specs.declared.Refusal.TheVariants.{BrokenSlot}
use Rattle.refusals.specs.Answers.{Verdict, Judged}
use Rattle.coded.specs.Coded.{Coded, of_instruction, read_verdict}
use Rattle.refusals.specs.declared.Told.{Told}
use Rattle.refusals.specs.Numbers.{answer_of, answered}
use Rattle.refusals.specs.Order.{when, first_in, foremost}
use Rattle.items.specs.Kinds.{is_branch, has_slots}
use Rattle.places.specs.Items.{row_at, row_count, is_label}
use Rattle.counts.specs.Counts.{list_judged, Passes}

-- "each delayed `JumpRelative` and each `CJump`"
abbrev pub opens : Coded → Bool
opens x = of_instruction (λ y. has_slots y.kind) false x

-- "instruction items (kinds 0 to 39) other than `JumpRelative`, `CJump` and `LeafReturn`"
abbrev pub fills : Coded → Bool
fills x = of_instruction (λ y. not (is_branch y.kind)) false x

-- the items of n rows
abbrev pub items : (ℕ → Coded) → ℕ → List Coded
items it zero = []
items it (suc n) = items it n ++ (it n ∷ [])

-- "items that are not labels"
abbrev pub label : Coded → Bool
label x = eqb (is_label x) 1

abbrev pub unlabelled : List Coded → List Coded
unlabelled [] = []
unlabelled (x ∷ xs) = cond (label x) (unlabelled xs) (x ∷ unlabelled xs)

-- "the next two" of them "must exist and be instruction items .."
abbrev pub filled : List Coded → Bool
filled [] = false
filled (x ∷ []) = false
filled (x ∷ y ∷ rest) = fills x && fills y

-- 33 with the row of the jump
abbrev pub slot_verdict : (ℕ → Coded) → ℕ → ℕ → Verdict
slot_verdict it n i = when (opens (it i) && not (filled (unlabelled (drop (i + 1) (items it n))))) (BrokenSlot i)

-- "Refusals: 1, then the first row refusal, then 33 for the first such jump."
abbrev pub slot_check_of : List ℕ → List ℕ → Judged
slot_check_of rows names = foremost (list_judged read_verdict rows names ∷ first_in (slot_verdict (row_at rows names) (row_count rows)) (row_count rows) ∷ [])

-- none of them is met
pub record Filled (rows names : List ℕ) : Type 0 where
  pub passes : Passes read_verdict rows names
  pub slots : (i : ℕ) → i < row_count rows → slot_verdict (row_at rows names) (row_count rows) i ≡ Ok tt

-- THE CONTRACT of the slot check: what is told, in document 01's numbers; "33 keeps its first detail and repeats it as the third"
abbrev pub Checks : List ℕ → List ℕ → Told → Type 0
Checks rows names told = told ≡ answered (answer_of (slot_check_of rows names) 0)
