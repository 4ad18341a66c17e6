-- Document 01, "Refusal numbers", "Order": the first refusal that is met, of a list that stands in document 01's order, and of rows in turn;
-- document 02, wish 3: with the row that it names.
use Rattle.std.specs.Prelude.{◌≡◌, Bool, true, false, List, [], ◌∷◌, ℕ, zero, suc, ◌<◌, Result, Ok, Err}
use Rattle.refusals.specs.declared.Refusal.{Refusal}
use Rattle.refusals.specs.declared.Refused.{Refused}
use Rattle.refusals.specs.Answers.{Verdict, Judged}

-- the refusal where the test holds
abbrev pub when : Bool → Refusal → Verdict
when true r = Err r
when false r = Ok tt

abbrev pub or_else : Verdict → Verdict → Verdict
or_else (Ok _) rest = rest
or_else (Err r) rest = Err r

-- the first of a list
abbrev pub first : List Verdict → Verdict
first [] = Ok tt
first (v ∷ vs) = or_else v (first vs)

-- "rows in turn": the first among f 0, .., f (n - 1); and how many pass before it
abbrev pub first_of : (ℕ → Verdict) → ℕ → Verdict
first_of f zero = Ok tt
first_of f (suc n) = or_else (first_of f n) (f n)

abbrev pub if_good : {A : Type 0} → Verdict → A → A → A
if_good (Ok _) a b = a
if_good (Err r) a b = b

abbrev pub passing : (ℕ → Verdict) → ℕ → ℕ
passing f zero = 0
passing f (suc n) = if_good (first_of f (suc n)) (suc n) (passing f n)

-- a verdict that names a row
abbrev pub row_named : ℕ → Verdict → Result (Unit {0}) Refused
row_named row (Ok _) = Ok tt
row_named row (Err why) = Err (record { why = why; row = row })

-- ---- which row: what is said of row i
abbrev pub said_of_row : ℕ → Verdict → Judged
said_of_row i v = record { verdict = v; row = i }

-- "rows in turn": the first refusal names its own row
abbrev pub first_in : (ℕ → Verdict) → ℕ → Judged
first_in f n = said_of_row (passing f n) (first_of f n)

-- the first refusal of a list, with the row that it names
abbrev pub foremost : List Judged → Judged
foremost [] = said_of_row 0 (Ok tt)
foremost (j ∷ js) = said_of_row (if_good j.verdict (foremost js).row j.row) (or_else j.verdict (foremost js).verdict)

-- row is the first of n rows that is refused, and this is why
pub record FirstAt (f : ℕ → Verdict) (n : ℕ) (why : Refusal) (row : ℕ) : Type 0 where
  pub within : row < n
  pub refused : f row ≡ Err why
  pub earlier : (i : ℕ) → i < row → f i ≡ Ok tt
