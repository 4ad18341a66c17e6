-- An instrument of the short way: a run of rows that are seen, row by row.
use Rattle.std.specs.Bool.{then_some}
use Rattle.std.specs.Prelude.{◌≡◌, Bool, false, cond, Option, Some, None, List, ℕ, zero, suc, ◌+◌, ◌*◌, ◌≤◌, ◌<◌, take, drop, eqb, Ok, Result}
use Rattle.std.proofs.lemmas.List.Edits.{sets}
use Rattle.encode.specs.declared.Form.{Form}
use Rattle.refusals.specs.declared.Refusal.{Refusal}
use Rattle.items.specs.Kinds.{kind_of, is_branch}
use Rattle.encode.specs.declared.Form.TheVariants as form
use Rattle.encode.specs.Encoding.{form_parcels, form_verdict}
use Rattle.rows.specs.Rows.{row_width, most_rows}
use Rattle.combined.specs.declared.Glance.{Glance}
use Rattle.combined.specs.declared.Glance.TheVariants.{Short, Pair, Word, Branch, Leaf}
use Rattle.combined.specs.Right.{Seen}
use Rattle.places.specs.Items.{size_of, row_count, most_parcels}
use Rattle.runs.specs.declared.Run.{Run}

-- past a row of n parcels
abbrev pub took : ℕ → Run → Run
took n x =
    record {
      row = x.row + 1;
      at = x.at + n;
      count = x.count + 1;
      last = x.at;
      short = cond (eqb n 3) x.short (x.count + 1);
      shortat = cond (eqb n 3) x.shortat x.at;
    }

-- the form of a glance, where branches are free to stand or not
abbrev pub form_seen : Bool → Glance → Option Form
form_seen free (Short w) = Some (form.Short w)
form_seen free (Pair w) = Some (form.Pair w)
form_seen free (Word w) = Some (form.Word w)
form_seen free (Branch w) = then_some free (form.Word w)
form_seen free Leaf = then_some free form.Leaf

-- row i of a slice of rows
abbrev pub row_in : List ℕ → ℕ → List ℕ
row_in rows i = take row_width (drop (i * row_width) rows)

-- the next row is taken: it is seen, fits, and is no branch where none may stand
pub record Taken (rows : List ℕ) (room : ℕ) (free : Bool) (x : Run) (p : List ℕ) (y : Run) (q : List ℕ) : Type 0 where
  pub form : Result Form Refusal
  pub seen : Seen (row_in rows x.row) form
  pub stays : free ≡ false → is_branch (kind_of seen.instruction) ≡ false
  pub encodes : form_verdict form ≡ Ok tt
  pub left : x.row < row_count rows
  pub roomy : x.at + 6 ≤ room
  pub on : y ≡ took (size_of form) x
  pub parcels : q ≡ sets p x.at (form_parcels form)

-- a turn at a row: of whatever rows it is the next one, it is taken; or the run ends, and nothing is written
abbrev pub Turned : List ℕ → ℕ → Bool → Run → List ℕ → Option Run → List ℕ → Type 0
Turned row room free x p (Some y) q = (rows : List ℕ) → row ≡ row_in rows x.row → x.row < row_count rows → Taken rows room free x p y q
Turned row room free x p None q = q ≡ p

-- a row more than so far
pub record Further (rows : List ℕ) (room : ℕ) (free : Bool) (So-far : Run → List ℕ → Type 0) (y : Run) (q : List ℕ) : Type 0 where
  pub x : Run
  pub p : List ℕ
  pub before : So-far x p
  pub taken : Taken rows room free x p y q

-- n rows from x and p on
abbrev pub Ran : List ℕ → ℕ → Bool → Run → List ℕ → ℕ → Run → List ℕ → Type 0
Ran rows room free x p zero y q = (y ≡ x) × (q ≡ p)
Ran rows room free x p (suc n) y q = Further rows room free (Ran rows room free x p n) y q

pub record Runs (rows : List ℕ) (room : ℕ) (free : Bool) (x : Run) (p : List ℕ) (y : Run) (q : List ℕ) : Type 0 where
  pub rows_taken : ℕ
  pub ran : Ran rows room free x p rows_taken y q

-- what a run leans on: it stands within the rows and the room, and the parcels are lent for the room
pub record Skimming (rows : List ℕ) (room : ℕ) (x : Run) (lent : ℕ) : Type 0 where
  pub few : row_count rows ≤ most_rows
  pub row_within : x.row ≤ row_count rows
  pub at_in : x.at ≤ room
  pub room_few : room ≤ most_parcels
  pub room_lent : room ≤ lent
  pub count_few : x.count ≤ most_parcels
