-- Document 02, wish 6: what a widening leaves: "It lists each changed row number with the old kind, in row order. .. All else stays."
use Rattle.std.specs.Prelude.{◌≡◌, ◌↔◌, List, ◌++◌, ℕ, ◌+◌, ◌*◌, ◌<◌, length, take, drop}
use Rattle.bounds.specs.Tables.{at}
use Rattle.places.specs.Items.{row_count}
use Rattle.widening.specs.declared.ToldWidened.{ToldWidened}
use Rattle.widening.specs.Widening.{twin, row_of, change_width}
use Rattle.widened.specs.Moves.{KeepsMove}
use Rattle.widened.specs.Tails.{GivesWay}

-- pair p of a list of changes: the row, and its old kind
abbrev pub row_in : List ℕ → ℕ → ℕ
row_in list p = at list (p * change_width)

abbrev pub kind_in : List ℕ → ℕ → ℕ
kind_in list p = at list (p * change_width + 1)

-- the only changes are those listed, where told, copy' and list' are what a widening with number 0 gives
pub record OnlyListed (rows names copy list : List ℕ) (told : ToldWidened) (copy' list' : List ℕ) : Type 0 where
  -- so many pairs are listed: of rows of the list, with their old kinds, in row order
  pub one_of : (p : ℕ) → p < told.changes → row_in list' p < row_count rows
  pub old_kind : (p : ℕ) → p < told.changes → kind_in list' p ≡ at (row_of rows (row_in list' p)) 0
  pub in_order : (p q : ℕ) → p < q → q < told.changes → row_in list' p < row_in list' q
  -- they are the rows that give way
  pub exactly : (i : ℕ) → i < row_count rows → GivesWay rows names i ↔ ((p : ℕ) × (p < told.changes) × (row_in list' p ≡ i))
  -- for a listed row stands its twin, another row that moves the same
  pub twins : (p : ℕ) → p < told.changes → row_of copy' (row_in list' p) ≡ twin (row_of rows (row_in list' p))
  pub differs : (p : ℕ) → p < told.changes → row_of copy' (row_in list' p) ≡ row_of rows (row_in list' p) → ⊥
  pub keeps : (p : ℕ) → p < told.changes → KeepsMove (row_of rows (row_in list' p)) (row_of copy' (row_in list' p)) (length names)
  -- any other row stays, and so does what lies past the rows and past the pairs
  pub stays : (i : ℕ) → i < row_count rows → ((p : ℕ) → p < told.changes → row_in list' p ≡ i → ⊥) → row_of copy' i ≡ row_of rows i
  pub copy_past : drop (length rows) copy' ≡ drop (length rows) copy
  pub list_past : drop (told.changes * change_width) list' ≡ drop (told.changes * change_width) list

-- the list comes back as it is, and no change is listed
pub record Unchanged (rows copy list : List ℕ) (told : ToldWidened) (copy' list' : List ℕ) : Type 0 where
  pub none : told.changes ≡ 0
  pub same : copy' ≡ rows ++ drop (length rows) copy
  pub no_list : list' ≡ list

-- the rows that a widening leaves in the copy
abbrev pub widened_rows : List ℕ → List ℕ → List ℕ
widened_rows rows copy' = take (length rows) copy'
