-- An instrument of the build's proof: the waiting jumps in turn, each aimed at its label's address, and what is wiped after a refusal.
use Rattle.std.specs.Prelude.{◌≡◌, List, ℕ, ◌+◌, ◌*◌, ◌≤◌, ◌<◌, false, length, get_or, pos, ◌-ℤ◌, Ok, Err, Some, None, Result, Option}
use Rattle.std.proofs.lemmas.List.Edits.{sets}
use Rattle.refusals.specs.declared.Refusal.TheVariants.{UndefinedLabel}
use Rattle.refusals.specs.Answers.{Verdict}
use Rattle.encode.specs.declared.Form.{Form}
use Rattle.refusals.specs.declared.Refusal.{Refusal}
use Rattle.refusals.specs.declared.Refused.{Refused}
use Rattle.coded.specs.Coded.{Coded, of_jump}
use Rattle.refusals.specs.Order.{if_good, row_named}
use Rattle.refusals.specs.Scan.{Came}
use Rattle.items.specs.declared.Condition.{Condition}
use Rattle.encode.specs.Encoding.{form_verdict, jump_form, settled}
use Rattle.rows.specs.Rows.{most_rows}
use Rattle.places.specs.Items.{Kernel, address_of, label_width, jump_width, most_parcels, most_entries}
use Rattle.tables.specs.Tables.{lookup, Entries}

-- the word of a jump at place p to address q
unfoldable pub aim_form : Condition → ℕ → ℕ → Result Form Refusal
aim_form c p q = jump_form c (pos q -ℤ pos (address_of p)) false

-- the jump at place p to the name at a of length b: 12, 9
abbrev pub aim_chk : Condition → ℕ → ℕ → ℕ → Option ℕ → Verdict
aim_chk c p a b (Some q) = form_verdict (aim_form c p q)
aim_chk c p a b None = Err (UndefinedLabel a b)

abbrev pub aimed : Condition → ℕ → Option ℕ → List ℕ → List ℕ
aimed c p (Some q) ps = sets ps p (settled (aim_form c p q))
aimed c p None ps = ps

-- the waiting jump at place p, as its row says, over n label entries
module _ (ns ls : List ℕ) (n p : ℕ) where
  abbrev pub aim_row_chk : Coded → Verdict
  aim_row_chk x = of_jump (λ c a b. aim_chk c p a b (lookup ns ls a b n)) (Ok tt) x

  abbrev pub row_aimed : List ℕ → Coded → List ℕ
  row_aimed ps x = of_jump (λ c a b. aimed c p (lookup ns ls a b n) ps) ps x

pub record Settles (ns ls : List ℕ) (n p : ℕ) (x : Coded) (ps : List ℕ) (r : Verdict) (ps' : List ℕ) : Type 0 where
  pub answer : r ≡ aim_row_chk ns ls n p x
  pub parcels : ps' ≡ if_good r (row_aimed ns ls n p ps x) ps

-- waiting jump q of the table js: its place, and what its row says
module _ (k : Kernel) (ls : List ℕ) (n : ℕ) (js : List ℕ) where
  abbrev pub wait_chk : ℕ → List ℕ → Verdict
  wait_chk q ps = aim_row_chk k.names ls n (get_or js (jump_width * q) 0) (k.it (get_or js (jump_width * q + 1) 0))

  abbrev pub waited : ℕ → List ℕ → List ℕ
  waited q ps = row_aimed k.names ls n (get_or js (jump_width * q) 0) ps (k.it (get_or js (jump_width * q + 1) 0))

  -- all of them, up to the first that is refused: the refusal names the row of the jump where they ended
  pub record Aims (count : ℕ) (ps : List ℕ) (answer : Result (Unit {0}) Refused) (ps' : List ℕ) : Type 0 where
    pub verdict : Verdict
    pub end : ℕ
    pub came : Came wait_chk waited ps count verdict end ps'
    pub row : answer ≡ row_named (get_or js (jump_width * end + 1) 0) verdict

-- ---- what the functions lean on
pub record AimFine (ns ls : List ℕ) (n p room : ℕ) : Type 0 where
  pub labels_in : label_width * n ≤ length ls
  pub entries : Entries ns ls n
  pub jump_in : p + 3 ≤ room
  pub jump_few : p ≤ most_parcels

pub record AimsFine (k : Kernel) (ls : List ℕ) (n : ℕ) (js : List ℕ) (count room : ℕ) : Type 0 where
  pub labels_in : label_width * n ≤ length ls
  pub entries : Entries k.names ls n
  pub jumps_in : jump_width * count ≤ length js
  pub places_in : (q : ℕ) → q < count → get_or js (jump_width * q) 0 + 3 ≤ room
  pub places_few : (q : ℕ) → q < count → get_or js (jump_width * q) 0 ≤ most_parcels
  pub rows_in : (q : ℕ) → q < count → get_or js (jump_width * q + 1) 0 < k.n
  pub rows_few : k.n ≤ most_rows

-- at parcels, n label entries and m waiting jumps lie in the buffers
pub record Used (at n m p l j : ℕ) : Type 0 where
  pub parcels_in : at ≤ p
  pub labels_in : label_width * n ≤ l
  pub jumps_in : jump_width * m ≤ j
  pub parcels_few : at ≤ most_parcels
  pub labels_few : n ≤ most_entries
  pub jumps_few : m ≤ most_entries
