-- An instrument of the build's proof: a table that holds the label entries of the first rows.
use Rattle.std.specs.Prelude.{◌≡◌, List, ℕ, ◌+◌, ◌*◌, ◌<◌, get_or, Ok}
use Rattle.coded.specs.Coded.{Coded}
use Rattle.items.specs.declared.Item.TheVariants.{Label}
use Rattle.places.specs.Items.{is_label, total, address, label_width}

-- the entries of the rows before n, wherever they stand at their numbers
pub record LabelEntry (it : ℕ → Coded) (T : List ℕ) (q a b : ℕ) : Type 0 where
  pub start : get_or T (label_width * total is_label it q) 0 ≡ a
  pub len : get_or T (label_width * total is_label it q + 1) 0 ≡ b
  pub address : get_or T (label_width * total is_label it q + 2) 0 ≡ address it q

abbrev pub HoldsLabels : (ℕ → Coded) → ℕ → List ℕ → Type 0
HoldsLabels it n T = (q a b : ℕ) → q < n → it q ≡ Ok (Label a b) → LabelEntry it T q a b
