-- A list without its labels: the rows that are not read as labels, one after the other.
use Rattle.std.specs.Prelude.{cond, List, [], ℕ, ◌*◌, take, drop}
use Rattle.rows.specs.Rows.{row_width}
use Rattle.places.specs.Items.{row_at, row_count}
use Rattle.places.specs.Left.{gather}
use Rattle.slots.specs.Slots.{label}

abbrev pub without_labels : List ℕ → List ℕ → List ℕ
without_labels rows names = gather (λ i. cond (label (row_at rows names i)) [] (take row_width (drop (i * row_width) rows))) (row_count rows)
