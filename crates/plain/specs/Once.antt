-- "the second writes each parcel once": said of the second walk's own definition.
use Rattle.std.specs.Prelude.{List, [], ◌∷◌, ℕ, zero, suc, length}
use Rattle.std.proofs.lemmas.List.Edits.{sets}
use Rattle.places.specs.Items.{Kernel, place}
use Rattle.places.specs.Left.{left, gather}

-- what the second walk writes for row i: these words, from this place on
pub record Put : Type 0 where
  pub at : ℕ
  pub words : List ℕ

abbrev pub puts : Kernel → ℕ → Put
puts k i = record { at = place k.it i; words = (left k i (k.it i)).parcels }

abbrev pub written : Kernel → ℕ → List ℕ → List ℕ
written k i ps = sets ps (puts k i).at (puts k i).words

-- a, a + 1, .., a + n - 1
abbrev pub from : ℕ → ℕ → List ℕ
from a zero = []
from a (suc n) = a ∷ from (suc a) n

-- the places that it writes for the first i rows, in the order in which it writes them
abbrev pub writes : Kernel → ℕ → List ℕ
writes k i = gather (λ q. from (puts k q).at (length (puts k q).words)) i
