-- An instrument of the build's proof: the label table searched by name, and the front of a table wiped.
use Rattle.std.specs.Prelude.{Bool, true, false, ◌&&◌, List, ◌++◌, ℕ, ◌+◌, ◌*◌, ◌≤◌, ◌<◌, length, get_or, drop, replicate, eqb, Some, None, Option}
use Rattle.coded.specs.Fine.{CodedFine}
use Rattle.places.specs.Items.{Kernel, label_width}
use Rattle.places.specs.Looking.{latest, same_from}

-- label entry k of the table has the name at start of length len
abbrev pub entry_is : List ℕ → List ℕ → ℕ → ℕ → ℕ → Bool
entry_is ns ls start len k = eqb (get_or ls (label_width * k + 1) 0) len && same_from ns len (get_or ls (label_width * k) 0) start

-- the address of the newest of n entries that has the name
abbrev pub lookup : List ℕ → List ℕ → ℕ → ℕ → ℕ → Option ℕ
lookup ns ls start len n = latest (entry_is ns ls start len) (λ k. Some (get_or ls (label_width * k + 2) 0)) None n

abbrev pub is_there : Option ℕ → Bool
is_there (Some p) = true
is_there None = false

-- the first n entries name ranges of the names
abbrev pub Entries : List ℕ → List ℕ → ℕ → Type 0
Entries ns ls n = (k : ℕ) → k < n → get_or ls (label_width * k) 0 + get_or ls (label_width * k + 1) 0 ≤ length ns

-- what every row of a kernel comes to is fine over its names
abbrev pub KernelFine : Kernel → Type 0
KernelFine k = (i : ℕ) → CodedFine (length k.names) (k.it i)

-- zero in the first n places of a table, and in the first n of a table of numbers
abbrev pub wiped : {X : Type 0} → X → ℕ → List X → List X
wiped x n l = replicate n x ++ drop n l

abbrev pub zeroed : ℕ → List ℕ → List ℕ
zeroed = wiped 0
