-- Looking back over the items: which label has a name, which loop is open, which instruction is the last.
use Rattle.std.specs.Prelude.{Bool, true, false, cond, ◌&&◌, List, [], ℕ, zero, suc, ◌+◌, max, length, get_or, take, drop, ltb, leb, eqb}
use Rattle.coded.specs.Coded.{Coded}
use Rattle.places.specs.Items.{Kernel, about, is_end, is_short, address, entries, nest}

-- f of the latest index before i that passes the test; the other if none does
abbrev pub latest : {A : Type 0} → (ℕ → Bool) → (ℕ → A) → A → ℕ → A
latest t f other zero = other
latest t f other (suc i) = cond (t i) (f i) (latest t f other i)

-- a row, or none
pub data Found : Type 0 where
  at : ℕ → Found
  nothing : Found

abbrev pub is_found : Found → Bool
is_found (at row) = true
is_found nothing = false

-- the latest, and the first index before n that passes the test
abbrev pub newest : (ℕ → Bool) → ℕ → Found
newest t n = latest t at nothing n

abbrev pub earliest : (ℕ → Bool) → ℕ → Found
earliest t zero = nothing
earliest t (suc i) = cond (is_found (earliest t i)) (earliest t i) (cond (t i) (at i) nothing)

-- "the last 11 instructions (all, if fewer)": `LOOP_TAIL`
abbrev pub loop_tail : ℕ
loop_tail = 11

module _ (it : ℕ → Coded) where
  -- the address of the last instruction before i
  abbrev pub last_at : ℕ → ℕ
  last_at i = latest (λ k. eqb (about (it k)).entry 1) (λ k. address it k) 0 i

  -- the start of the innermost loop that is open before i: the latest start one level up
  abbrev pub opener : ℕ → ℕ
  opener i = latest (λ k. eqb (about (it k)).opens 1 && eqb (nest it k + 1) (nest it i)) (λ k. k) 0 i

  -- the end before n of the loop that starts at i
  abbrev pub closer : ℕ → ℕ → Found
  closer n i = newest (λ e. is_end (it e) && eqb (opener e) i) n

  -- an earlier loop end on the same instruction as the end i: as many instructions stand before it
  abbrev pub sharer : ℕ → Found
  sharer i = newest (λ k. is_end (it k) && eqb (entries it k) (entries it i)) i

  -- the instruction k is one of the last 11 of the body of the end i: from it at most 11 stand up to the end, itself counted
  abbrev pub is_in_tail : ℕ → ℕ → Bool
  is_in_tail i k = ltb (opener i) k && leb (entries it i) (entries it k + loop_tail)

  -- the latest of them that does not take three parcels
  abbrev pub short_one : ℕ → Found
  short_one i = newest (λ k. is_short (it k) && is_in_tail i k) i

  -- the deepest nesting of the first i items
  abbrev pub deepest : ℕ → ℕ
  deepest zero = 0
  deepest (suc i) = max (deepest i) (nest it (suc i))

-- Names: "ranges of one lent byte slice, any bytes, possibly empty, equal when the bytes are".
-- the n bytes of the names at a and at b are the same
abbrev pub same_from : List ℕ → ℕ → ℕ → ℕ → Bool
same_from names zero a b = true
same_from names (suc n) a b = eqb (get_or names a 0) (get_or names b 0) && same_from names n (suc a) (suc b)

-- a label has the name at a of length b
abbrev pub bears : List ℕ → ℕ → ℕ → Coded → Bool
bears names a b x = eqb (about x).label 1 && (eqb (about x).len b && same_from names b (about x).start a)

-- the row of the label before i that has the name at a of length b
abbrev pub labelled : Kernel → ℕ → ℕ → ℕ → Found
labelled k a b i = earliest (λ q. bears k.names a b (k.it q)) i

-- a range of the names, empty if it lies outside them
abbrev pub part : List ℕ → ℕ → ℕ → List ℕ
part names start len = cond (leb (start + len) (length names)) (take len (drop start names)) []
