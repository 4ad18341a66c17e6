-- The loop of `eight` goes from the last place to the first, and holds what the places from k on say.
use Prim.Native.Nat.{ℕ, ◌+◌, ◌-◌, ◌<◌, ◌≤◌}
use mathlib.Core.List.{List, [], ◌∷◌, ◌++◌}
use mathlib.Core.Path.{◌≡◌, refl, ◌∙◌}
use native.Mathlib.Omega.{arith}
use native.Mathlib.Nat.{le_of_suc-le-suc, not-suc-le-zero}
use native.Mathlib.Numerals.{add-one}
use lib.ListN.{length, get_or, take, drop, length-drop, take-append-drop}
use lib.Seq.{drop-cons, get_or-drop, drop-length, drop-drop, length-take-le}
use Rattle.bounds.specs.Checks.{Places, said, place}

abbrev pub tail_places : List ℕ → List ℕ → Places → ℕ → Places
tail_places bounds row rest k = said (drop k bounds) (drop k row) rest

drop-end : (l : List ℕ) (n : ℕ) → length l ≡ n → drop n l ≡ []
drop-end l n e = rw (← e) (drop-length l)

pub tail-last : (bounds row : List ℕ) (rest : Places) → length bounds ≡ 8 → rest ≡ tail_places bounds row rest 8
unfolding said
tail-last bounds row rest n = rw (drop-end bounds 8 n)

tail_step :
    (bounds row : List ℕ) (rest : Places) (k : ℕ) → k < length bounds → k < length row →
    place (get_or bounds k 0) (get_or row k 0) (tail_places bounds row rest (k + 1)) ≡ tail_places bounds row rest k
unfolding said
tail_step bounds row rest k hb hr = rw (drop-cons bounds k 0 hb, drop-cons row k 0 hr, add-one)

-- one turn of the loop, from k to k - 1
pub again :
    (bounds row : List ℕ) (rest : Places) (from k : ℕ) → length bounds ≡ 8 → 0 < k → k ≤ 8 → from + 8 ≤ length row → (found r : Places) →
    found ≡ tail_places bounds (drop from row) rest k → r ≡ place (get_or bounds (k - 1) 0) (get_or row (from + (k - 1)) 0) found →
    r ≡ tail_places bounds (drop from row) rest (k - 1)
again bounds row rest from k n h0 h8 hl found r ef er =
    let ek : k - 1 + 1 ≡ k = omega arith in
    let hr : k - 1 < length (drop from row) = simp length-drop (omega arith) in
    let hb : k - 1 < length bounds = omega arith in
    er ∙ rw (ef, ← get_or-drop from row (k - 1) 0) (rw ek at (tail_step bounds (drop from row) rest (k - 1) hb hr))

-- the places with the bounds bs, before those with the bounds cs
said-append : (bs cs vs : List ℕ) (rest : Places) → length bs ≤ length vs → said (bs ++ cs) vs rest ≡ said bs vs (said cs (drop (length bs) vs) rest)
unfolding said
said-append [] cs vs rest h = refl
said-append (b ∷ bs) cs [] rest h = absurd (not-suc-le-zero h)
said-append (b ∷ bs) cs (v ∷ vs) rest h = rw (said-append bs cs vs rest (le_of_suc-le-suc h))

-- the first eight places, before the last eight
pub first-last :
    (bounds row : List ℕ) (rest : Places) → 8 ≤ length bounds → length row ≡ 17 →
    said bounds (drop 1 row) rest ≡ said (take 8 bounds) (drop 1 row) (said (drop 8 bounds) (drop 9 row) rest)
first-last bounds row rest hb hr =
    let n : length (take 8 bounds) ≡ 8 = length-take-le 8 bounds hb in
    let l : length (take 8 bounds) ≤ length (drop 1 row) = simp (n, length-drop) (omega arith) in
    let e : said (take 8 bounds ++ drop 8 bounds) (drop 1 row) rest ≡ said (take 8 bounds) (drop 1 row) (said (drop 8 bounds) (drop (length (take 8 bounds)) (drop 1 row)) rest) = said-append (take 8 bounds) (drop 8 bounds) (drop 1 row) rest l in
    rw (take-append-drop, n, drop-drop) at e
