-- Lists after a run of stores, and lists gathered from parts: a store at a seam replaces what stands there and nothing else.
use mathlib.Core.Path.{◌≡◌, refl, sym, ap, ap₂, ◌∙◌, subst}
use mathlib.Core.Logic.{◌≢◌, ⊎_elim}
use mathlib.Core.List.{List, [], ◌∷◌, ◌++◌, append_assoc}
use Prim.Native.Nat.{ℕ, zero, suc, ◌+◌, ◌-◌, ◌≤◌, ◌<◌}
use native.Mathlib.Omega.{arith}
use native.Mathlib.Nat.{eq-or-lt_of_le}
use lib.ListN.{length, get_or, set, take, drop, length-append, length-drop, get_or-append}
use lib.Seq.{sets, sets-eq, length-take-le, get_or-append-add, get_or-set_other, take_at, drop_at, drop-append-add, drop-drop}
use Rattle.places.specs.Left.{gather}
use Rattle.prefixes.proofs.Gathered.{gather_split}

-- ---- a run of stores, read back
pub get_d_sets_below : (vs l : List ℕ) (i j : ℕ) → j < i → get_or (sets l i vs) j 0 ≡ get_or l j 0
get_d_sets_below [] l i j h = refl
get_d_sets_below (a ∷ vs) l i j h = get_d_sets_below vs (set l i a) (suc i) j (omega arith) ∙ get_or-set_other l i j a 0 (let n : j ≢ i = omega arith in n)

pub get_d_sets_in : (vs l : List ℕ) (i k : ℕ) → i + length vs ≤ length l → k < length vs → get_or (sets l i vs) (i + k) 0 ≡ get_or vs k 0
get_d_sets_in vs l i k room h =
    let t : length (take i l) ≡ i = length-take-le i l (omega arith) in
    ap (λ (y : List ℕ). get_or y (i + k) 0) (sets-eq vs l i room ∙ append_assoc (take i l) vs (drop (i + length vs) l))
    ∙ ap (λ (y : ℕ). get_or (take i l ++ (vs ++ drop (i + length vs) l)) (y + k) 0) (sym t)
    ∙ get_or-append-add (take i l) (vs ++ drop (i + length vs) l) k 0
    ∙ get_or-append vs (drop (i + length vs) l) 0 k h

-- ---- stores at a seam
pub sets_at : (A vs R : List ℕ) (a : ℕ) → length A ≡ a → length vs ≤ length R → sets (A ++ R) a vs ≡ (A ++ vs) ++ drop (length vs) R
sets_at A vs R a e h =
    let n : length (A ++ R) ≡ a + length R = length-append A R ∙ ap (λ (y : ℕ). y + length R) e in
    sets-eq vs (A ++ R) a (omega arith)
    ∙ ap₂ (λ (x y : List ℕ). (x ++ vs) ++ y) (take_at A R a e) (ap (λ (y : ℕ). drop (y + length vs) (A ++ R)) (sym e) ∙ drop-append-add A R (length vs))

-- ---- parts gathered
pub gather_eq : (f g : ℕ → List ℕ) (i : ℕ) → ((q : ℕ) → q < i → f q ≡ g q) → gather f i ≡ gather g i
gather_eq f g zero h = refl
gather_eq f g (suc i) h = ap₂ ◌++◌ (gather_eq f g i (λ q u. h q (omega arith))) (h i (omega arith))

pub gather-length : (f : ℕ → List ℕ) (T : ℕ → ℕ) → T 0 ≡ 0 → ((i : ℕ) → T (suc i) ≡ T i + length (f i)) → (i : ℕ) → length (gather f i) ≡ T i
gather-length f T z s zero = sym z
gather-length f T z s (suc i) = let r = gather-length f T z s i in let q = s i in length-append (gather f i) (f i) ∙ (let w : length (gather f i) + length (f i) ≡ T (suc i) = omega arith in w)

pub gather-at : (f : ℕ → List ℕ) (rest : List ℕ) (n i c : ℕ) → i < n → c < length (f i) → get_or (gather f n ++ rest) (length (gather f i) + c) 0 ≡ get_or (f i) c 0
gather-at f rest n i c h u = let s = gather_split f i n h in rw (s.1, append_assoc, append_assoc, get_or-append-add, get_or-append)

-- part b set anew
pub gather_patch : (f g : ℕ → List ℕ) (rest : List ℕ) (n b a : ℕ) → b < n → length (gather f b) ≡ a → length (g b) ≡ length (f b) → ((q : ℕ) → q < n → q ≢ b → f q ≡ g q)
    → sets (gather f n ++ rest) a (g b) ≡ gather g n ++ rest
gather_patch f g rest zero b a h e s o = absurd (omega arith)
gather_patch f g rest (suc n) b a h e s o =
    ap (λ (y : List ℕ). sets y a (g b)) (append_assoc (gather f n) (f n) rest)
    ∙ ⊎_elim
    (λ z. subst (λ (y : ℕ). ((q : ℕ) → q < suc y → q ≢ b → f q ≡ g q) → sets (gather f y ++ (f y ++ rest)) a (g b) ≡ gather g (suc y) ++ rest) z here o)
    (λ lt.
    gather_patch f g (f n ++ rest) n b a lt e s (λ q u. o q (omega arith))
    ∙ ap (λ (y : List ℕ). gather g n ++ (y ++ rest)) (o n (omega arith) (let w : n ≢ b = omega arith in w))
    ∙ sym (append_assoc (gather g n) (g n) rest))
    (eq-or-lt_of_le (let w : b ≤ n = omega arith in w))
  where
    here : ((q : ℕ) → q < suc b → q ≢ b → f q ≡ g q) → sets (gather f b ++ (f b ++ rest)) a (g b) ≡ gather g (suc b) ++ rest
    here o =
        let n : length (f b ++ rest) ≡ length (f b) + length rest = length-append (f b) rest in
        sets_at (gather f b) (g b) (f b ++ rest) a e (omega arith)
        ∙ ap₂ (λ (x y : List ℕ). (x ++ g b) ++ y) (gather_eq f g b (λ q u. o q (omega arith) (let w : q ≢ b = omega arith in w))) (drop_at (f b) rest (length (g b)) (sym s))

-- a table X to which each row adds its part: the first i parts, and after them what was lent
module _ (X f : ℕ → List ℕ) (T : ℕ → ℕ) (z : T 0 ≡ 0) (s : (i : ℕ) → T (suc i) ≡ T i + length (f i)) (w : (i : ℕ) → X (suc i) ≡ sets (X i) (T i) (f i)) where
  pub table_is : (i : ℕ) → T i ≤ length (X 0) → X i ≡ gather f i ++ drop (T i) (X 0)
  table_is zero room = ap (λ (y : ℕ). drop y (X 0)) (sym z)
  table_is (suc i) room =
      let q = s i in
      let n : length (drop (T i) (X 0)) ≡ length (X 0) - T i = length-drop (T i) (X 0) in
      w i ∙ ap (λ (y : List ℕ). sets y (T i) (f i)) (table_is i (omega arith))
      ∙ sets_at (gather f i) (f i) (drop (T i) (X 0)) (T i) (gather-length f T z s i) (omega arith)
      ∙ ap (λ (y : List ℕ). (gather f i ++ f i) ++ y) (drop-drop (length (f i)) (T i) (X 0) ∙ ap (λ (y : ℕ). drop y (X 0)) (sym q))

  -- number c of part i
  pub table_at : (n i c : ℕ) {vs : List ℕ} → T n ≤ length (X 0) → i < n → f i ≡ vs → c < length vs → get_or (X n) (T i + c) 0 ≡ get_or vs c 0
  table_at n i c {vs} room h e u =
      ap (λ (y : List ℕ). get_or y (T i + c) 0) (table_is n room)
      ∙ ap (λ (y : ℕ). get_or (gather f n ++ drop (T n) (X 0)) (y + c) 0) (sym (gather-length f T z s i))
      ∙ gather-at f (drop (T n) (X 0)) n i c h (subst (λ (y : List ℕ). c < length y) (sym e) u)
      ∙ ap (λ (y : List ℕ). get_or y c 0) e
