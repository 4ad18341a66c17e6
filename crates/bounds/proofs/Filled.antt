-- A row's sixteen bounds are its first eight and its last eight: where a line of the table ends, spare places follow.
use Prim.Native.Nat.{ℕ, zero, suc, ◌+◌, ◌≤◌}
use mathlib.Core.List.{List, [], ◌∷◌, ◌++◌}
use mathlib.Core.Path.{◌≡◌, refl, sym, ap, ◌∙◌}
use mathlib.Core.Bool.{Bool, true, false, cond, ◌&&◌}
use native.Mathlib.Omega.{arith}
use native.Mathlib.Nat.{le_of_suc-le-suc, not-suc-le-zero, zero-add, suc-add}
use borrow.Author.Tests.{ne_eqb}
use lib.Dec.{T, eqb, leb, leb→le, lit≤}
use lib.ListN.{length, get_or, take, drop, replicate, length-append, length-take, length-replicate}
use lib.Seq.{take-take, take_at, drop_at, take-nil}
use Rattle.bounds.specs.Tables.{lookup, at}
use Rattle.bounds.specs.Bounds.{spare, never, form, word, code, count, mode, choice, filled, fields, compute, bounds_of}

-- how many spare places follow is all the same, once there are n of them
fill_more : (n p q : ℕ) (l : List ℕ) → n ≤ p → n ≤ q → take n (l ++ replicate p spare) ≡ take n (l ++ replicate q spare)
fill_more zero p q l hp hq = refl
fill_more (suc n) p q (x ∷ l) hp hq = ap (λ (r : List ℕ). x ∷ r) (fill_more n p q l (omega arith) (omega arith))
fill_more (suc n) zero q [] hp hq = absurd (not-suc-le-zero hp)
fill_more (suc n) (suc p) zero [] hp hq = absurd (not-suc-le-zero hq)
fill_more (suc n) (suc p) (suc q) [] hp hq = ap (λ (r : List ℕ). spare ∷ r) (fill_more n p q [] (le_of_suc-le-suc hp) (le_of_suc-le-suc hq))

-- past the end of l all places are spare
spare-past : (n m p : ℕ) (l : List ℕ) → length l ≤ n → n + m ≤ length l + p → take m (drop n (l ++ replicate p spare)) ≡ replicate m spare
spare-past zero m p (x ∷ l) h g = absurd (not-suc-le-zero h)
spare-past zero zero p [] h g = refl
spare-past zero (suc m) zero [] h g = absurd (omega arith)
spare-past zero (suc m) (suc p) [] h g = ap (λ (r : List ℕ). spare ∷ r) (spare-past zero m p [] h (omega arith))
spare-past (suc n) m zero [] h g = absurd (omega arith)
spare-past (suc n) m (suc p) [] h g = spare-past n m p [] (omega arith) (omega arith)
spare-past (suc n) m p (x ∷ l) h g = spare-past n m p l (le_of_suc-le-suc h) (omega arith)

drop-take : (n m : ℕ) (l : List ℕ) → drop n (take (n + m) l) ≡ take m (drop n l)
drop-take zero m l = rw zero-add
drop-take (suc n) m [] = rw suc-add (sym (take-nil m))
drop-take (suc n) m (x ∷ l) = rw suc-add (drop-take n m l)

-- the first eight of a line
pub front-line : (l : List ℕ) → take 8 (filled 16 l) ≡ filled 8 l
front-line l = take-take 8 16 (l ++ replicate 16 spare) (lit≤ tt) ∙ fill_more 8 16 8 l (lit≤ tt) (lit≤ tt)

-- the last eight of a line that ends before
back-line : (l : List ℕ) → length l ≤ 8 → drop 8 (filled 16 l) ≡ replicate 8 spare
back-line l h = drop-take 8 8 (l ++ replicate 16 spare) ∙ spare-past 8 8 16 l h (omega arith)

-- the three field places of a single compute are the first three of its kind's line
pub three_places :
    (l : List ℕ) →
    form ∷ word ∷ get_or (filled 8 l) 0 0 ∷ get_or (filled 8 l) 1 0 ∷ get_or (filled 8 l) 2 0 ∷ spare ∷ spare ∷ spare ∷ [] ≡ filled 8 (form ∷ word ∷ filled 3 l)
three_places [] = refl
three_places (a ∷ []) = refl
three_places (a ∷ b ∷ []) = refl
three_places (a ∷ b ∷ c ∷ l) = refl

-- a compute's eight places, and what follows them
module _ (none : ℕ) (row : List ℕ) where
  length-compute : length (compute none row) ≡ 8
  unfolding compute
  length-compute = simp (length-take, length-append, length-replicate) (omega arith)

  pub front-compute : (tail : List ℕ) → take 8 (take 16 (compute none row ++ tail)) ≡ compute none row
  front-compute tail = take-take 8 16 (compute none row ++ tail) (lit≤ tt) ∙ take_at (compute none row) tail 8 length-compute

  pub back-compute : (l : List ℕ) → drop 8 (take 16 (compute none row ++ (l ++ replicate 16 spare))) ≡ filled 8 l
  back-compute l =
      drop-take 8 8 (compute none row ++ (l ++ replicate 16 spare)) ∙
      rw (drop_at (compute none row) (l ++ replicate 16 spare) 8 length-compute) (fill_more 8 16 8 l (lit≤ tt) (lit≤ tt))

either : (f : List ℕ → Bool) (t : Bool) (a b : List ℕ) → T (f a) → T (f b) → T (f (cond t a b))
either f true a b ha hb = ha
either f false a b ha hb = hb

-- no line of the table has more than eight places: one test over the whole table
abbrev every : (List ℕ → Bool) → List (ℕ × List ℕ) → Bool
every f [] = true
every f (line ∷ lines) = f line.1 && every f lines

both : (a b : Bool) → T (a && b) → T a × T b
both true b t = (tt, t)
both false b t = absurd t

found : (f : List ℕ → Bool) (key : ℕ) (lines : List (ℕ × List ℕ)) (other : List ℕ) → T (every f lines) → T (f other) → T (f (lookup key lines other))
found f key [] other t d = d
found f key (line ∷ lines) other t d =
    let p = both (f line.1) (every f lines) t in
    either f (eqb key line.0) line.1 (lookup key lines other) p.0 (found f key lines other p.1 d)

abbrev short : List ℕ → Bool
short l = leb (length l) 8

fields-short : T (every short fields)
unfolding fields
fields-short = tt

-- so the last eight places of a row are spare, but in kinds 33 and 34
pub back-spare : (row : List ℕ) → (at row 0 ≡ 33 → ⊥) → (at row 0 ≡ 34 → ⊥) → drop 8 (bounds_of row) ≡ replicate 8 spare
unfolding bounds_of
back-spare row h g =
    let l = cond (eqb (at row 0) 32) (compute never row) (cond (eqb (at row 0) 50) (choice ∷ cond (eqb (at row 1) 1) code count ∷ mode ∷ []) (lookup (at row 0) fields (never ∷ []))) in
    let s : length l ≤ 8 = leb→le _ _ (either short (eqb (at row 0) 32) _ _ (rw (length-compute never row) tt) (either short (eqb (at row 0) 50) _ _ tt (found short (at row 0) fields (never ∷ []) fields-short tt))) in
    rw (ne_eqb _ _ h, ne_eqb _ _ g) (back-line l s)

pub length-bounds : (row : List ℕ) → length (bounds_of row) ≡ 16
unfolding bounds_of
length-bounds row = simp (length-take, length-append, length-replicate) (omega arith)
