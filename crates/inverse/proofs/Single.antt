-- Of all that stands at the front of parcels there is one: no second row, and no other number of parcels.
use Prim.Native.Nat.{ℕ, ◌≤◌, ◌<◌}
use native.Mathlib.Omega.{arith}
use mathlib.Core.Path.{◌≡◌, refl, sym, ap, ap₂, subst, ◌∙◌}
use mathlib.Core.Logic.{◌⊎◌, inl, inr, ⊎_elim}
use mathlib.Core.Bool.{Bool, true, false, ◌&&◌, ◌||◌}
use mathlib.Core.List.{List, [], ◌∷◌, ◌++◌}
use lib.Dec.{leb, lit≤}
use lib.ListN.{length, take, drop, take-append-drop, length-take}
use lib.Seq.{length-take-le, take-take}
use borrow.Author.Tests.{leb-true}
use lib.IntN.{pos}
use Rattle.bounds.specs.Tables.{at}
use Rattle.encode.specs.Encoding.{loop_form}
use Rattle.rows.specs.Fields.{count_of, mode_of}
use Rattle.std.specs.Prelude.{Some}
use Rattle.known.specs.Front.{EncodesTo, StartsLoop, Reading, Front, instruction, loop_start, neither, Parcels}
use Rattle.known.specs.Front as front
use Rattle.known.specs.Twins.{Twin}
use Rattle.known.specs.Twins as twins
use Rattle.known.specs.Table.{known}
use Rattle.known.specs.Window.{starts_leaf, known_at}
use Rattle.fields.proofs.Matching.{is_false}
use Rattle.known.proofs.Leaf.{leaf-taken}
use Rattle.known.proofs.Starts.{loop-moved}
use Rattle.back.proofs.Larger.{larger_row, larger_encodes}
use Rattle.back.proofs.Returning.{row-known, only-twins}
use Rattle.back.proofs.Looping.{loop-known}
use Rattle.inverse.proofs.Small.{form-parcels, parcels-drop}
use Rattle.inverse.proofs.Sorted.{not_fifty}
use Rattle.inverse.proofs.Fronts.{leaf_parcels, leaf_row, same_known}
use Rattle.inverse.proofs.Leaf.{three-two}

-- ---- a twin has the larger kind
compute-small : (k : ℕ) (a b c : Bool) → leb k 8 ≡ a → leb 25 k ≡ b → leb k 27 ≡ c → (a || b && c) ≡ true → k < 32
compute-small k true b c x y z e = let u = leb-true k 8 x in omega (arith, u)
compute-small k false true true x y z e = let u = leb-true k 27 z in omega (arith, u)
compute-small k false true false x y z e = let w : ◌≡◌ {A = ℕ} 0 1 = cc in absurd (omega arith)
compute-small k false false c x y z e = let w : ◌≡◌ {A = ℕ} 0 1 = cc in absurd (omega arith)

twin_larger : (r s : List ℕ) → Twin r s → at r 0 < at s 0
twin_larger r s (twins.load a b) = omega arith
twin_larger r s (twins.push v) = omega arith
twin_larger r s (twins.compute k a b c e) = compute-small k (leb k 8) (leb 25 k) (leb k 27) refl refl refl e

-- ---- two instructions of the larger kind
same_row : (ps r s : List ℕ) → EncodesTo ps r → EncodesTo ps s → at s 0 ≤ at r 0 → at r 0 ≤ at s 0 → r ≡ s
same_row ps r s x y h g =
    ⊎_elim (λ e. e) (λ t. absurd (⊎_elim (λ (u : Twin r s). let w = twin_larger r s u in omega (arith, w, h)) (λ (u : Twin s r). let w = twin_larger s r u in omega (arith, w, g)) t))
    (only-twins ps r s x y)

-- ---- a loop start's three parcels are parcels, and are all of it
module _ (ps row : List ℕ) (s : StartsLoop ps row) where
  three : length (take 3 ps) ≡ 3
  three = length-take-le 3 ps s.within

  own : Parcels (take 3 ps)
  own = subst Parcels s.same (form-parcels (loop_form (count_of s.choice s.count) (mode_of s.mode) (pos s.offset)))

  alone : StartsLoop (take 3 ps) row
  alone = loop-moved ps (take 3 ps) row (omega (arith, three)) (sym (take-take 3 3 ps (lit≤ tt))) s

  loop-alone : known_at (take 3 ps) ≡ Some (known 3 row)
  loop-alone = loop-known (take 3 ps) row own alone

  not_leaf : starts_leaf (take 3 ps) ≡ false
  not_leaf =
      is_false (starts_leaf (take 3 ps))
      (λ l.
      let q = ap length (leaf-taken (take 3 ps) l) in
      let w = length-take 6 (take 3 ps) in
      omega (arith, q, w, three))

  -- no instruction's parcels start so
  no-instruction : (n : ℕ) (other : List ℕ) → n ≤ length ps → EncodesTo (take n ps) other → ⊥
  no-instruction n other h e = go (row-known other (take n ps) e)
    where
      long : length (take n ps) ≡ n
      long = length-take-le n ps h

      short : n ≤ 3 → ((rest : List ℕ) → Parcels rest → starts_leaf (take n ps ++ rest) ≡ false → known_at (take n ps ++ rest) ≡ Some (known (length (take n ps)) (larger_row other))) → ⊥
      short few f =
          let j : take n ps ++ drop n (take 3 ps) ≡ take 3 ps = ap (λ (l : List ℕ). l ++ drop n (take 3 ps)) (sym (take-take n 3 ps few)) ∙ take-append-drop n (take 3 ps) in
          let k = f (drop n (take 3 ps)) (parcels-drop n (take 3 ps) own) (ap starts_leaf j ∙ not_leaf) in
          let r : larger_row other ≡ row = (same_known (sym k ∙ ap known_at j ∙ loop-alone)).1 in
          let x = larger_encodes (take n ps) other e in
          not_fifty (larger_row other) 0 x.instruction x.reads (ap (λ (l : List ℕ). at l 0) r ∙ ap (λ (l : List ℕ). at l 0) s.numbers)

      go :
          ((length (take n ps) ≤ 3) × ((rest : List ℕ) → Parcels rest → starts_leaf (take n ps ++ rest) ≡ false → known_at (take n ps ++ rest) ≡ Some (known (length (take n ps)) (larger_row other))))
          ⊎ ((take n ps ≡ leaf_parcels) × (other ≡ leaf_row)) → ⊥
      go (inl x) = short (let y = x.0 in omega (arith, y, long)) x.1
      go (inr y) =
          let six : n ≡ 6 = sym long ∙ ap length y.0 in
          let q : take 3 ps ≡ 0x4dfe ∷ 0x0e3f ∷ 0x083f ∷ [] = sym (take-take 3 n ps (omega (arith, six))) ∙ ap (take 3) y.0 in
          let k = (same_known (sym three-two ∙ ap known_at (sym q) ∙ loop-alone)).0 in
          omega (arith, k)

-- THE THEOREM: one reading
pub front-single : (ps : List ℕ) (r s : Reading) → Front ps r → Front ps s → r ≡ s
front-single ps r s (instruction {n = n} {row = row} x) (instruction {n = m} {row = other} y) =
    let e : m ≡ n = (let u = x.longest m other y.within y.encodes in let v = y.longest n row x.within x.encodes in omega (arith, u, v)) in
    let z : EncodesTo (take n ps) other = subst (λ (i : ℕ). EncodesTo (take i ps) other) e y.encodes in
    let w : EncodesTo (take m ps) row = subst (λ (i : ℕ). EncodesTo (take i ps) row) (sym e) x.encodes in
    ap₂ front.known (sym e) (same_row (take n ps) row other x.encodes z (x.largest other z) (y.largest row w))
front-single ps r s (instruction {n = n} {row = row} x) (loop_start {row = other} y) = absurd (no-instruction ps other y n row x.within x.encodes)
front-single ps r s (instruction {n = n} {row = row} x) (neither f g) = absurd (f n row x.within x.encodes)
front-single ps r s (loop_start {row = row} x) (instruction {n = n} {row = other} y) = absurd (no-instruction ps row x n other y.within y.encodes)
front-single ps r s (loop_start {row = row} x) (loop_start {row = other} y) = ap (front.known 3) (same_known (sym (loop-alone ps row x) ∙ loop-alone ps other y)).1
front-single ps r s (loop_start {row = row} x) (neither f g) = absurd (g row x)
front-single ps r s (neither f g) (instruction {n = n} {row = row} x) = absurd (f n row x.within x.encodes)
front-single ps r s (neither f g) (loop_start {row = row} x) = absurd (g row x)
front-single ps r s (neither f g) (neither h i) = refl
