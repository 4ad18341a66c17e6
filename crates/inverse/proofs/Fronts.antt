-- THE THEOREMS of the front of parcels: what the reader's table gives is what stands there, and nothing else does.
use Prim.Native.Nat.{ℕ, zero, suc, ◌≤◌, ◌<◌}
use native.Mathlib.Omega.{arith}
use mathlib.Core.Path.{◌≡◌, refl, sym, ap, ap₂, ◌∙◌}
use mathlib.Core.Logic.{◌⊎◌, inl, inr}
use mathlib.Core.Bool.{Bool, true, false}
use mathlib.Core.List.{List, [], ◌∷◌, ◌++◌}
use lib.ListN.{length, take, drop}
use lib.ListN.{take-append-drop}
use lib.Seq.{length-take-le}
use Rattle.fields.specs.Pack.{pack}
use Rattle.fields.specs.Parcels.{cut}
use Rattle.words.specs.Forms.{leaf_return}
use Rattle.encode.proofs.Sizes.{parcels-some}
use Rattle.bounds.specs.Tables.{at}
use Rattle.known.proofs.Leaf.{leaf-taken, leaf_starts}
use Rattle.forth.proofs.Forth.{leaf-encodes, known-starts}
use Rattle.back.proofs.Larger.{larger_row, larger_encodes, larger_kind, larger_same}
use Rattle.back.proofs.Returning.{row-known}
use Rattle.back.proofs.Looping.{loop-known}
use Rattle.inverse.proofs.Small.{parcels-drop}
use Rattle.std.specs.Prelude.{Option, Some, None}
use Rattle.known.specs.declared.Known.{Known}
use Rattle.known.specs.Front.{EncodesTo, StartsWith, StartsLoop, Reading, Front, instruction, loop_start, neither, Parcels}
use Rattle.known.specs.Front as front
use Rattle.known.specs.Table.{known, line}
use Rattle.known.specs.Window.{starts_leaf, known_at, reading_of, reading_at}

abbrev pub leaf_parcels : List ℕ
leaf_parcels = cut 6 (pack leaf_return)

abbrev pub leaf_row : List ℕ
leaf_row = line 31 0 0 0

some : (ps row : List ℕ) (n : ℕ) → n ≤ length ps → EncodesTo (take n ps) row → 0 < n
some ps row n h e =
    let l : length (take n ps) ≡ n = length-take-le n ps h in
    let m = parcels-some e.instruction e.good in
    let k = ap length e.same in
    omega (arith, l, m, k)

-- what stands there has parcels
pub front_some : {ps row : List ℕ} {n : ℕ} → Front ps (front.known n row) → 0 < n
front_some {ps = ps} {row = row} {n = n} (instruction s) = some ps row n s.within s.encodes
front_some (loop_start s) = omega arith

-- ---- an instruction whose parcels stand at the front
data Met (ps : List ℕ) (n : ℕ) (row : List ℕ) : Type 0 where
  met : starts_leaf ps ≡ false → known_at ps ≡ Some (known n (larger_row row)) → Met ps n row
  before-leaf : starts_leaf ps ≡ true → n ≤ 3 → Met ps n row
  is_leaf : starts_leaf ps ≡ true → n ≡ 6 → row ≡ leaf_row → Met ps n row

meet : (ps : List ℕ) → Parcels ps → (n : ℕ) (row : List ℕ) → n ≤ length ps → EncodesTo (take n ps) row → Met ps n row
meet ps p n row h e = go (row-known row (take n ps) e) (starts_leaf ps) refl
  where
    long : length (take n ps) ≡ n
    long = length-take-le n ps h

    go :
        ((length (take n ps) ≤ 3) × ((rest : List ℕ) → Parcels rest → starts_leaf (take n ps ++ rest) ≡ false → known_at (take n ps ++ rest) ≡ Some (known (length (take n ps)) (larger_row row))))
        ⊎ ((take n ps ≡ leaf_parcels) × (row ≡ leaf_row)) → (t : Bool) → starts_leaf ps ≡ t → Met ps n row
    go (inl x) true l = before-leaf l (let y = x.0 in omega (arith, long, y))
    go (inl x) false l =
        let j : take n ps ++ drop n ps ≡ ps = take-append-drop n ps in
        met l
        (ap known_at (sym j) ∙ x.1 (drop n ps) (parcels-drop n ps p) (ap starts_leaf j ∙ l) ∙ ap (λ (m : ℕ). Some (known m (larger_row row))) long)
    go (inr y) t l =
        let six : n ≡ 6 = sym long ∙ ap length y.0 in
        let q : take 6 ps ≡ leaf_parcels = ap (λ (m : ℕ). take m ps) (sym six) ∙ y.0 in
        is_leaf (leaf_starts ps q) six y.1

-- what the six of LeafReturn are known as
leaf-known : (ps : List ℕ) → starts_leaf ps ≡ true → known_at ps ≡ Some (known 6 leaf_row)
unfolding known_at
leaf-known ps l = rw l

six-long : (ps : List ℕ) → starts_leaf ps ≡ true → (6 ≤ length ps) × EncodesTo (take 6 ps) leaf_row
six-long ps l =
    let q : take 6 ps ≡ leaf_parcels = leaf-taken ps l in
    (at_least ps q, rw q leaf-encodes)
  where
    at_least : (xs : List ℕ) → take 6 xs ≡ leaf_parcels → 6 ≤ length xs
    at_least xs q = let k : length (take 6 xs) ≡ 6 = ap length q in short 6 xs k
      where
        short : (m : ℕ) (ys : List ℕ) → length (take m ys) ≡ m → m ≤ length ys
        short zero ys e = omega arith
        short (suc m) [] e = omega (arith, e)
        short (suc m) (y ∷ ys) e = let r = short m ys (omega (arith, e)) in omega (arith, r)

pub same_known : {n m : ℕ} {r s : List ℕ} → Some (known n r) ≡ Some (known m s) → (n ≡ m) × (r ≡ s)
same_known {n = n} {m = m} {r = r} {s = s} e = let k : known n r ≡ known m s = cc in (ap (λ (k : Known). k.parcels) k, ap (λ (k : Known). k.row) k)

-- ---- THE THEOREM: what is known stands there
module _ (ps : List ℕ) (p : Parcels ps) where
  starts : (n : ℕ) (row : List ℕ) → known_at ps ≡ Some (known n row) → n ≤ length ps → EncodesTo (take n ps) row → StartsWith ps n row
  starts n row k h e = record {
    within = h;
    encodes = e;
    longest = λ m other g f. longest m other (meet ps p m other g f);
    largest = λ other f. largest other f (meet ps p n other h f);
  }
    where
      longest : (m : ℕ) (other : List ℕ) → Met ps m other → m ≤ n
      longest m other (met l q) = let x = same_known (sym q ∙ k) in omega (arith, x.0)
      longest m other (before-leaf l few) = let x = same_known (sym (leaf-known ps l) ∙ k) in omega (arith, x.0, few)
      longest m other (is_leaf l six r) = let x = same_known (sym (leaf-known ps l) ∙ k) in omega (arith, x.0, six)

      largest : (other : List ℕ) → EncodesTo (take n ps) other → Met ps n other → at other 0 ≤ at row 0
      largest other f (met l q) =
          let x : at (larger_row other) 0 ≡ at row 0 = ap (λ (r : List ℕ). at r 0) (same_known (sym q ∙ k)).1 in
          let y = larger_kind (take n ps) other f in
          omega (arith, x, y)
      largest other f (before-leaf l few) = let x = same_known (sym (leaf-known ps l) ∙ k) in absurd (omega (arith, x.0, few))
      largest other f (is_leaf l six r) =
          let x : at leaf_row 0 ≡ at row 0 = ap (λ (r : List ℕ). at r 0) (same_known (sym (leaf-known ps l) ∙ k)).1 in
          let y : at other 0 ≡ at leaf_row 0 = ap (λ (r : List ℕ). at r 0) r in
          omega (arith, x, y)

  -- where nothing is known, no instruction and no loop start stands there
  none-stands : known_at ps ≡ None → (n : ℕ) (other : List ℕ) → n ≤ length ps → EncodesTo (take n ps) other → ⊥
  none-stands k n other h e = go (meet ps p n other h e)
    where
      one : {m : ℕ} {r : List ℕ} → known_at ps ≡ Some (known m r) → ⊥
      one q = let z : ◌≡◌ {A = ℕ} 0 1 = cc in omega (arith, z)

      go : Met ps n other → ⊥
      go (met l q) = one q
      go (before-leaf l few) = one (leaf-known ps l)
      go (is_leaf l six r) = one (leaf-known ps l)

  no_loop : known_at ps ≡ None → (other : List ℕ) → StartsLoop ps other → ⊥
  no_loop k other s = let q = loop-known ps other p s in let z : ◌≡◌ {A = ℕ} 0 1 = cc in omega (arith, z)

  pub front-is : Front ps (reading_at ps)
  front-is = go (known_at ps) refl
    where
      stands : (n : ℕ) (row : List ℕ) → known_at ps ≡ Some (known n row) → Front ps (front.known n row)
      stands n row k = of (known-starts ps p n row k)
        where
          of : (n ≤ length ps) × (EncodesTo (take n ps) row ⊎ ((n ≡ 3) × StartsLoop ps row)) → Front ps (front.known n row)
          of (w, inl e) = instruction (starts n row k w e)
          of (w, inr l) = rw l.0 (loop_start l.1)

      go : (o : Option Known) → known_at ps ≡ o → Front ps (reading_of o)
      go None k = neither (none-stands k) (no_loop k)
      go (Some x) k = stands x.parcels x.row k

  -- and nothing else does
  pub front-only : (r : Reading) → Front ps r → r ≡ reading_at ps
  front-only r (instruction {n = n} {row = row} s) = go (meet ps p n row s.within s.encodes)
    where
      is : known_at ps ≡ Some (known n row) → front.known n row ≡ reading_at ps
      is k = ap reading_of (sym k)

      go : Met ps n row → front.known n row ≡ reading_at ps
      go (met l q) =
          let y = larger_same (take n ps) row s.encodes (s.largest (larger_row row) (larger_encodes (take n ps) row s.encodes)) in
          is (q ∙ ap (λ (r : List ℕ). Some (known n r)) y)
      go (before-leaf l few) =
          let x = six-long ps l in
          let y = s.longest 6 leaf_row x.0 x.1 in
          absurd (omega (arith, y, few))
      go (is_leaf l six r) = is (leaf-known ps l ∙ ap₂ (λ (n : ℕ) (r : List ℕ). Some (known n r)) (sym six) (sym r))
  front-only r (loop_start {row = row} s) = ap reading_of (sym (loop-known ps row p s))
  front-only r (neither f g) = go (known_at ps) refl
    where
      no : (n : ℕ) (row : List ℕ) → (n ≤ length ps) × (EncodesTo (take n ps) row ⊎ ((n ≡ 3) × StartsLoop ps row)) → ⊥
      no n row (w, inl e) = f n row w e
      no n row (w, inr l) = g row l.1

      go : (o : Option Known) → known_at ps ≡ o → front.unknown ≡ reading_of o
      go None k = refl
      go (Some x) k = absurd (no x.parcels x.row (known-starts ps p x.parcels x.row k))
