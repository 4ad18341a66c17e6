-- The parcels of an accepted kernel, from the last item back: whatever stands from item i on is read as the rows of the items from i on.
use Prim.Native.Nat.{ℕ, zero, suc, ◌+◌, ◌-◌, ◌*◌, ◌≤◌, ◌<◌}
use native.Mathlib.Omega.{arith}
use mathlib.Core.Path.{◌≡◌, refl, sym, ap, ap₂, ◌∙◌, subst}
use native.Mathlib.Nat.{eq-or-lt_of_le}
use mathlib.Core.Logic.{⊎_elim}
use mathlib.Core.List.{List, [], ◌∷◌, ◌++◌}
use lib.ListN.{length, take, drop, length-append, drop_of_length-le}
use lib.Seq.{take-append_seam, drop-append_seam, drop-drop, drop-append-add}
use Rattle.std.specs.Prelude.{Ok, Err}
use Rattle.refusals.specs.Answers.{Verdict}
use Rattle.coded.specs.Coded.{Coded}
use Rattle.bounds.specs.Tables.{at}
use Rattle.rows.specs.Rows.{row_width}
use Rattle.items.specs.declared.Item.TheVariants.{Instruction, Label, Jump, LoopBegin, LoopEnd}
use Rattle.places.specs.Items.{Kernel, row_at, row_count, kernel_of, size, is_entry, place, entries}
use Rattle.places.specs.Left.{left, gather}
use Rattle.places.proofs.Emitted.{emits, place-emitted}
use Rattle.prefixes.proofs.Gathered.{gather_split}
use Rattle.prefixes.proofs.Totals.{total-up}
use Rattle.known.specs.Front.{Front, Parcels}
use Rattle.known.specs.Front as front
use Rattle.known.specs.Window.{reading_at}
use Rattle.reading.specs.Back.{Goes, ended, strange, full, next}
use Rattle.returned.specs.Returned.{row, ComesBack}
use Rattle.forth.proofs.LeafAlone.{third-unknown}
use Rattle.inverse.proofs.Fronts.{front-only}
use Rattle.returned.proofs.Stands.{Stands}

-- ---- one row more, and what follows it
goes-next :
    (room place done n : ℕ) (ps row rows places : List ℕ) (v : Verdict) → 1 ≤ length ps → Front ps (front.known n row) → done < room →
    Goes room (place + n) (suc done) (drop n ps) rows places v → Goes room place done ps (row ++ rows) (place ∷ places) v
goes-next room place done n [] row rows places v h f d g = absurd (omega (arith, h))
goes-next room place done n (p ∷ ps) row rows places v h f d g = next f d g

-- ---- a row and the rows after it, a place and the places after it
next_row : (r rs : List ℕ) (m : ℕ) → length r ≡ row_width → row (r ++ rs) (suc m) ≡ row rs m
next_row r rs m e =
    ap (take row_width) (ap (λ (k : ℕ). drop k (r ++ rs)) (let z : suc m * row_width ≡ length r + m * row_width = omega (arith, e) in z) ∙ drop-append-add r rs (m * row_width))

this_row : (r rs : List ℕ) → length r ≡ row_width → row (r ++ rs) 0 ≡ r
this_row r rs e = ap (λ (k : ℕ). take k (r ++ rs)) (sym e) ∙ take-append_seam r rs

-- what is read starts not as LeafReturn's third parcel
not_third : (room place done : ℕ) (ps rs ls : List ℕ) (v : Verdict) → v ≡ Ok tt → Goes room place done ps rs ls v → Parcels ps → (more : List ℕ) → ps ≡ 0x083f ∷ more → ⊥
not_third room place done ps rs ls v g ended p more e = let z : ◌≡◌ {A = ℕ} 0 1 = cc in omega arith
not_third room place done ps rs ls v g (strange f) p more e = let z : ◌≡◌ {A = ℕ} 0 1 = cc in omega arith
not_third room place done ps rs ls v g (full f d) p more e = let z : ◌≡◌ {A = ℕ} 0 1 = cc in omega arith
not_third room place done (q ∷ qs) rs ls v g (next {n = m} {row = r} f d h) p more e =
    let x : front.known m r ≡ front.unknown =
    front-only (q ∷ qs) p (front.known m r) f ∙ ap reading_at e ∙ third-unknown more (λ (i : ℕ). subst Parcels e p (suc i)) in
    let z : ◌≡◌ {A = ℕ} 0 1 = cc in omega arith

module _ (rows names : List ℕ) (stand :
    (i : ℕ) (rest : List ℕ) → i < row_count rows → is_entry (row_at rows names i) ≡ 1 → Parcels ((left (kernel_of rows names) i (row_at rows names i)).parcels ++ rest) → Parcels rest →
    ((more : List ℕ) → rest ≡ 0x083f ∷ more → ⊥) → Stands rows names i rest) where
  abbrev k : Kernel
  k = kernel_of rows names

  open k use {it, n}

  abbrev emitted : ℕ → List ℕ
  emitted i = (left k i (it i)).parcels

  -- ---- what is read from item i on
  pub record From (room i : ℕ) : Type 0 where
    pub rows' : List ℕ
    pub places' : List ℕ
    pub goes : Goes room (place it i) (entries it i) (drop (place it i) (gather emitted n)) rows' places' (Ok tt)
    pub long : entries it i + length places' ≡ entries it n
    pub wide : length rows' ≡ length places' * row_width
    pub each :
        (j : ℕ) → i ≤ j → j < n → is_entry (it j) ≡ 1 →
        ComesBack rows names j (row rows' (entries it j - entries it i)) × (at places' (entries it j - entries it i) ≡ place it j)

  module _ (room : ℕ) (enough : entries it n ≤ room) (small16 : (i : ℕ) → i ≤ n → Parcels (drop (place it i) (gather emitted n))) where
    -- what stands from an item on: its parcels, then what stands from the next on
    apart-at : (i : ℕ) → i < n → drop (place it i) (gather emitted n) ≡ emitted i ++ drop (place it (suc i)) (gather emitted n)
    apart-at i h =
        let s = gather_split emitted i n h in
        let a : drop (place it i) (gather emitted n) ≡ emitted i ++ s.0 =
        ap₂ drop (sym (place-emitted k i)) s.1 ∙ drop-append_seam (gather emitted i) (emitted i ++ s.0) in
        let b : drop (place it (suc i)) (gather emitted n) ≡ s.0 =
        ap (λ (m : ℕ). drop (place it i + m) (gather emitted n)) (sym (emits k i (it i)))
        ∙ sym (drop-drop (length (emitted i)) (place it i) (gather emitted n))
        ∙ ap (drop (length (emitted i))) a
        ∙ drop-append_seam (emitted i) s.0 in
        a ∙ ap (λ (l : List ℕ). emitted i ++ l) (sym b)

    past : (i : ℕ) → i < n → drop (size (it i)) (drop (place it i) (gather emitted n)) ≡ drop (place it (suc i)) (gather emitted n)
    past i h = drop-drop (size (it i)) (place it i) (gather emitted n)

    -- an item without parcels
    over : (i : ℕ) → i < n → size (it i) ≡ 0 → is_entry (it i) ≡ 0 → From room (suc i) → From room i
    over i h z e f =
        let a : place it (suc i) ≡ place it i = omega (arith, z) in
        let b : entries it (suc i) ≡ entries it i = omega (arith, e) in
        record {
          rows' = f.rows';
          places' = f.places';
          goes = subst (λ (m : ℕ). Goes room (place it i) m (drop (place it i) (gather emitted n)) f.rows' f.places' (Ok tt)) b
              (subst (λ (m : ℕ). Goes room m (entries it (suc i)) (drop m (gather emitted n)) f.rows' f.places' (Ok tt)) a f.goes);
          long = let l = f.long in omega (arith, l, b);
          wide = f.wide;
          each = λ j g l y. later j g l y;
        }
      where
        later : (j : ℕ) → i ≤ j → j < n → is_entry (it j) ≡ 1 → ComesBack rows names j (row f.rows' (entries it j - entries it i)) × (at f.places' (entries it j - entries it i) ≡ place it j)
        later j g l y =
            ⊎_elim (λ (q : i ≡ j). absurd (let w : is_entry (it i) ≡ 1 = rw q y in omega (arith, e, w)))
            (λ (q : i < j).
            subst (λ (m : ℕ). ComesBack rows names j (row f.rows' (entries it j - m)) × (at f.places' (entries it j - m) ≡ place it j))
            (let b : entries it (suc i) ≡ entries it i = omega (arith, e) in b) (f.each j q l y))
            (eq-or-lt_of_le g)

    -- an item with parcels
    onward : (i : ℕ) → i < n → is_entry (it i) ≡ 1 → From room (suc i) → From room i
    onward i h e f =
        record {
          rows' = s.back ++ f.rows';
          places' = place it i ∷ f.places';
          goes =
              goes-next room (place it i) (entries it i) (size (it i)) (drop (place it i) (gather emitted n)) s.back f.rows' f.places' (Ok tt)
              (rw (apart-at i h, length-append) (let u = s.some in omega (arith, u))) (subst (λ (l : List ℕ). Front l (front.known (size (it i)) s.back)) (sym (apart-at i h)) s.stands) room-left
              (subst (λ (m : ℕ). Goes room (place it (suc i)) m (drop (size (it i)) (drop (place it i) (gather emitted n))) f.rows' f.places' (Ok tt)) one
              (rw (past i h) f.goes));
          long = let l = f.long in omega (arith, l, e);
          wide = length-append s.back f.rows' ∙ ap₂ ◌+◌ s.wide f.wide ∙ omega arith;
          each = later;
        }
      where
        rest : List ℕ
        rest = drop (place it (suc i)) (gather emitted n)

        s : Stands rows names i rest
        s =
            stand i rest h e (subst Parcels (apart-at i h) (small16 i (omega (arith, h)))) (small16 (suc i) h)
            (not_third room (place it (suc i)) (entries it (suc i)) rest f.rows' f.places' (Ok tt) refl f.goes (small16 (suc i) h))

        one : entries it (suc i) ≡ suc (entries it i)
        one = omega (arith, e)

        room-left : entries it i < room
        room-left = let u = total-up is_entry it (suc i) n h in omega (arith, u, e, enough)

        later :
            (j : ℕ) → i ≤ j → j < n → is_entry (it j) ≡ 1 →
            ComesBack rows names j (row (s.back ++ f.rows') (entries it j - entries it i)) × (at (place it i ∷ f.places') (entries it j - entries it i) ≡ place it j)
        later j g l y = ⊎_elim same after (eq-or-lt_of_le g)
          where
            same : i ≡ j → ComesBack rows names j (row (s.back ++ f.rows') (entries it j - entries it i)) × (at (place it i ∷ f.places') (entries it j - entries it i) ≡ place it j)
            same q =
                let z : entries it j - entries it i ≡ 0 = rw (← q) (omega arith) in
                rw (z, this_row s.back f.rows' s.wide) (subst (λ (m : ℕ). ComesBack rows names m s.back) q s.comes, ap (place it) q)

            after : i < j → ComesBack rows names j (row (s.back ++ f.rows') (entries it j - entries it i)) × (at (place it i ∷ f.places') (entries it j - entries it i) ≡ place it j)
            after q =
                let u = total-up is_entry it (suc i) j q in
                let z : entries it j - entries it i ≡ suc (entries it j - entries it (suc i)) = omega (arith, u, one) in
                rw (z, next_row s.back f.rows' (entries it j - entries it (suc i)) s.wide) (f.each j q l y)

    -- THE WALK: from the end back to the first item
    end : From room n
    end = record {
      rows' = [];
      places' = [];
      goes = rw (drop_of_length-le (gather emitted n) (let u = place-emitted k n in let w : length (gather emitted n) ≤ place it n = omega (arith, u) in w)) ended;
      long = omega arith;
      wide = refl;
      each = λ j g l y. absurd (omega (arith, g, l));
    }

    turn : (i : ℕ) → i < n → From room (suc i) → From room i
    turn i h f = go (it i) refl
      where
        none : (x : Coded) → it i ≡ x → size x ≡ 0 → is_entry x ≡ 0 → From room i
        none x w z e = over i h (ap size w ∙ z) (ap is_entry w ∙ e) f

        go : (x : Coded) → it i ≡ x → From room i
        go (Ok (Instruction c)) w = onward i h (ap is_entry w) f
        go (Ok (Label a b)) w = none (Ok (Label a b)) w refl refl
        go (Ok (Jump c a b)) w = onward i h (ap is_entry w) f
        go (Ok (LoopBegin c m)) w = onward i h (ap is_entry w) f
        go (Ok LoopEnd) w = none (Ok LoopEnd) w refl refl
        go (Err r) w = none (Err r) w refl refl

    pub back_from : (j i : ℕ) → i + j ≡ n → From room i
    back_from zero i e = subst (From room) (let z : n ≡ i = omega (arith, e) in z) end
    back_from (suc j) i e = turn i (omega (arith, e)) (back_from j (suc i) (omega (arith, e)))
