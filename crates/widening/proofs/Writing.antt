-- After i rows their copies and the changes among them stand at the front of the lent slices.
use mathlib.Core.Path.{◌≡◌, refl, sym, ap, ◌∙◌}
use mathlib.Core.Bool.{Bool, true, false, cond}
use mathlib.Core.List.{List, [], ◌∷◌, ◌++◌, append-nil}
use Prim.Native.Nat.{ℕ, suc, ◌+◌, ◌*◌, ◌≤◌, ◌<◌}
use native.Mathlib.Omega.{arith}
use native.Mathlib.Numerals.{add-one}
use lib.ListN.{length, get_or, set, drop, length-drop}
use lib.Seq.{paste, append_snoc, length-take-le}
use lib.Dec.{eqb}
use Rattle.bounds.specs.Tables.{at}
use Rattle.rows.specs.Rows.{row_width}
use Rattle.places.specs.Items.{row_count}
use Rattle.places.specs.Left.{gather}
use Rattle.stores.specs.Stores.{Begins}
use Rattle.stores.proofs.Stores.{begins_unwritten, begins-one, begins-run}
use Rattle.widening.specs.Widening.{wide_nop, memory_move, twin, row_of, changes, copied, listed, changed, how_many, change_width}
use Rattle.widening.specs.Walks.{Writes}
use Rattle.widening.proofs.Cells.{kind-cell}
use Rattle.widening.proofs.Changing.{how_many_up}

-- ---- a row and its twin are whole
twin-whole : (row : List ℕ) → length (twin row) ≡ row_width
twin-whole row = go (eqb (at row 0) 19) (eqb (at row 0) 20) (eqb (at row 0) 21) (eqb (at row 0) 22) (eqb (at row 0) 38)
  where
    go : (a b c d e : Bool) → length (cond a (memory_move 0 0 row) (cond b (memory_move 1 0 row) (cond c (memory_move 0 1 row) (cond d (memory_move 1 1 row) (cond e wide_nop wide_nop))))) ≡ row_width
    go true b c d e = refl
    go false true c d e = refl
    go false false true d e = refl
    go false false false true e = refl
    go false false false false true = refl
    go false false false false false = refl

module _ (rows names : List ℕ) where
  row-whole : (i : ℕ) → i < row_count rows → length (row_of rows i) ≡ row_width
  row-whole i h = length-take-le row_width (drop (i * row_width) rows) (simp length-drop (omega arith))

  pub copied-whole : (i : ℕ) → i < row_count rows → length (copied rows names i) ≡ row_width
  copied-whole i h = go (changes rows names i)
    where
      go : (t : Bool) → length (cond t (twin (row_of rows i)) (row_of rows i)) ≡ row_width
      go true = twin-whole (row_of rows i)
      go false = row-whole i h

  pub record Along (copy₀ list₀ : List ℕ) (i done : ℕ) (copy list : List ℕ) : Type 0 where
    pub within : i ≤ row_count rows
    pub fits : length rows ≤ length copy₀
    pub list-fits : change_width * changed rows names ≤ length list₀
    pub done-is : done ≡ how_many (changes rows names) i
    pub copy-here : Begins copy₀ (gather (copied rows names) i) (i * row_width) copy
    pub list-here : Begins list₀ (gather (listed rows names) i) (change_width * done) list

  module _ {copy₀ list₀ : List ℕ} where
    pub along_start : length rows ≤ length copy₀ → change_width * changed rows names ≤ length list₀ → Along copy₀ list₀ 0 0 copy₀ list₀
    along_start fits list-fits =
        record { within = omega arith; fits = fits; list-fits = list-fits; done-is = refl; copy-here = begins_unwritten; list-here = begins_unwritten }

    module _ {i done : ℕ} {copy list : List ℕ} (a : Along copy₀ list₀ i done copy list) where
      -- where a change more finds room
      pub along_room : i < row_count rows → {change : Bool} → change ≡ changes rows names i → change_width * (done + cond change 1 0) ≤ length list
      along_room h e =
          let u = how_many_up (changes rows names) (suc i) (row_count rows) (omega arith) in
          rw e (omega (arith, a.done-is, a.list-fits, a.list-here.same))

      module _ (h : i < row_count rows) where
        copy-next : {copy' : List ℕ} → copy' ≡ paste copy (i * row_width) (copied rows names i) row_width → Begins copy₀ (gather (copied rows names) (i + 1)) ((i + 1) * row_width) copy'
        copy-next stored =
            rw (add-one i) (begins-run a.copy-here (copied rows names i) (copied-whole i h) (let e : i * row_width + row_width ≡ suc i * row_width = omega arith in e) (omega (arith, a.fits)) stored)

        list-next : (t : Bool) → t ≡ changes rows names i → {list' : List ℕ} →
            list' ≡ cond t (set (set list (change_width * done) i) (change_width * done + 1) (get_or rows (i * row_width) 0)) list →
            Begins list₀ (gather (listed rows names) (i + 1)) (change_width * (done + cond t 1 0)) list'
        list-next true e {list'} stored =
            let room = along_room h e in
            let one = begins-one a.list-here i (omega (arith, a.list-here.same)) in
            let two = begins-one one (get_or rows (i * row_width) 0) (omega (arith, a.list-here.same)) in
            let front : gather (listed rows names) i ++ (i ∷ []) ++ (get_or rows (i * row_width) 0 ∷ []) ≡ gather (listed rows names) (suc i) =
            append_snoc (gather (listed rows names) i) i (get_or rows (i * row_width) 0 ∷ [])
            ∙ ap (λ (l : List ℕ). gather (listed rows names) i ++ l) (ap (λ (k : ℕ). i ∷ k ∷ []) (sym (kind-cell rows i)) ∙ ap (λ (t : Bool). cond t (i ∷ at (row_of rows i) 0 ∷ []) []) e) in
            let count : change_width * done + 1 + 1 ≡ change_width * (done + 1) = omega arith in
            rw (add-one i, ← front, ← count, stored) two
        list-next false e {list'} stored =
            let front : gather (listed rows names) i ≡ gather (listed rows names) (suc i) =
            sym (append-nil (gather (listed rows names) i)) ∙ ap (λ (t : Bool). gather (listed rows names) i ++ cond t (i ∷ at (row_of rows i) 0 ∷ []) []) e in
            let count : done ≡ done + 0 = omega arith in
            rw (add-one i, ← front, ← count, stored) a.list-here

        pub along_next : {change : Bool} → change ≡ changes rows names i → {copy' list' : List ℕ} {done' : ℕ} →
            copy' ≡ paste copy (i * row_width) (cond change (twin (row_of rows i)) (row_of rows i)) row_width →
            (done' ≡ done + cond change 1 0) × (list' ≡ cond change (set (set list (change_width * done) i) (change_width * done + 1) (get_or rows (i * row_width) 0)) list) →
            Along copy₀ list₀ (i + 1) done' copy' list'
        along_next {change} e {copy'} {list'} {done'} stored put =
            record {
              within = omega arith;
              fits = a.fits;
              list-fits = a.list-fits;
              done-is = rw (add-one i, ← e) (put.0 ∙ ap (λ (d : ℕ). d + cond change 1 0) a.done-is);
              copy-here = copy-next (stored ∙ ap (λ (t : Bool). paste copy (i * row_width) (cond t (twin (row_of rows i)) (row_of rows i)) row_width) e);
              list-here = rw put.0 (list-next change e put.1);
            }

      pub along_end : row_count rows ≤ i → Writes rows names copy₀ list₀ copy list
      along_end z =
          let e : i ≡ row_count rows = omega (arith, a.within) in
          let d : done ≡ changed rows names = a.done-is ∙ ap (how_many (changes rows names)) e in
          record { copy_left = rw e at a.copy-here; list_left = rw (d, e) at a.list-here }
