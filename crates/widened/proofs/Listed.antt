-- Which pair of the list is of which row: as many changed rows stand before the row as pairs before the pair.
use Prim.Native.Nat.{ℕ, ◌+◌, ◌*◌, ◌<◌}
use native.Mathlib.Omega.{arith}
use mathlib.Core.Path.{◌≡◌, refl, sym, ap, ◌∙◌, subst}
use mathlib.Core.Logic.{◌↔◌}
use mathlib.Core.Bool.{Bool, true, false, cond}
use mathlib.Core.List.{List, [], ◌∷◌, ◌++◌}
use lib.ListN.{length, take, drop}
use lib.Seq.{drop_at, get_or-take, get_or-drop}
use Rattle.bounds.specs.Tables.{at}
use Rattle.coded.specs.Coded.{read_verdict}
use Rattle.places.specs.Items.{row_count}
use Rattle.places.specs.Left.{gather}
use Rattle.counts.specs.Counts.{Passes}
use Rattle.prefixes.proofs.Gathered.{gather-at}
use Rattle.prefixes.proofs.Looking.{pick_true}
use Rattle.prefixes.proofs.Tests.{true_false, not_so}
use Rattle.widening.specs.declared.ToldWidened.{ToldWidened}
use Rattle.widening.specs.Widening.{has_twin, twin, row_of, how_many, changes, copied, listed, changed, change_width, Widens}
use Rattle.widening.proofs.Numbers.{widen_zero, widened-told, widened-copy, widened-list}
use Rattle.widened.specs.Moves.{KeepsMove}
use Rattle.widened.specs.Tails.{GivesWay}
use Rattle.widened.specs.Widened.{row_in, kind_in, OnlyListed}
use Rattle.widened.proofs.Twins.{twin_has_none}
use Rattle.widened.proofs.Tails.{changes-exactly}
use Rattle.widened.proofs.Changes.{wide_rows, changed-keeps, copied-twin, copied_self, wide-length, copy-row}
use Rattle.widened.proofs.Counting.{count-within, Nth, nth, nth-order, pairs-length}

-- the two numbers of pair p
at_part : (l : List ℕ) (p k : ℕ) → k < 2 → at (take 2 (drop (p * 2) l)) k ≡ at l (p * 2 + k)
at_part l p k h = get_or-take 2 (drop (p * 2) l) k 0 h ∙ get_or-drop (p * 2) l k 0

at_pair : (l : List ℕ) (p a b : ℕ) → take 2 (drop (p * 2) l) ≡ a ∷ b ∷ [] → (row_in l p ≡ a) × (kind_in l p ≡ b)
at_pair l p a b e =
    let z : p * 2 ≡ p * 2 + 0 = omega arith in (
      ap (at l) z ∙ sym (at_part l p 0 (omega arith)) ∙ ap (λ (m : List ℕ). at m 0) e,
      sym (at_part l p 1 (omega arith)) ∙ ap (λ (m : List ℕ). at m 1) e,
    )

module _ (rows names : List ℕ) where
  -- the pairs of a list, whatever stands behind
  abbrev pairs_of : List ℕ
  pairs_of = gather (listed rows names) (row_count rows)

  listed-length : (i : ℕ) → length (listed rows names i) ≡ cond (changes rows names i) 2 0
  listed-length i = go (changes rows names i)
    where
      go : (b : Bool) → length (cond b (i ∷ at (row_of rows i) 0 ∷ []) []) ≡ cond b 2 0
      go true = refl
      go false = refl

  -- the pair of a changed row stands behind as many pairs as changed rows stand before it
  pair-at :
      (rest : List ℕ) (i : ℕ) → i < row_count rows → changes rows names i ≡ true →
      take 2 (drop (how_many (changes rows names) i * 2) (pairs_of ++ rest)) ≡ i ∷ at (row_of rows i) 0 ∷ []
  pair-at rest i h c =
      let e : listed rows names i ≡ i ∷ at (row_of rows i) 0 ∷ [] = pick_true (changes rows names i) _ _ c in
      rw (e, pairs-length (changes rows names) (listed rows names) listed-length i) at (gather-at (listed rows names) i (row_count rows) rest h)

-- behind what is laid at the front stands what stood there
left_behind : (new old c : List ℕ) (n : ℕ) → length new ≡ n → c ≡ new ++ drop (length new) old → drop n c ≡ drop n old
left_behind new old c n h e = ap (drop n) e ∙ drop_at new (drop (length new) old) n h ∙ ap (λ (m : ℕ). drop m old) h

-- ---- THE THEOREM
module _ (rows names copy list : List ℕ) {t : ToldWidened} {copy' list' : List ℕ} (w : Widens rows names copy list t copy' list') (z : t.number ≡ 0) where
  passes : Passes read_verdict rows names
  passes = ((widen_zero rows names copy list w).0 z).passes

  count : t.changes ≡ changed rows names
  count = ap (λ (s : ToldWidened). s.changes) (widened-told rows names copy list w z)

  -- pair p is the p-th changed row's
  nth_change : (p : ℕ) → p < t.changes → Nth (changes rows names) p (row_count rows)
  nth_change p h = nth (changes rows names) p (row_count rows) (rw (sym count) h)

  -- the pair of a changed row
  row-pair :
      (i : ℕ) → i < row_count rows → changes rows names i ≡ true →
      (row_in list' (how_many (changes rows names) i) ≡ i) × (kind_in list' (how_many (changes rows names) i) ≡ at (row_of rows i) 0)
  row-pair i h c =
      rw (widened-list rows names copy list w z)
      (at_pair _ (how_many (changes rows names) i) i (at (row_of rows i) 0) (pair-at rows names _ i h c))

  nth-pair : (p : ℕ) (n : Nth (changes rows names) p (row_count rows)) → (row_in list' p ≡ n.index) × (kind_in list' p ≡ at (row_of rows n.index) 0)
  nth-pair p n = rw n.number at (row-pair n.index n.before n.passes)

  copy_at : (i : ℕ) → i < row_count rows → row_of copy' i ≡ copied rows names i
  copy_at i h = rw (widened-copy rows names copy list w z) (copy-row rows names passes _ i h)

  -- what holds of each changed row holds of each listed row
  each-listed : (P : ℕ → Type 0) → ((i : ℕ) → i < row_count rows → changes rows names i ≡ true → P i) → (p : ℕ) → p < t.changes → P (row_in list' p)
  each-listed P h p l = let n = nth_change p l in subst P (sym (nth-pair p n).0) (h n.index n.before n.passes)

  listed-exactly : (i : ℕ) → i < row_count rows → GivesWay rows names i ↔ ((p : ℕ) × (p < t.changes) × (row_in list' p ≡ i))
  listed-exactly i h = (
    (λ g.
        let c = (changes-exactly rows names i).1 g in
        (how_many (changes rows names) i, rw count (count-within (changes rows names) i (row_count rows) h c), (row-pair i h c).0)),
    (λ x. subst (GivesWay rows names) x.2 (each-listed (GivesWay rows names) (λ j l c. (changes-exactly rows names j).0 c) x.0 x.1)),
  )

  other_row : (i : ℕ) → i < row_count rows → changes rows names i ≡ true → row_of copy' i ≡ row_of rows i → ⊥
  other_row i h c e =
      let has = ((changes-exactly rows names i).0 c).kind_has_twin in
      true_false has (ap has_twin (sym (sym (copy_at i h ∙ copied-twin rows names passes i c) ∙ e)) ∙ twin_has_none (row_of rows i) has)

  pub only_listed_change : OnlyListed rows names copy list t copy' list'
  only_listed_change = record {
    one_of = each-listed (λ i. i < row_count rows) (λ i h c. h);
    old_kind = λ p l. let n = nth_change p l in (nth-pair p n).1 ∙ ap (λ (i : ℕ). at (row_of rows i) 0) (sym (nth-pair p n).0);
    in_order = λ p q h l.
        let a = nth_change p (omega arith) in
        let b = nth_change q l in
        rw ((nth-pair p a).0, (nth-pair q b).0) (nth-order (changes rows names) h a b);
    exactly = listed-exactly;
    twins = each-listed (λ i. row_of copy' i ≡ twin (row_of rows i)) (λ i h c. copy_at i h ∙ copied-twin rows names passes i c);
    differs = each-listed (λ i. row_of copy' i ≡ row_of rows i → ⊥) other_row;
    keeps = each-listed (λ i. KeepsMove (row_of rows i) (row_of copy' i) (length names))
        (λ i h c. rw (copy_at i h ∙ copied-twin rows names passes i c) (changed-keeps rows names passes i h c));
    stays = λ i h none.
        copy_at i h ∙ copied_self rows names passes i (not_so _ (λ c. let x = (listed-exactly i h).0 ((changes-exactly rows names i).0 c) in none x.0 x.1 x.2));
    copy_past = left_behind (wide_rows rows names passes) copy copy' (length rows) (wide-length rows names passes) (widened-copy rows names copy list w z);
    list_past = left_behind (pairs_of rows names) list list' (t.changes * change_width)
        (pairs-length (changes rows names) (listed rows names) (listed-length rows names) (row_count rows) ∙ ap (λ (n : ℕ). n * 2) (sym count))
        (widened-list rows names copy list w z);
  }
