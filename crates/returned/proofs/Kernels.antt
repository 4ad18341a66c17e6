-- THE THEOREM of a whole kernel: what an accepted build leaves is read back, each item's row at its place.
use Prim.Native.Nat.{ℕ, zero, suc, ◌+◌, ◌-◌, ◌*◌, ◌^◌, ◌≤◌, ◌<◌, min}
use native.Mathlib.Omega.{arith}
use mathlib.Core.Path.{◌≡◌, refl, sym, ap, ap₂, ◌∙◌, subst}
use mathlib.Core.Bool.{false}
use mathlib.Core.List.{List, [], ◌∷◌, ◌++◌}
use lib.ListN.{length, take, drop, length-drop}
use lib.Seq.{take-append_seam, take-append-le, drop-append-le, length-take-le}
use Rattle.std.specs.Prelude.{Ok, Err}
use Rattle.refusals.specs.Answers.{Verdict}
use Rattle.coded.specs.Coded.{Coded}
use Rattle.refusals.specs.declared.Told.{Told}
use Rattle.encode.specs.Encoding.{jump_form, loop_form}
use Rattle.bounds.specs.Tables.{at}
use Rattle.rows.specs.Rows.{row_width}
use Rattle.items.specs.declared.Item.TheVariants.{Instruction, Label, Jump, LoopBegin, LoopEnd}
use Rattle.places.specs.Items.{Kernel, row_count, kernel_of, size, is_entry, place, entries, most_parcels}
use Rattle.places.specs.Looking.{Found, labelled, closer}
use Rattle.places.specs.Looking as looking
use Rattle.places.specs.Verdict.{jump_offset, loop_offset}
use Rattle.places.specs.Left.{Lent, Builds, left, gather, jump_parcels, loop_parcels, put}
use Rattle.places.proofs.Emitted.{place-emitted}
use Rattle.prefixes.proofs.Totals.{total-up}
use Rattle.rules.specs.Accepted.{ValidRows, AcceptedParcels}
use Rattle.rules.proofs.Answers.{build_accepts_exactly_when_valid, accepted_well_formed, accepted-count, build_accepted_parcels}
use Rattle.known.specs.Front.{Parcels}
use Rattle.reading.specs.declared.ToldRows.{ToldRows}
use Rattle.reading.specs.Back.{Goes, room_in, told_rows, ReadsBack}
use Rattle.reading.proofs.Single.{goes-only}
use Rattle.inverse.proofs.Small.{no-parcels, parcels-join, zero_parcels, form-parcels, settled-parcels, parcels-drop}
use Rattle.returned.specs.Returned.{row, ComesBack, Returned}
use Rattle.returned.proofs.Stands.{Stands, stand}
use Rattle.returned.proofs.Walk.{From, back_from}

-- ---- what items leave are parcels
module _ (k : Kernel) where
  left-parcels : (i : ℕ) (x : Coded) → Parcels (left k i x).parcels
  left-parcels i (Ok (Instruction c)) = form-parcels c.form
  left-parcels i (Ok (Label a b)) = no-parcels
  left-parcels i (Ok (Jump c a b)) = go (labelled k a b k.n)
    where
      go : (f : Found) → Parcels (jump_parcels k.it c i f)
      go (looking.at l) = settled-parcels (jump_form c (jump_offset k.it l i) false)
      go looking.nothing = zero_parcels 3
  left-parcels i (Ok (LoopBegin c m)) = go (closer k.it k.n i)
    where
      go : (f : Found) → Parcels (loop_parcels k.it c m i f)
      go (looking.at e) = settled-parcels (loop_form c m (loop_offset k.it e i))
      go looking.nothing = zero_parcels 3
  left-parcels i (Ok LoopEnd) = no-parcels
  left-parcels i (Err r) = no-parcels

  pub gather-parcels : (n : ℕ) → Parcels (gather (λ i. (left k i (k.it i)).parcels) n)
  gather-parcels zero = no-parcels
  gather-parcels (suc n) = parcels-join (gather (λ i. (left k i (k.it i)).parcels) n) (left k n (k.it n)).parcels (gather-parcels n) (left-parcels n (k.it n))

-- ---- a row of the slice is whole
pub whole_row : (rows : List ℕ) (i : ℕ) → i < row_count rows → length (row rows i) ≡ row_width
whole_row rows i h = length-take-le row_width (drop (i * row_width) rows) (rw (length-drop (i * row_width) rows) (omega (arith, h)))

-- what stands at the front of a buffer is what was put there
front-row : (new old : List ℕ) (m : ℕ) → (m + 1) * row_width ≤ length new → row (new ++ old) m ≡ row new m
front-row new old m h =
    ap (take row_width) (drop-append-le (m * row_width) new old (omega (arith, h)))
    ∙ take-append-le row_width (drop (m * row_width) new) old (rw (length-drop (m * row_width) new) (omega (arith, h)))

front_at : (new old : List ℕ) (m : ℕ) → m < length new → at (new ++ old) m ≡ at new m
front_at [] old m h = absurd (omega (arith, h))
front_at (x ∷ new) old zero h = refl
front_at (x ∷ new) old (suc m) h = front_at new old m (omega (arith, h))

module _ (rows names : List ℕ) (lent : Lent) (t : Told) (x : Lent) (contract : Builds rows names lent t x) (accepted : t.number ≡ 0)
    (rows₀ places₀ : List ℕ) (told : ToldRows) (rows₁ places₁ : List ℕ) (reads : ReadsBack (take t.count x.parcels) rows₀ places₀ told rows₁ places₁) where
  abbrev k : Kernel
  k = kernel_of rows names

  open k use {it, n}

  abbrev emitted : ℕ → List ℕ
  emitted i = (left k i (it i)).parcels

  valid : ValidRows rows names lent
  valid = (build_accepts_exactly_when_valid rows names lent t x contract (accepted_well_formed rows names lent t x contract accepted)).0 accepted

  stands : AcceptedParcels k x.parcels lent.parcels
  stands = build_accepted_parcels rows names lent t x contract accepted

  -- the parcels are the items' own
  parcels_are : take t.count x.parcels ≡ gather emitted n
  parcels_are =
      let c : t.count ≡ length (gather emitted n) = ap (λ (y : Told). y.count) (accepted-count rows names lent t x contract accepted) ∙ sym (place-emitted k n) in
      ap₂ take c stands.in_order ∙ take-append_seam (gather emitted n) (drop (place it n) lent.parcels)

  small : (i : ℕ) → i ≤ n → place it i < 2 ^ 31
  small i h =
      let u = total-up size it i n h in
      let v = valid.rule6.parcels in
      let w : min (length lent.parcels) most_parcels ≤ most_parcels = omega arith in
      omega (arith, u, v, w)

  standing :
      (i : ℕ) (rest : List ℕ) → i < n → is_entry (it i) ≡ 1 → Parcels (emitted i ++ rest) → Parcels rest → ((more : List ℕ) → rest ≡ 0x083f ∷ more → ⊥) → Stands rows names i rest
  standing = stand rows names x.parcels valid.rule1 (whole_row rows) small stands.jump stands.loop stands.at_place

  module _ (enough : entries it n ≤ room_in rows₀ places₀) where
    walked : From rows names standing (room_in rows₀ places₀) 0
    walked =
        back_from rows names standing (room_in rows₀ places₀) enough (λ i h. parcels-drop (place it i) (gather emitted n) (gather-parcels k n)) n 0 (omega arith)

    same : (reads.new_rows ≡ walked.rows') × (reads.new_places ≡ walked.places') × (reads.verdict ≡ Ok tt)
    same =
        goes-only
        (subst (λ (ps : List ℕ). Goes (room_in rows₀ places₀) 0 0 ps reads.new_rows reads.new_places reads.verdict) parcels_are reads.goes) walked.goes

    -- number 0, and as many rows as items with parcels
    pub kernel-told : told ≡ told_rows (Ok tt) (entries it n)
    kernel-told =
        let l = walked.long in
        reads.answer ∙ ap₂ told_rows same.2 (ap length same.1 ∙ (let z : length walked.places' ≡ entries it n = omega (arith, l) in z))

    left-rows : rows₁ ≡ walked.rows' ++ drop (length walked.rows') rows₀
    left-rows = reads.rows_left ∙ ap₂ (λ (v : Verdict) (l : List ℕ). put v l rows₀) same.2 same.0

    left-places : places₁ ≡ walked.places' ++ drop (length walked.places') places₀
    left-places = reads.places_left ∙ ap₂ (λ (v : Verdict) (l : List ℕ). put v l places₀) same.2 same.1

    pub kernel_returns : Returned rows names rows₁ places₁
    kernel_returns i h e =
        let y =
        subst (λ (m : ℕ). ComesBack rows names i (row walked.rows' m) × (at walked.places' m ≡ place it i))
        (let z : entries it i - entries it 0 ≡ entries it i = omega arith in z) (walked.each i (omega arith) h e) in
        let u = total-up is_entry it (suc i) n h in
        let l = walked.long in
        let w = walked.wide in
        let m : entries it i < length walked.places' = omega (arith, u, l, e) in
        let a : row rows₁ (entries it i) ≡ row walked.rows' (entries it i) =
        ap (λ (r : List ℕ). row r (entries it i)) left-rows ∙ front-row walked.rows' (drop (length walked.rows') rows₀) (entries it i) (omega (arith, w, m)) in
        let b : at places₁ (entries it i) ≡ at walked.places' (entries it i) =
        ap (λ (r : List ℕ). at r (entries it i)) left-places ∙ front_at walked.places' (drop (length walked.places') places₀) (entries it i) m in
        (subst (λ (r : List ℕ). ComesBack rows names i r) (sym a) y.0, b ∙ y.1)
