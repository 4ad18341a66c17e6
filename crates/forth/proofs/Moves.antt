-- The lines with a compute: a compute by itself, and a dual and a memory move with the compute beside them, or none.
use Prim.Native.Nat.{ℕ, zero, suc, ◌+◌, ◌-◌, ◌*◌, ◌^◌, ◌%◌, ◌<◌}
use native.Mathlib.Omega.{arith}
use native.Mathlib.Nat.{zero-add, suc-add}
use mathlib.Core.Path.{◌≡◌, refl, sym, ap, subst}
use mathlib.Core.Logic.{inl}
use mathlib.Core.Bool.{Bool, true, false, not, ◌&&◌, ◌||◌, true≢false}
use mathlib.Core.List.{List, [], ◌∷◌, ◌++◌, append_assoc}
use lib.Dec.{eqb, ltb}
use lib.ListN.{length, take, drop, replicate, length-append, length-take, length-replicate}
use lib.Seq.{get_or-append-add}
use borrow.Author.Tests.{ltb-true, le-leb, lt-leb, not-true}
use Rattle.fields.specs.Pack.{pack}
use Rattle.fields.specs.Parcels.{cut}
use Rattle.fields.specs.Matching.{filled_by}
use Rattle.fields.proofs.Matching.{both}
use Rattle.refusals.proofs.Order.{AllGood, good-when}
use Rattle.items.specs.declared.DataAccess.{DataAccess}
use Rattle.items.specs.declared.MemoryAccess.{MemoryAccess}
use Rattle.items.specs.declared.Item.TheVariants as item
use Rattle.items.specs.declared.VisaInstruction.TheVariants as Visa
use Rattle.words.specs.Forms.{type2a, whole, dual1a, memory3a}
use Rattle.words.proofs.Tiling.{tiles_2a, tiles_1a, tiles_3a}
use Rattle.encode.proofs.Laid.{three}
use Rattle.encode.specs.Registers.{in_dag, writes, dm_clashes, pm_clashes, same_dag, memory_clashes}
use Rattle.encode.specs.Layouts.{layout_of}
use Rattle.bounds.specs.Bounds.{spare, never, form, filled, compute, data_access, memory_access, bounds_of}
use Rattle.bounds.specs.Tables.{at}
use Rattle.std.specs.Prelude.{Ok}
use Rattle.rows.specs.Kept.{Below}
use Rattle.rows.specs.Rows.{data_access_of, memory_access_of, compute_item, dual_item, memory_item, item_of}
use Rattle.faithful.proofs.Lines.{◌&◌}
use Rattle.std.specs.Prelude.{Option, Some, None, is_some, unwrap_or}
use Rattle.known.specs.declared.Held.{Held}
use Rattle.known.specs.Table.{compute_at, beside_at, places_of, writes_to, dual_fine, memory_fine}
use Rattle.forth.proofs.Entries.{Gives, Entry, entered}
use Rattle.forth.proofs.Encoded.{encodes}
use Rattle.forth.proofs.Bits.{untrue, byte, flag, stores, loads, posts, in_dag_lem, low_bits, unmixed}
use Rattle.forth.proofs.Single.{Makes, compute-makes}
use Rattle.forth.proofs.Beside.{Besides, beside-makes}

-- ---- bounds of the first eight places and of those that follow
below_split :
    (k m : ℕ) (bs tail vs qs : List ℕ) → length bs ≡ k → length vs ≡ k → Below bs vs → Below (take m tail) qs → Below (take (k + m) (bs ++ tail)) (vs ++ qs)
below_split zero m [] tail [] qs x y h g = rw zero-add g
below_split zero m [] tail (v ∷ vs) qs x y h g = absurd (omega arith)
below_split zero m (b ∷ bs) tail vs qs x y h g = absurd (omega arith)
below_split (suc k) m [] tail vs qs x y h g = absurd (omega arith)
below_split (suc k) m (b ∷ bs) tail [] qs x y h g = absurd (omega arith)
below_split (suc k) m (b ∷ bs) tail (v ∷ vs) qs x y h g = rw suc-add (h.0, below_split k m bs tail vs qs (omega arith) (omega arith) h.1 g)

length-compute : (none : ℕ) (row : List ℕ) → length (compute none row) ≡ 8
unfolding compute
length-compute none row = simp (length-take, length-append, length-replicate) (omega arith)

-- a row of eight places and eight more
length-row : (k : ℕ) (ps qs : List ℕ) → length ps ≡ 8 → length qs ≡ 8 → length (k ∷ (ps ++ qs)) ≡ 17
length-row k ps qs p q = simp length-append (omega arith)

-- ---- kind 32
module _ (n : ℕ) (h : Held) (m : Makes n h) where
  abbrev row : List ℕ
  row = 32 ∷ (h.places ++ replicate 8 0)

  compute-below : Below (bounds_of row) (drop 1 row)
  unfolding bounds_of
  compute-below =
      below_split 8 8 (compute never row) (replicate 16 spare) h.places (replicate 8 0) (length-compute never row) m.eight (m.bounds never 32 (replicate 8 0)) (omega arith)

  compute-gives : Gives 3 (cut 3 (pack (filled_by (type2a (whole 0)) (n ∷ [])))) row
  unfolding item_of layout_of
  compute-gives =
      inl
      (encodes row (Visa.Compute record { field = n; first = unwrap_or h.first 16; second = unwrap_or h.second 16 }) 3 (type2a (whole n)) (length-row 32 h.places (replicate 8 0) m.eight refl)
      compute-below refl (ap compute_item (m.makes 32 (replicate 8 0))) tt refl refl)

pub computed : Entry 3 (type2a (whole 0)) (λ ns. is_some (compute_at (at ns 0))) (λ ns. 32 ∷ (places_of (compute_at (at ns 0)) ++ replicate 8 0))
computed = entered (three refl) (tiles_2a 0) (λ n hn. go n hn (compute_at n) refl)
  where
    go :
        (n : ℕ) → n < 2 ^ 23 → (o : Option Held) → compute_at n ≡ o → is_some o ≡ true →
        Gives 3 (cut 3 (pack (filled_by (type2a (whole 0)) (n ∷ [])))) (32 ∷ (places_of o ++ replicate 8 0))
    go n hn None e f = absurd (true≢false (sym f))
    go n hn (Some h) e f = compute-gives n h (compute-makes n hn h e)

-- an index or a modifier of DAG2
high_bits : (n : ℕ) → n < 8 → (n + 8) % 256 % 8 ≡ n
high_bits n h = omega arith

-- ---- kinds 33 and 34: the eight places after the compute's, and the bounds of all sixteen
module _ (n : ℕ) (h : Held) (m : Besides n h) where
  past : (qs : List ℕ) (j : ℕ) → at (h.places ++ qs) (8 + j) ≡ at qs j
  past qs j = subst (λ (l : ℕ). at (h.places ++ qs) (l + j) ≡ at qs j) m.eight (get_or-append-add h.places qs j 0)

  beside-below : (k : ℕ) (qs l : List ℕ) → Below (take 8 (l ++ replicate 16 spare)) qs → Below (filled 16 (compute form (k ∷ (h.places ++ qs)) ++ l)) (h.places ++ qs)
  beside-below k qs l w =
      let row = k ∷ (h.places ++ qs) in
      rw append_assoc (below_split 8 8 (compute form row) (l ++ replicate 16 spare) h.places qs (length-compute form row) m.eight (m.bounds k qs) w)

  -- kind 33: what the fine line rules out is what the dual move refuses
  module _ (dmd dmi dmm pmd dmdreg pmi pmm pmdreg : ℕ) (hd : dmd < 2) (hi : dmi < 8) (hm : dmm < 8) (hp : pmd < 2) (hr : dmdreg < 16) (hj : pmi < 8)
      (hn : pmm < 8) (hq : pmdreg < 16) (fine : dual_fine (Some h) dmd dmdreg pmd pmdreg ≡ true) where
    abbrev rest : List ℕ
    rest = dmd ∷ dmdreg ∷ dmi ∷ dmm ∷ pmd ∷ pmdreg ∷ (pmi + 8) ∷ (pmm + 8) ∷ []

    abbrev dm : DataAccess
    dm = data_access_of dmd dmdreg dmi dmm

    abbrev pm : DataAccess
    pm = data_access_of pmd pmdreg (pmi + 8) (pmm + 8)

    dual_clear : ((eqb dmd 0 && writes_to h dmdreg) ≡ false) × ((eqb pmd 0 && (writes_to h pmdreg || (eqb dmd 0 && eqb dmdreg pmdreg))) ≡ false)
    dual_clear =
        let y = both (not (eqb dmd 0 && writes_to h dmdreg)) _ fine in
        (not-true _ y.0, not-true _ y.1)

    dm-clear : dm_clashes m.optional dm ≡ false
    unfolding dm_clashes data_access_of
    dm-clear = rw (stores dmd hd, loads dmd hd, byte dmdreg (omega arith), m.writing dmdreg hr) dual_clear.0

    pm-clear : pm_clashes m.optional dm pm ≡ false
    unfolding pm_clashes data_access_of
    pm-clear =
        rw (stores pmd hp, loads pmd hp, stores dmd hd, loads dmd hd, byte dmdreg (omega arith), byte pmdreg (omega arith), m.writing pmdreg hq) dual_clear.1

    dual_passes : AllGood (layout_of (Visa.DualMove m.optional dm pm)).refusals
    unfolding layout_of data_access_of
    dual_passes =
        good-when _ _ (lt-leb 8 (dmi % 256) (omega arith)) & good-when _ _ (lt-leb 8 (dmm % 256) (omega arith))
        & good-when _ _ (untrue _ (le-leb 8 ((pmi + 8) % 256) (omega arith))) & good-when _ _ (untrue _ (le-leb 8 ((pmm + 8) % 256) (omega arith)))
        & good-when _ _ dm-clear & good-when _ _ pm-clear & tt

    dual_read : item_of (33 ∷ (h.places ++ rest)) ≡ Ok (item.Instruction (Visa.DualMove m.optional dm pm))
    unfolding item_of
    dual_read =
        rw (past rest 0, past rest 1, past rest 2, past rest 3, past rest 4, past rest 5, past rest 6, past rest 7) (ap (dual_item dm pm) (m.makes 33 rest))

    dual_gives :
        Gives 3 (cut 3 (pack (filled_by (dual1a 0 0 0 0 0 0 0 0 (whole 0)) (dmd ∷ dmi ∷ dmm ∷ pmd ∷ dmdreg ∷ pmi ∷ pmm ∷ pmdreg ∷ n ∷ [])))) (33 ∷ (h.places ++ rest))
    unfolding layout_of bounds_of data_access_of
    dual_gives =
        inl
        (encodes (33 ∷ (h.places ++ rest)) (Visa.DualMove m.optional dm pm) 3 (dual1a dmd dmi dmm pmd dmdreg pmi pmm pmdreg (whole n))
        (length-row 33 h.places rest m.eight refl) (beside-below 33 rest (data_access ++ data_access) (omega arith)) refl dual_read dual_passes refl
        (rw (
          stores dmd hd,
          flag dmd hd,
          stores pmd hp,
          flag pmd hp,
          byte dmi (omega arith),
          byte dmm (omega arith),
          byte dmdreg (omega arith),
          byte pmdreg (omega arith),
          high_bits pmi hj,
          high_bits pmm hn,
          m.field,
        )))

  -- kind 34, likewise
  module _ (u i o g d code : ℕ) (hu : u < 2) (hi : i < 8) (ho : o < 8) (hg : g < 2) (hd : d < 2) (fine : memory_fine (Some h) u g d code ≡ true) where
    abbrev after : List ℕ
    after = d ∷ code ∷ (i + 8 * g) ∷ (o + 8 * g) ∷ (1 - u) ∷ 0 ∷ 0 ∷ 0 ∷ []

    abbrev access : MemoryAccess
    access = memory_access_of d code (i + 8 * g) (o + 8 * g) (1 - u)

    memory-clear :
        (code < 0x60) × (((eqb u 1 || eqb d 1) && in_dag code (eqb g 1)) ≡ false) × ((eqb d 0 && (ltb code 16 && writes_to h code)) ≡ false)
    memory-clear =
        let y = both (ltb code 0x60) _ fine in
        let z = both (not ((eqb u 1 || eqb d 1) && in_dag code (eqb g 1))) _ y.1 in
        (ltb-true code 0x60 y.0, not-true _ z.0, not-true _ z.1)

    dag_clear : same_dag access ≡ false
    unfolding same_dag memory_access_of
    dag_clear =
        let c = memory-clear.0 in
        rw (posts u hu, stores d hd, byte code (omega arith), in_dag_lem i g hi hg) memory-clear.1

    load-clear : memory_clashes m.optional access ≡ false
    unfolding memory_clashes memory_access_of
    load-clear =
        let c = memory-clear.0 in
        rw (stores d hd, loads d hd, byte code (omega arith)) (go (ltb code 16) refl memory-clear.2)
      where
        go : (t : Bool) → ltb code 16 ≡ t → (eqb d 0 && (t && writes_to h code)) ≡ false → (eqb d 0 && (t && writes m.optional code)) ≡ false
        go true e f = rw (m.writing code (ltb-true code 16 e)) f
        go false e f = f

    memory-passes : AllGood (layout_of (Visa.MemoryMove m.optional access)).refusals
    unfolding layout_of memory_access_of
    memory-passes = good-when _ _ (unmixed i o g hi ho hg) & good-when _ _ dag_clear & good-when _ _ load-clear & tt

    memory-read : item_of (34 ∷ (h.places ++ after)) ≡ Ok (item.Instruction (Visa.MemoryMove m.optional access))
    unfolding item_of
    memory-read =
        rw (past after 0, past after 1, past after 2, past after 3, past after 4) (ap (memory_item access) (m.makes 34 after))

    memory-gives :
        Gives 3 (cut 3 (pack (filled_by (memory3a 0 0 0 0 0 0 (whole 0)) (u ∷ i ∷ o ∷ g ∷ d ∷ code ∷ n ∷ [])))) (34 ∷ (h.places ++ after))
    unfolding layout_of bounds_of memory_access_of
    memory-gives =
        let c = memory-clear.0 in
        inl
        (encodes (34 ∷ (h.places ++ after)) (Visa.MemoryMove m.optional access) 3 (memory3a u i o g d code (whole n)) (length-row 34 h.places after m.eight refl)
        (beside-below 34 after memory_access (omega arith)) refl memory-read memory-passes refl
        (rw (posts u hu, flag u hu, low_bits i g hi hg, low_bits o g ho hg, in_dag_lem i g hi hg, flag g hg, stores d hd, flag d hd, byte code (omega arith), m.field)))

pub dual_move :
    Entry 3 (dual1a 0 0 0 0 0 0 0 0 (whole 0)) (λ ns. dual_fine (beside_at (at ns 8)) (at ns 0) (at ns 4) (at ns 3) (at ns 7))
    (λ ns. 33 ∷ (places_of (beside_at (at ns 8)) ++ (at ns 0 ∷ at ns 4 ∷ at ns 1 ∷ at ns 2 ∷ at ns 3 ∷ at ns 7 ∷ (at ns 5 + 8) ∷ (at ns 6 + 8) ∷ [])))
dual_move = entered (three refl) (tiles_1a 0 0 0 0 0 0 0 0 0)
    (λ dmd hd dmi hi dmm hm pmd hp dmdreg hr pmi hj pmm hn pmdreg hq n l. go dmd hd dmi hi dmm hm pmd hp dmdreg hr pmi hj pmm hn pmdreg hq n l (beside_at n) refl)
  where
    go :
        (dmd : ℕ) → dmd < 2 → (dmi : ℕ) → dmi < 8 → (dmm : ℕ) → dmm < 8 → (pmd : ℕ) → pmd < 2 → (dmdreg : ℕ) → dmdreg < 16 → (pmi : ℕ) → pmi < 8 →
        (pmm : ℕ) → pmm < 8 → (pmdreg : ℕ) → pmdreg < 16 → (n : ℕ) → n < 2 ^ 23 → (o : Option Held) → beside_at n ≡ o → dual_fine o dmd dmdreg pmd pmdreg ≡ true →
        Gives 3 (cut 3 (pack (filled_by (dual1a 0 0 0 0 0 0 0 0 (whole 0)) (dmd ∷ dmi ∷ dmm ∷ pmd ∷ dmdreg ∷ pmi ∷ pmm ∷ pmdreg ∷ n ∷ []))))
        (33 ∷ (places_of o ++ (dmd ∷ dmdreg ∷ dmi ∷ dmm ∷ pmd ∷ pmdreg ∷ (pmi + 8) ∷ (pmm + 8) ∷ [])))
    go dmd hd dmi hi dmm hm pmd hp dmdreg hr pmi hj pmm hn pmdreg hq n l None e f = absurd (true≢false (sym f))
    go dmd hd dmi hi dmm hm pmd hp dmdreg hr pmi hj pmm hn pmdreg hq n l (Some h) e f =
        dual_gives n h (beside-makes n l h e) dmd dmi dmm pmd dmdreg pmi pmm pmdreg hd hi hm hp hr hj hn hq f

pub memory-move :
    Entry 3 (memory3a 0 0 0 0 0 0 (whole 0)) (λ ns. memory_fine (beside_at (at ns 6)) (at ns 0) (at ns 3) (at ns 4) (at ns 5))
    (λ ns. 34 ∷ (places_of (beside_at (at ns 6)) ++ (at ns 4 ∷ at ns 5 ∷ (at ns 1 + 8 * at ns 3) ∷ (at ns 2 + 8 * at ns 3) ∷ (1 - at ns 0) ∷ 0 ∷ 0 ∷ 0 ∷ [])))
memory-move = entered (three refl) (tiles_3a 0 0 0 0 0 0 0)
    (λ u hu i hi m hm g hg d hd code hc n l. go u hu i hi m hm g hg d hd code n l (beside_at n) refl)
  where
    go :
        (u : ℕ) → u < 2 → (i : ℕ) → i < 8 → (m : ℕ) → m < 8 → (g : ℕ) → g < 2 → (d : ℕ) → d < 2 → (code n : ℕ) → n < 2 ^ 23 → (o : Option Held) →
        beside_at n ≡ o → memory_fine o u g d code ≡ true →
        Gives 3 (cut 3 (pack (filled_by (memory3a 0 0 0 0 0 0 (whole 0)) (u ∷ i ∷ m ∷ g ∷ d ∷ code ∷ n ∷ []))))
        (34 ∷ (places_of o ++ (d ∷ code ∷ (i + 8 * g) ∷ (m + 8 * g) ∷ (1 - u) ∷ 0 ∷ 0 ∷ 0 ∷ [])))
    go u hu i hi m hm g hg d hd code n l None e f = absurd (true≢false (sym f))
    go u hu i hi m hm g hg d hd code n l (Some h) e f = memory-gives n h (beside-makes n l h e) u i m g d code hu hi hm hg hd f
