-- A row with a compute that encodes stands in the reader's table: kinds 32, 33 and 34.
use Prim.Native.Nat.{ℕ, zero, suc, ◌+◌, ◌%◌, ◌<◌}
use native.Mathlib.Omega.{arith}
use mathlib.Core.Path.{◌≡◌, refl, sym, ap, ◌∙◌}
use mathlib.Core.Bool.{Bool, true, false, not, ◌&&◌}
use mathlib.Core.List.{List, [], ◌∷◌, ◌++◌}
use lib.Dec.{eqb, ltb}
use lib.ListN.{length, replicate, drop}
use borrow.Author.Tests.{lt-ltb, ltb-true, leb-true, leb-false, not-false}
use Rattle.fields.specs.Pack.{Field, fixed, operand, field}
use Rattle.fields.specs.Matching.{matches, found, apart}
use Rattle.fields.proofs.Matching.{both, is_false, inner, not_both}
use Rattle.refusals.proofs.Order.{AllGood, when-good}
use Rattle.std.specs.Prelude.{Option}
use Rattle.items.specs.declared.Compute.{Compute}
use Rattle.items.specs.declared.DataAccess.{DataAccess}
use Rattle.items.specs.declared.MemoryAccess.{MemoryAccess}
use Rattle.items.specs.declared.VisaInstruction.TheVariants as Visa
use Rattle.words.specs.Forms.{bit_of, is_store, is_post, type2a, whole}
use Rattle.encode.specs.Registers.{is_pm, writes, dm_clashes, pm_clashes, same_dag, memory_clashes}
use Rattle.encode.specs.Layouts.{field_of, layout_of}
use Rattle.encode.proofs.Laid.{three}
use Rattle.bounds.specs.Tables.{at}
use Rattle.bounds.specs.Bounds.{data_access, memory_access}
use Rattle.rows.specs.Rows.{data_access_of, memory_access_of}
use Rattle.rows.specs.Kept.{Below}
use Rattle.std.specs.Prelude.{Option, is_some}
use Rattle.known.specs.declared.Held.{Held}
use Rattle.known.specs.Table.{line3b, computing, beside_at, places_of, writes_to, dual_fine, memory_fine}
use Rattle.back.proofs.Finding.{nth, in_nth, Listed, listed-computing, Stands, stands}
use Rattle.back.proofs.Folded.{direction-back, update-back, dag_back, unmixed}
use Rattle.back.proofs.Shapes.{places8}
use Rattle.back.proofs.Held.{Computed}
use Rattle.back.proofs.Beside.{Besides}
use Rattle.back.proofs.Standing.{makes}

-- ---- 2a and 1a are apart from 3b; a 3a word is no 3b word where its compute has not 3b's lowest bits
listed-apart : (i : ℕ) (ns : List ℕ) → ltb i (length computing) ≡ true → apart line3b.form (nth line3b computing i).form ≡ true → Listed (nth line3b computing i) ns
listed-apart i ns b a =
    listed-computing (nth line3b computing i) ns (in_nth line3b computing i b)
    (λ word m f. is_false _ (λ k. not_both line3b.form (nth line3b computing i).form word a k m))

matches-drop : (n : ℕ) (fs : List Field) (word : ℕ) → matches fs word ≡ true → matches (drop n fs) word ≡ true
matches-drop zero fs word m = m
matches-drop (suc n) [] word m = m
matches-drop (suc n) (fixed hi lo v ∷ fs) word m = matches-drop n fs word (both (eqb (field hi lo word) v) (matches fs word) m).1
matches-drop (suc n) (operand hi lo v ∷ fs) word m = matches-drop n fs word m

unmarked_3a :
    (word n : ℕ) (ns : List ℕ) → found (nth line3b computing 2).form word ≡ ns → at ns 6 ≡ n → matches (fixed 22 16 0b0111111 ∷ []) n ≡ false →
    matches line3b.form word ≡ false
unmarked_3a word n ns f e u = is_false _ marked
  where
    marked : matches line3b.form word ≡ true → ⊥
    marked m =
        let last : field 22 0 word ≡ n = ap (λ (l : List ℕ). at l 6) f ∙ e in
        let low : field 22 16 word ≡ field 22 16 n = inner 22 0 22 16 word n (omega arith) (omega arith) (omega arith) last in
        let mark : matches (fixed 22 16 0b0111111 ∷ []) word ≡ true = matches-drop 9 line3b.form word m in
        let same : matches (fixed 22 16 0b0111111 ∷ []) n ≡ true = ap (λ (k : ℕ). eqb k 0b0111111 && true) (sym low) ∙ mark in
        let z : ◌≡◌ {A = ℕ} 0 1 = cc in omega arith

listed_3a : (ns : List ℕ) → matches (fixed 22 16 0b0111111 ∷ []) (at ns 6) ≡ false → Listed (nth line3b computing 2) ns
listed_3a ns u = listed-computing (nth line3b computing 2) ns (in_nth line3b computing 2 refl) (λ word m f. unmarked_3a word (at ns 6) ns f refl u)

-- ---- kind 32
pub compute-stands :
    (n : ℕ) (places : List ℕ) (one two : ℕ) → Computed n places one two → Stands 3 (type2a (whole n)) (32 ∷ (places ++ replicate 8 0))
compute-stands n places one two c =
    stands (nth line3b computing 0) (three refl) (listed-apart 0 _ refl refl) refl
    (makes (ap is_some c.same) (ap (λ (o : Option Held). 32 ∷ (places_of o ++ replicate 8 0)) c.same))

-- ---- flags as bits
bit_zero : (t : Bool) → eqb (bit_of t) 0 ≡ not t
bit_zero true = refl
bit_zero false = refl

bit-one : (t : Bool) → eqb (bit_of t) 1 ≡ t
bit-one true = refl
bit-one false = refl

-- ---- what an access refuses, as the table tests it
module _ (o : Option Compute) (places : List ℕ) (b : Besides o places) where
  dual_fine_lem :
      (dm pm : DataAccess) → dm.register.0 < 16 → pm.register.0 < 16 → dm_clashes o dm ≡ false → pm_clashes o dm pm ≡ false →
      dual_fine (beside_at (field_of o)) (bit_of (is_store dm.direction)) dm.register.0 (bit_of (is_store pm.direction)) pm.register.0 ≡ true
  unfolding dm_clashes pm_clashes
  dual_fine_lem dm pm h g c d =
      rw (b.same, bit_zero (is_store dm.direction), bit_zero (is_store pm.direction), b.writing dm.register.0 h, b.writing pm.register.0 g, c, d)

  data_writes : (code : ℕ) → (ltb code 16 && writes_to b.beside code) ≡ (ltb code 16 && writes o code)
  data_writes code = go (ltb code 16) refl
    where
      go : (t : Bool) → ltb code 16 ≡ t → (t && writes_to b.beside code) ≡ (t && writes o code)
      go true e = b.writing code (ltb-true code 16 e)
      go false e = refl

  memory-fine :
      (access : MemoryAccess) → access.register.0 < 0x60 → same_dag access ≡ false → memory_clashes o access ≡ false →
      memory_fine (beside_at (field_of o)) (bit_of (is_post access.update)) (bit_of (is_pm access.index.0)) (bit_of (is_store access.direction)) access.register.0 ≡ true
  unfolding same_dag memory_clashes
  memory-fine access h c d =
      rw (
        b.same,
        lt-ltb access.register.0 0x60 h,
        bit-one (is_post access.update),
        bit-one (is_store access.direction),
        bit-one (is_pm access.index.0),
        bit_zero (is_store access.direction),
        data_writes access.register.0,
        c,
        d,
      )

high-back : (n : ℕ) → n < 16 → not (is_pm (n % 256)) ≡ false → n % 256 % 8 + 8 ≡ n
high-back n h e = let l = leb-true 8 (n % 256) (not-false _ e) in omega arith

same_row :
    {places places' : List ℕ} {k a a' b b' c c' d d' e e' f f' g g' h h' : ℕ} → places ≡ places' → a ≡ a' → b ≡ b' → c ≡ c' → d ≡ d' → e ≡ e' → f ≡ f' → g ≡ g' → h ≡ h' →
    k ∷ (places ++ places8 a b c d e f g h) ≡ k ∷ (places' ++ places8 a' b' c' d' e' f' g' h')
same_row o p q r s t u v w = rw (o, p, q, r, s, t, u, v, w)

-- ---- kinds 33 and 34
module _ (o : Option Compute) (places : List ℕ) (i : Besides o places) (a b c d e f g h : ℕ) where
  pub dual_stands :
      Below (data_access ++ data_access) (places8 a b c d e f g h) → AllGood (layout_of (Visa.DualMove o (data_access_of a b c d) (data_access_of e f g h))).refusals →
      Stands 3 (layout_of (Visa.DualMove o (data_access_of a b c d) (data_access_of e f g h))).fields (33 ∷ (places ++ places8 a b c d e f g h))
  unfolding layout_of data_access_of
  dual_stands w p =
      let x = leb-false 8 (c % 256) (when-good _ _ p.0) in
      let y = leb-false 8 (d % 256) (when-good _ _ p.1.0) in
      stands (nth line3b computing 1) (three refl) (listed-apart 1 _ refl refl) refl
      (makes
      (dual_fine_lem o places i (data_access_of a b c d) (data_access_of e f g h) (omega arith) (omega arith) (when-good _ _ p.1.1.1.1.0) (when-good _ _ p.1.1.1.1.1.0))
      (same_row (ap places_of i.same ∙ i.own) (direction-back a w.0) (omega arith) (omega arith) (omega arith) (direction-back e (omega arith)) (omega arith)
      (high-back g (omega arith) (when-good _ _ p.1.1.0)) (high-back h (omega arith) (when-good _ _ p.1.1.1.0))))

  pub memory-stands :
      Below memory_access (places8 a b c d e 0 0 0) → AllGood (layout_of (Visa.MemoryMove o (memory_access_of a b c d e))).refusals →
      Stands 3 (layout_of (Visa.MemoryMove o (memory_access_of a b c d e))).fields (34 ∷ (places ++ places8 a b c d e 0 0 0))
  unfolding layout_of memory_access_of
  memory-stands w p =
      let u = unmixed (is_pm (c % 256)) (is_pm (d % 256)) (when-good _ _ p.0) in
      let x = dag_back (is_pm (c % 256)) (c % 256) refl (omega arith) in
      let y = dag_back (is_pm (c % 256)) (d % 256) (sym u) (omega arith) in
      stands (nth line3b computing 2) (three refl) (listed_3a _ i.unmarked) refl
      (makes (memory-fine o places i (memory_access_of a b c d e) (omega arith) (when-good _ _ p.1.0) (when-good _ _ p.1.1.0))
      (same_row (ap places_of i.same ∙ i.own) (direction-back a w.0) (omega arith) (omega (arith, x)) (omega (arith, y)) (update-back e (omega arith)) refl refl refl))
