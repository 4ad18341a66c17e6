-- The parcels while the waiting jumps are settled one by one: those of a number below q have what the items say, the others wait.
use mathlib.Core.Path.{◌≡◌, refl, sym, ap, ap₂, ◌∙◌, subst}
use mathlib.Core.Logic.{⊎_elim, ◌≢◌}
use mathlib.Core.Bool.{Bool, true, false, cond}
use mathlib.Core.List.{List, ◌++◌}
use Prim.Native.Nat.{ℕ, zero, suc, ◌+◌, ◌≤◌, ◌<◌}
use native.Mathlib.Omega.{arith}
use native.Mathlib.Nat.{eq-or-lt_of_le}
use lib.ListN.{length, drop}
use lib.Seq.{sets}
use lib.Dec.{ltb}
use borrow.Author.Tests.{lt-ltb, le-ltb}
use Rattle.items.specs.declared.Item.TheVariants.{Instruction, Label, Jump, LoopBegin, LoopEnd}
use Rattle.std.specs.Prelude.{Ok, Err}
use Rattle.coded.specs.Coded.{Coded}
use Rattle.encode.specs.Encoding.{jump_form, settled}
use Rattle.places.specs.Items.{Kernel, size, is_jump, total, place}
use Rattle.places.specs.Left.{Lent, jump_parcels, left, gather, zeros}
use Rattle.places.specs.Looking.{Found, at, nothing, labelled, closer}
use Rattle.places.specs.Verdict.{jump_offset}
use Rattle.places.proofs.Emitted.{settled-three, emits}
use Rattle.prefixes.proofs.Tests.{order, same_row}
use Rattle.prefixes.proofs.Single.{Single}
use Rattle.prefixes.proofs.Totals.{total-up}
use Rattle.tables.specs.Tables.{KernelFine}
use Rattle.machine.specs.Finish.{settles}
use Rattle.settling.specs.Settling.{aim_form, aimed}
use Rattle.tables.proofs.Which.{IsJump, jump_or_not, jump-row}
use Rattle.tables.proofs.Stores.{gather_eq, gather-length, gather_patch}
use Rattle.agrees.proofs.Fits.{Fits}
use Rattle.tables.proofs.Lookups.{placed}
use Rattle.agrees.proofs.Parcels.{words, words-length, parts, parcels_are}
use Rattle.agrees.proofs.Aims.{end_of, jumps_at, settle_is}

pub pick_same : {A : Type 0} (t : Bool) (x y : A) → x ≡ y → cond t x y ≡ y
pick_same true x y e = e
pick_same false x y e = refl

module _ (k : Kernel) where
  abbrev it : ℕ → Coded
  it = k.it

  abbrev n : ℕ
  n = k.n

  -- ---- what the items say of row q
  abbrev pub final : ℕ → List ℕ
  final q = (left k q (k.it q)).parcels

  -- it differs from what stands there before only at jumps
  no_wait : (q : ℕ) (x : Coded) → is_jump x ≡ 0 → (left k q x).parcels ≡ words it (closer it n q) q x
  no_wait q (Ok (Instruction v)) e = refl
  no_wait q (Ok (Label a b)) e = refl
  no_wait q (Ok (Jump c a b)) e = absurd (omega arith)
  no_wait q (Ok (LoopBegin c m)) e = refl
  no_wait q (Ok LoopEnd) e = refl
  no_wait q (Err why) e = refl

  -- ---- while q jumps are settled
  abbrev pub stage : ℕ → ℕ → List ℕ
  stage q r = cond (ltb (total is_jump k.it r) q) (final r) (parts k.it k.n r)

  pub stage-length : (q i : ℕ) → length (gather (stage q) i) ≡ place k.it i
  stage-length q i = gather-length (stage q) (λ r. place it r) refl (λ r. ap (λ (y : ℕ). place it r + y) (sym (one r (ltb (total is_jump it r) q)))) i
    where
      one : (r : ℕ) (t : Bool) → length (cond t (final r) (parts it n r)) ≡ size (it r)
      one r true = emits k r (it r)
      one r false = words-length it (closer it n r) r (it r)

  -- two jumps of one number are one
  one_number : (x y : ℕ) → is_jump (it x) ≡ 1 → is_jump (it y) ≡ 1 → total is_jump it x ≡ total is_jump it y → x ≡ y
  one_number x y e f t =
      same_row x y (λ z. let u = total-up is_jump it (suc x) y z in omega arith) (λ z. let u = total-up is_jump it (suc y) x z in omega arith)

  below : (x q : ℕ) → x ≢ q → ltb x q ≡ ltb x (suc q)
  below x q f = ⊎_elim (λ h. lt-ltb x q h ∙ sym (lt-ltb x (suc q) (omega arith))) (λ h. let g : suc q ≤ x = omega arith in le-ltb x q h ∙ sym (le-ltb x (suc q) g)) (order x q)

  -- the jump of row r, number q
  module _ (r q : ℕ) (y : IsJump (it r)) (t : total is_jump it r ≡ q) where
    other : (x : ℕ) → x ≢ r → stage q x ≡ stage (suc q) x
    other x f =
        ⊎_elim (λ z. let e = no_wait x (it x) z in pick_same (ltb (total is_jump it x) q) (final x) (parts it n x) e ∙ sym (pick_same (ltb (total is_jump it x) (suc q)) (final x) (parts it n x) e))
        (λ z.
        let g : total is_jump it x ≢ q = λ w. f (one_number x r (ap is_jump z.jump) (ap is_jump y.jump) (w ∙ sym t)) in
        ap (λ (u : Bool). cond u (final x) (parts it n x)) (below (total is_jump it x) q g))
        (jump_or_not (it x))

    waits_there : stage q r ≡ zeros
    waits_there = rw (le-ltb (total is_jump it r) q (let h : q ≤ total is_jump it r = omega arith in h)) (ap (words it (closer it n r) r) y.jump)

    settled-there : stage (suc q) r ≡ jump_parcels it y.condition r (labelled k y.start y.len n)
    settled-there = rw (lt-ltb (total is_jump it r) (suc q) (let h : total is_jump it r < suc q = omega arith in h)) (ap (λ (x : Coded). (left k r x).parcels) y.jump)

    -- an undefined label leaves the zeros
    settle : r < n → (rest : List ℕ) (f : Found) → labelled k y.start y.len n ≡ f → aimed y.condition (place it r) (placed it f) (gather (stage q) n ++ rest) ≡ gather (stage (suc q)) n ++ rest
    unfolding aim_form
    settle h rest (at label) e =
        let new : stage (suc q) r ≡ settled (jump_form y.condition (jump_offset it label r) false) = settled-there ∙ ap (jump_parcels it y.condition r) e in
        let ln : length (stage (suc q) r) ≡ length (stage q r) = ap length new ∙ settled-three (jump_form y.condition (jump_offset it label r) false) ∙ sym (ap length waits_there) in
        ap (sets (gather (stage q) n ++ rest) (place it r)) (sym new) ∙ gather_patch (stage q) (stage (suc q)) rest n r (place it r) h (stage-length q r) ln (λ x u. other x)
    settle h rest nothing e =
        let same : stage q r ≡ stage (suc q) r = waits_there ∙ sym (settled-there ∙ ap (jump_parcels it y.condition r) e) in
        ap (λ (x : List ℕ). x ++ rest)
        (gather_eq (stage q) (stage (suc q)) n
        (λ x u. ⊎_elim (λ lt. other x (let g : x ≢ r = omega arith in g)) (λ ge. ⊎_elim (λ v. subst (λ (z : ℕ). stage q z ≡ stage (suc q) z) v same) (λ gt. other x (let g : x ≢ r = omega arith in g)) (eq-or-lt_of_le ge)) (order x r)))

  module _ (lent : Lent) (f : Fits k.it lent k.n) (single : Single k k.n) (fine : KernelFine k) where
    pub staged : (q : ℕ) → q ≤ total is_jump k.it k.n → jumps_at k lent q ≡ gather (stage q) k.n ++ drop (place k.it k.n) lent.parcels
    staged zero h = parcels_are k lent fine n f ∙ ap (λ (x : List ℕ). x ++ drop (place it n) lent.parcels) (gather_eq (parts it n) (stage 0) n (λ r u. rw (le-ltb (total is_jump it r) 0 (omega arith)) refl))
    staged (suc q) h =
        let c = jump-row it n q (omega arith) in
        ap₂ (settles k (end_of k lent)) (sym c.number) (staged q (omega arith))
        ∙ settle_is k lent f single c.row c.before c.is (gather (stage q) n ++ drop (place it n) lent.parcels)
        ∙ settle c.row q c.is c.number c.before (drop (place it n) lent.parcels) (labelled k c.is.start c.is.len n) refl

    pub aimed_are : jumps_at k lent (total is_jump k.it k.n) ≡ gather final k.n ++ drop (place k.it k.n) lent.parcels
    aimed_are = staged (total is_jump it n) (omega arith) ∙ ap (λ (x : List ℕ). x ++ drop (place it n) lent.parcels) (gather_eq (stage (total is_jump it n)) final n all_settled)
      where
        all_settled : (r : ℕ) → r < n → stage (total is_jump it n) r ≡ final r
        all_settled r h =
            ⊎_elim (λ z. let e = no_wait r (it r) z in pick_same (ltb (total is_jump it r) (total is_jump it n)) (final r) (parts it n r) e ∙ sym e)
            (λ y.
            let one : is_jump (it r) ≡ 1 = ap is_jump y.jump in
            let up = total-up is_jump it (suc r) n h in
            rw (lt-ltb (total is_jump it r) (total is_jump it n) (let w : total is_jump it r < total is_jump it n = omega arith in w)) refl)
            (jump_or_not (it r))
