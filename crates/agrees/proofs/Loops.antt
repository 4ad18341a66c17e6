-- The loop table once i rows are taken in: the records of the open loops stand at the front; once they are closed, what was used is zero and the rest as lent.
use mathlib.Core.Path.{◌≡◌, refl, sym, ap, ap₂, ◌∙◌, subst}
use mathlib.Core.Logic.{◌≢◌, ⊎_elim}
use mathlib.Core.Bool.{Bool, true, false, ◌&&◌}
use mathlib.Core.List.{List, ◌∷◌, ◌++◌}
use Prim.Native.Nat.{ℕ, zero, suc, ◌+◌, ◌-◌, ◌≤◌, ◌<◌, max}
use native.Mathlib.Omega.{arith}
use native.Mathlib.Nat.{eq-or-lt_of_le}
use lib.ListN.{length, get_or, set, drop, replicate, length-replicate, get_or-replicate, get_or-append}
use lib.Seq.{set-set, set_comm, set-get_or, set_at, drop-cons, get_or-set_same, get_or-set_other}
use lib.Dec.{ltb, eqb}
use borrow.Author.Tests.{eq-eqb, ne_eqb, ltb-true, ltb-false}
use Rattle.items.specs.declared.Item.TheVariants.{Instruction, Label, Jump, LoopBegin, LoopEnd}
use Rattle.std.specs.Prelude.{Ok, Err}
use Rattle.coded.specs.Coded.{Coded}
use Rattle.items.specs.declared.LoopCount.{LoopCount}
use Rattle.items.specs.declared.LoopMode.{LoopMode}
use Rattle.places.specs.declared.OpenLoop.{OpenLoop}
use Rattle.places.specs.Items.{about, place, entries, nest}
use Rattle.places.specs.Left.{Lent, zero_loop}
use Rattle.places.specs.Looking.{latest, deepest}
use Rattle.prefixes.proofs.Nesting.{nest-deepest}
use Rattle.machine.specs.declared.State.{State}
use Rattle.machine.specs.Machine.{Mem, next, count_number, mode_number, begin_record}
use Rattle.machine.specs.Finish.{shut}
use Rattle.agrees.proofs.Prefix.{mem, lens-is, state_is}
use Rattle.agrees.proofs.Fits.{Fits, fits-less}

-- ---- closing and zeros
-- a record above those that are closed
shut-set : (d i : ℕ) (ks : List OpenLoop) (v : OpenLoop) → d ≤ i → shut d (set ks i v) ≡ set (shut d ks) i v
shut-set zero i ks v h = refl
shut-set (suc d) i ks v h = ap (shut d) (set_comm ks i d v zero_loop (let w : i ≢ d = omega arith in w)) ∙ shut-set d i (set ks d zero_loop) v (omega arith)

-- the first e records zero, the rest as lent
abbrev pub Zeros : ℕ → List OpenLoop → List OpenLoop
Zeros e k = replicate e zero_loop ++ drop e k

one_more : (e : ℕ) (rest : List OpenLoop) → replicate e zero_loop ++ (zero_loop ∷ rest) ≡ replicate (suc e) zero_loop ++ rest
one_more zero rest = refl
one_more (suc e) rest = ap (λ (y : List OpenLoop). zero_loop ∷ y) (one_more e rest)

-- a zero record among them, or right after them
zero_in : (d e : ℕ) (k : List OpenLoop) → d < e → set (Zeros e k) d zero_loop ≡ Zeros e k
zero_in d e k h =
    let n = length-replicate e zero_loop in
    let z : get_or (Zeros e k) d zero_loop ≡ zero_loop = get_or-append (replicate e zero_loop) (drop e k) zero_loop d (omega arith) ∙ get_or-replicate e d zero_loop zero_loop h in
    ap (set (Zeros e k) d) (sym z) ∙ set-get_or (Zeros e k) d zero_loop

zero_next : (e : ℕ) (k : List OpenLoop) → e < length k → set (Zeros e k) e zero_loop ≡ Zeros (suc e) k
zero_next e k h =
    ap (λ (y : List OpenLoop). set (replicate e zero_loop ++ y) e zero_loop) (drop-cons k e zero_loop h)
    ∙ set_at (replicate e zero_loop) (get_or k e zero_loop) (drop (suc e) k) zero_loop e (length-replicate e zero_loop)
    ∙ one_more e (drop (suc e) k)

-- one level deeper, over d open loops
zero_begin : (d e : ℕ) (k : List OpenLoop) → d ≤ e → d < length k → set (Zeros e k) d zero_loop ≡ Zeros (max e (suc d)) k
zero_begin d e k h room = go (ltb e (suc d)) refl
  where
    go : (t : Bool) → ltb e (suc d) ≡ t → set (Zeros e k) d zero_loop ≡ Zeros (max e (suc d)) k
    go true q =
        let u = ltb-true e (suc d) q in
        let same : d ≡ e = omega arith in
        subst (λ (y : ℕ). set (Zeros y k) d zero_loop ≡ Zeros (suc d) k) same (zero_next d k room)
        ∙ ap (λ (y : ℕ). Zeros y k) (let w : suc d ≡ max e (suc d) = omega arith in w)
    go false q =
        let u = ltb-false e (suc d) q in
        zero_in d e k (omega arith) ∙ ap (λ (y : ℕ). Zeros y k) (let w : e ≡ max e (suc d) = omega arith in w)

-- ---- the record of a loop start
abbrev pub numbers : Coded → ℕ × ℕ
numbers (Ok (Instruction v)) = (0, 0)
numbers (Ok (Label a b)) = (0, 0)
numbers (Ok (Jump c a b)) = (0, 0)
numbers (Ok (LoopBegin c m)) = (count_number c, mode_number m)
numbers (Ok LoopEnd) = (0, 0)
numbers (Err why) = (0, 0)

module _ (it : ℕ → Coded) where
  abbrev record_by : Coded → ℕ → OpenLoop
  record_by x b = record { place = place it b; first = entries it b + 1; count = (numbers x).0; mode = (numbers x).1 }

  abbrev pub record_at : ℕ → OpenLoop
  record_at b = record_by (it b) b

  -- the latest loop start before i to level d
  abbrev pub start_at : ℕ → ℕ → ℕ
  start_at d i = latest (λ q. eqb (about (it q)).opens 1 && eqb (nest it q + 1) d) (λ q. q) 0 i

  module _ (lent : Lent) where
    abbrev M : ℕ → Mem
    M i = mem it lent i

    record Here (i : ℕ) : Type 0 where
      records : (q : ℕ) → q < nest it i → get_or (M i).lent.loops q zero_loop ≡ record_at (start_at (suc q) i)
      zeros : shut (nest it i) (M i).lent.loops ≡ Zeros (deepest it i) lent.loops

    -- a row that opens nothing leaves the deepest nesting
    deepest-same : (i : ℕ) → (about (it i)).opens ≡ 0 → deepest it i ≡ deepest it (suc i)
    deepest-same i o = let u = nest-deepest it i in omega arith

    plain : (i : ℕ) {x : Coded} → it i ≡ x → (about x).opens ≡ 0 → (about x).closes ≡ 0 → (next i x (M i)).lent.loops ≡ (M i).lent.loops → Here i → Here (suc i)
    plain i {x} e a b s h =
        let o : (about (it i)).opens ≡ 0 = ap (λ (y : Coded). (about y).opens) e ∙ a in
        let c : (about (it i)).closes ≡ 0 = ap (λ (y : Coded). (about y).closes) e ∙ b in
        let same : (M (suc i)).lent.loops ≡ (M i).lent.loops = ap (λ (y : Coded). (next i y (M i)).lent.loops) e ∙ s in
        record {
          records = λ q u. ap (λ (y : List OpenLoop). get_or y q zero_loop) same ∙ h.records q (omega arith) ∙ rw o refl;
          zeros = ap₂ shut (let w : nest it (suc i) ≡ nest it i = omega arith in w) same ∙ h.zeros ∙ ap (λ (y : ℕ). Zeros y lent.loops) (deepest-same i o);
        }

    -- a loop start pushes its record
    begins : (i : ℕ) (c : LoopCount) (m : LoopMode) → it i ≡ Ok (LoopBegin c m) → Fits it lent (suc i) → Here i → Here (suc i)
    begins i c m e f h =
        let o : (about (it i)).opens ≡ 1 = ap (λ (x : Coded). (about x).opens) e in
        let z : (about (it i)).closes ≡ 0 = ap (λ (x : Coded). (about x).closes) e in
        let n : nest it (suc i) ≡ suc (nest it i) = omega arith in
        let u = nest-deepest it i in
        let v = nest-deepest it (suc i) in
        let room : nest it i < length lent.loops = omega (arith, f.loops) in
        let inside : nest it i < length (M i).lent.loops = omega (arith, (lens-is it lent i).K) in
        let now : start_at (suc (nest it i)) (suc i) ≡ i = rw (o, eq-eqb (nest it i + 1) (suc (nest it i)) (omega arith)) refl in
        let pushed : (M (suc i)).lent.loops ≡ set (M i).lent.loops (nest it i) (record_at i) =
        ap (λ (x : Coded). (next i x (M i)).lent.loops) e
        ∙ ap (λ (s : State). set (M i).lent.loops s.depth (begin_record s c m)) (state_is it lent i)
        ∙ ap (λ (x : Coded). set (M i).lent.loops (nest it i) (record_by x i)) (sym e) in
        let below : (q : ℕ) → q < nest it i → get_or (M (suc i)).lent.loops q zero_loop ≡ record_at (start_at (suc q) (suc i)) = λ q w.
        ap (λ (y : List OpenLoop). get_or y q zero_loop) pushed ∙ get_or-set_other (M i).lent.loops (nest it i) q (record_at i) zero_loop (let d : q ≢ nest it i = omega arith in d)
        ∙ h.records q w ∙ rw (o, ne_eqb (nest it i + 1) (suc q) (λ z. omega arith)) refl in
        let top : get_or (M (suc i)).lent.loops (nest it i) zero_loop ≡ record_at (start_at (suc (nest it i)) (suc i)) =
        ap (λ (y : List OpenLoop). get_or y (nest it i) zero_loop) pushed ∙ get_or-set_same (M i).lent.loops (nest it i) (record_at i) zero_loop inside ∙ ap record_at (sym now) in
        record {
          records = λ q w.
              ⊎_elim (λ s. subst (λ (y : ℕ). get_or (M (suc i)).lent.loops y zero_loop ≡ record_at (start_at (suc y) (suc i))) (sym s) top) (λ lt. below q lt) (eq-or-lt_of_le (let d : q ≤ nest it i = omega arith in d));
          zeros =
              ap₂ shut n pushed ∙ ap (shut (nest it i)) (set-set (M i).lent.loops (nest it i) (record_at i) zero_loop) ∙ shut-set (nest it i) (nest it i) (M i).lent.loops zero_loop (omega arith)
              ∙ ap (λ (y : List OpenLoop). set y (nest it i) zero_loop) h.zeros ∙ zero_begin (nest it i) (deepest it i) lent.loops u room
              ∙ ap (λ (y : ℕ). Zeros (max (deepest it i) y) lent.loops) (sym n);
        }

    -- a loop end pops the innermost, and zeroes it
    ends : (i : ℕ) → it i ≡ Ok LoopEnd → Fits it lent (suc i) → Here i → Here (suc i)
    ends i e f h =
        let o : (about (it i)).opens ≡ 0 = ap (λ (x : Coded). (about x).opens) e in
        let z : (about (it i)).closes ≡ 1 = ap (λ (x : Coded). (about x).closes) e in
        let some : 0 < nest it i = f.ends i (omega arith) e in
        let n : nest it i ≡ suc (nest it (suc i)) = omega arith in
        let popped : (M (suc i)).lent.loops ≡ set (M i).lent.loops (nest it (suc i)) zero_loop =
        ap (λ (x : Coded). (next i x (M i)).lent.loops) e ∙ ap (λ (s : State). set (M i).lent.loops (s.depth - 1) zero_loop) (state_is it lent i)
        ∙ ap (λ (y : ℕ). set (M i).lent.loops y zero_loop) (let w : nest it i - 1 ≡ nest it (suc i) = omega arith in w) in
        record {
          records = λ q w.
              ap (λ (y : List OpenLoop). get_or y q zero_loop) popped ∙ get_or-set_other (M i).lent.loops (nest it (suc i)) q zero_loop zero_loop (let d : q ≢ nest it (suc i) = omega arith in d)
              ∙ h.records q (omega arith) ∙ rw o refl;
          zeros = ap (shut (nest it (suc i))) popped ∙ ap (λ (y : ℕ). shut y (M i).lent.loops) (sym n) ∙ h.zeros ∙ ap (λ (y : ℕ). Zeros y lent.loops) (deepest-same i o);
        }

    by_row : (i : ℕ) (x : Coded) → it i ≡ x → Fits it lent (suc i) → Here i → Here (suc i)
    by_row i (Ok (Instruction v)) e f h = plain i e refl refl refl h
    by_row i (Ok (Label a b)) e f h = plain i e refl refl refl h
    by_row i (Ok (Jump c a b)) e f h = plain i e refl refl refl h
    by_row i (Ok (LoopBegin c m)) e f h = begins i c m e f h
    by_row i (Ok LoopEnd) e f h = ends i e f h
    by_row i (Err why) e f h = plain i e refl refl refl h

    here : (i : ℕ) → Fits it lent i → Here i
    here zero f = record { records = λ q u. absurd (omega arith); zeros = refl }
    here (suc i) f = by_row i (it i) refl f (here i (fits-less f))

    pub records_are : (i : ℕ) → Fits it lent i → (q : ℕ) → q < nest it i → get_or (mem it lent i).lent.loops q zero_loop ≡ record_at (start_at (suc q) i)
    records_are i f = (here i f).records

    pub zeros_are : (i : ℕ) → Fits it lent i → shut (nest it i) (mem it lent i).lent.loops ≡ Zeros (deepest it i) lent.loops
    zeros_are i f = (here i f).zeros
