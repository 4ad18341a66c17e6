-- What holds of each refusal that a build may meet holds of its verdict: one walk through document 01's order.
use Prim.Native.Nat.{ℕ, ◌+◌, ◌*◌, ◌<◌}
use native.Mathlib.Omega.{arith}
use mathlib.Core.Path.{◌≡◌, refl, sym, subst}
use mathlib.Core.Logic.{⊎_elim}
use mathlib.Core.Bool.{Bool, true, false, cond, ◌&&◌}
use mathlib.Core.List.{List, [], ◌∷◌}
use lib.Dec.{ltb, eqb}
use lib.ListN.{length, take, drop}
use borrow.Author.Tests.{eqb-false}
use Rattle.refusals.specs.declared.Told.{Told}
use Rattle.std.specs.Prelude.{Ok, Err}
use Rattle.refusals.specs.Answers.{Verdict}
use Rattle.coded.specs.Coded.{Coded, read_verdict, encodes}
use Rattle.refusals.specs.declared.Refusal.{Refusal}
use Rattle.refusals.specs.declared.Refusal.TheVariants.{RowSlice, DuplicateLabel, UndefinedLabel, EmptyLoop, UnclosedLoop, UnmatchedLoopEnd, SharedLoopEnd, LoopTailNotFullWidth, BranchInLoop, LabelInLoop, NoRoomForParcels, NoRoomForLabels, NoRoomForJumps, NoRoomForLoops}
use Rattle.refusals.specs.Numbers.{answer_in, answered}
use Rattle.refusals.specs.Calls.{reading, encoding}
use Rattle.refusals.specs.Order.{when, or_else, first, first_of}
use Rattle.refusals.proofs.Within.{Tells, holds-when, holds-first}
use Rattle.items.specs.Kinds.{is_branch}
use Rattle.items.specs.declared.Condition.{Condition}
use Rattle.encode.specs.Encoding.{form_verdict, jump_form}
use Rattle.encode.proofs.Numbers.{loop_numbers, jump-tells, loop-tells}
use Rattle.rows.specs.Rows.{row_width, well_formed}
use Rattle.items.specs.declared.Item.TheVariants.{Instruction, Label, Jump, LoopBegin, LoopEnd}
use Rattle.coded.proofs.Numbers.{row-tells, encodes-tells}
use Rattle.places.specs.Items.{Kernel, kernel_of, is_label, is_jump, size_of, total, place, address, entries, nest}
use Rattle.places.specs.Looking.{Found, at, nothing, is_found, opener, sharer, short_one, labelled}
use Rattle.places.specs.Verdict.{when_found, jump_offset, loop_row, reach, reaches, reach_at, faults, verdict_at, verdict}
use Rattle.places.specs.declared.Rooms.{Rooms}
use Rattle.places.specs.Left.{Lent, rooms_of_lent, outcome, built, Builds}
use Rattle.refusals.proofs.Order.{all_first, either, stop-first}
use Rattle.rules.proofs.Exactly.{parts}

-- what holds of a good verdict, and of each row, holds of the rows in turn
rows_in_turn : (P : Verdict → Type 0) → P (Ok tt) → (f : ℕ → Verdict) (n : ℕ) → ((i : ℕ) → i < n → P (f i)) → P (first_of f n)
rows_in_turn P good f n h =
    ⊎_elim (λ all. subst P (sym (all_first f n all)) good)
    (λ s. subst P (sym (stop-first f n s)) (subst P s.fails (h s.row s.before)))
    (either f n)

-- the word of a loop start tells 20 or 21
loop-row : (it : ℕ → Coded) (e b : ℕ) (x : Coded) → Tells loop_numbers (form_verdict (loop_row it e b x))
loop-row it e b (Ok (Instruction c)) = refl
loop-row it e b (Ok (Label s l)) = refl
loop-row it e b (Ok (Jump c s l)) = refl
loop-row it e b (Ok (LoopBegin c m)) = loop-tells c m _
loop-row it e b (Ok LoopEnd) = refl
loop-row it e b (Err r) = refl

module _ (k : Kernel) (P : Verdict → Type 0) where
  open k use {it, n}

  -- P holds of each refusal, in the row that meets it; of 26 where the end closes a loop
  pub record Holds : Type 0 where
    pub good : P (Ok tt)
    pub reads : (v : Verdict) → Tells reading v → P v
    pub codes : (v : Verdict) → Tells encoding v → P v
    pub loops : (v : Verdict) → Tells loop_numbers v → P v
    pub branch : P (Err BranchInLoop)
    pub label : (i a b : ℕ) → it i ≡ Ok (Label a b) → P (Err (LabelInLoop a b)) × P (Err (DuplicateLabel a b))
    pub undefined : (i : ℕ) (c : Condition) (a b : ℕ) → it i ≡ Ok (Jump c a b) → P (Err (UndefinedLabel a b))
    pub unmatched : P (Err UnmatchedLoopEnd)
    pub empty : P (Err EmptyLoop)
    pub shared : P (Err SharedLoopEnd)
    pub tail : (e : ℕ) → e < n → it e ≡ Ok LoopEnd → 0 < nest it e → P (when_found (short_one it e) (λ q. LoopTailNotFullWidth (address it q)))
    pub unclosed : P (Err UnclosedLoop)
    pub parcels-room : (m : ℕ) → P (Err (NoRoomForParcels m))
    pub labels-room : (m : ℕ) → P (Err (NoRoomForLabels m))
    pub jumps-room : (m : ℕ) → P (Err (NoRoomForJumps m))
    pub loops-room : (m : ℕ) → P (Err (NoRoomForLoops m))

module _ (k : Kernel) (lent : Lent) (P : Verdict → Type 0) (p : Holds k P) where
  open k use {it, n}

  abbrev r : Rooms
  r = rooms_of_lent lent

  if : (b : Bool) (w : Refusal) → P (Err w) → P (when b w)
  if b w h = holds-when P p.good b w h

  if-found : (f : Found) (w : Refusal) → P (Err w) → P (when_found f (λ q. w))
  if-found (at q) w h = h
  if-found nothing w h = p.good

  -- what is looked at once 24 is not met
  abbrev closing : ℕ → List Verdict
  closing e =
      when (eqb (entries it e) (entries it (opener it e) + 1)) EmptyLoop
      ∷ when_found (sharer it e) (λ q. SharedLoopEnd)
      ∷ when_found (short_one it e) (λ q. LoopTailNotFullWidth (address it q))
      ∷ form_verdict (loop_row it e (opener it e) (it (opener it e)))
      ∷ []

  end-holds : (e : ℕ) → e < n → it e ≡ Ok LoopEnd → (b : Bool) → eqb (nest it e) 0 ≡ b → P (or_else (when b UnmatchedLoopEnd) (first (closing e)))
  end-holds e h z true q = p.unmatched
  end-holds e h z false q =
      let d : nest it e ≡ 0 → ⊥ = eqb-false _ _ q in
      holds-first P p.good (closing e) (
        if (eqb (entries it e) (entries it (opener it e) + 1)) EmptyLoop p.empty,
        (
          if-found (sharer it e) SharedLoopEnd p.shared,
          (p.tail e h z (omega arith), (p.loops (form_verdict (loop_row it e (opener it e) (it (opener it e)))) (loop-row it e (opener it e) (it (opener it e))), tt)),
        ),
      )

  room_for : (m size i : ℕ) → P (when (ltb m (place it i + size)) (NoRoomForParcels m))
  room_for m size i = if (ltb m (place it i + size)) (NoRoomForParcels m) (p.parcels-room m)

  module _ (reads : (i : ℕ) → Tells reading (read_verdict (it i))) (codes : (i : ℕ) → Tells encoding (encodes (it i))) where
    row-holds : (i : ℕ) → i < n → (x : Coded) → it i ≡ x → P (first (faults k r i x))
    row-holds i h (Ok (Instruction c)) e =
        holds-first P p.good (faults k r i (Ok (Instruction c))) (
          if (is_branch c.kind && ltb 0 (nest it i)) BranchInLoop p.branch,
          (
            p.codes (form_verdict c.form) (subst (λ (x : Coded). Tells encoding (encodes x)) e (codes i)),
            (room_for r.parcels (size_of c.form) i, tt),
          ),
        )
    row-holds i h (Ok (Label a b)) e =
        let l = p.label i a b e in
        holds-first P p.good (faults k r i (Ok (Label a b))) (
          if (ltb 0 (nest it i)) (LabelInLoop a b) l.0,
          (
            if (is_found (labelled k a b i)) (DuplicateLabel a b) l.1,
            (if (ltb r.labels (total is_label it i + 1)) (NoRoomForLabels r.labels) (p.labels-room r.labels), tt),
          ),
        )
    row-holds i h (Ok (Jump c a b)) e =
        holds-first P p.good (faults k r i (Ok (Jump c a b))) (
          if (ltb 0 (nest it i)) BranchInLoop p.branch,
          (
            if (ltb r.jumps (total is_jump it i + 1)) (NoRoomForJumps r.jumps) (p.jumps-room r.jumps),
            (room_for r.parcels 3 i, tt),
          ),
        )
    row-holds i h (Ok (LoopBegin c m)) e =
        holds-first P p.good (faults k r i (Ok (LoopBegin c m))) (
          if (ltb r.loops (nest it i + 1)) (NoRoomForLoops r.loops) (p.loops-room r.loops),
          (room_for r.parcels 3 i, tt),
        )
    row-holds i h (Ok LoopEnd) e = end-holds i h e (eqb (nest it i) 0) refl
    row-holds i h (Err w) e = p.reads (Err w) (subst (λ (x : Coded). Tells reading (read_verdict x)) e (reads i))

    reach-holds : (c : Condition) (i a b : ℕ) → it i ≡ Ok (Jump c a b) → (f : Found) → P (reach it c i a b f)
    reach-holds c i a b e (at q) = p.codes (form_verdict (jump_form c (jump_offset it q i) false)) (jump-tells c (jump_offset it q i) false)
    reach-holds c i a b e nothing = p.undefined i c a b e

    jump-holds : (i : ℕ) (x : Coded) → it i ≡ x → P (reaches k i x)
    jump-holds i (Ok (Instruction c)) e = p.good
    jump-holds i (Ok (Label a b)) e = p.good
    jump-holds i (Ok (Jump c a b)) e = reach-holds c i a b e (labelled k a b n)
    jump-holds i (Ok (LoopBegin c m)) e = p.good
    jump-holds i (Ok LoopEnd) e = p.good
    jump-holds i (Err w) e = p.good

    pub verdict-holds : P (verdict k (rooms_of_lent lent))
    verdict-holds =
        holds-first P p.good (parts k lent) (
          rows_in_turn P p.good (verdict_at k r) n (λ i h. row-holds i h (it i) refl),
          (
            if (ltb 0 (nest it n)) UnclosedLoop p.unclosed,
            (rows_in_turn P p.good (reach_at k) n (λ i h. jump-holds i (it i) refl), tt),
          ),
        )

-- ---- what a build tells: what follows of its answer from what holds of its verdict, and of refusal 1
module _ (rows names : List ℕ) (lent : Lent) (P : Verdict → Type 0) (p : Holds (kernel_of rows names) P) (slice : P (Err RowSlice)) where
  abbrev rowed : ℕ → List ℕ
  rowed i = take row_width (drop (i * row_width) rows)

  pub build-holds : (Q : Told → Type 0) → ((row : ℕ) (v : Verdict) (count : ℕ) → P v → Q (answered (answer_in row v count))) → (t : Told) (x : Lent) → Builds rows names lent t x → Q t
  build-holds Q so t x b = subst Q (sym b.answer) (go (well_formed (length rows)))
    where
      go : (w : Bool) → Q (answered (cond w (built (kernel_of rows names) lent) (outcome (Err (record { why = RowSlice; row = 0 })) lent)).answer)
      go true =
          so _ (verdict (kernel_of rows names) (rooms_of_lent lent)) _
          (verdict-holds (kernel_of rows names) lent P p (λ i. row-tells (rowed i) (length names)) (λ i. encodes-tells (rowed i) (length names)))
      go false = so 0 (Err RowSlice) 0 slice
