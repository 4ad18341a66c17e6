-- What the pass keeps in mind after i rows says how the slots of the jumps before i stand.
use mathlib.Core.Path.{◌≡◌, refl, ap, ◌∙◌, subst}
use mathlib.Core.Bool.{Bool, true, false, cond, and-false}
use mathlib.Core.List.{List, [], ◌∷◌, ◌++◌}
use Prim.Native.Nat.{ℕ, ◌+◌, ◌≤◌, ◌<◌}
use lib.ListN.{drop}
use native.Mathlib.Omega.{arith}
use borrow.Author.Count.{below_more}
use Rattle.refusals.specs.declared.Refusal.{Refusal}
use Rattle.refusals.specs.declared.Refusal.TheVariants.{BrokenSlot}
use Rattle.std.specs.Prelude.{Ok, Err}
use Rattle.refusals.specs.Answers.{Answer, Verdict}
use Rattle.coded.specs.Coded.{Coded, read_verdict}
use Rattle.refusals.specs.Numbers.{answer_of}
use Rattle.refusals.specs.Order.{first_of, passing, first_in, foremost}
use Rattle.refusals.proofs.Order.{AllPass, StopsAt, all_first, stop-first, stop-passing}
use Rattle.slots.specs.declared.Watch.{Watch}
use Rattle.slots.specs.declared.Watch.TheVariants.{Free, Both, Second, Broken}
use Rattle.slots.specs.Slots.{opens, fills, items, label, unlabelled, filled, slot_verdict}
use Rattle.slots.specs.Watch.{after, ending}
use Rattle.slots.proofs.Others.{label-reads, fills-opens}
use Rattle.slots.proofs.Items.{items-from, items-end}

module _ (it : ℕ → Coded) (n : ℕ) where
  abbrev slot : ℕ → Verdict
  slot j = slot_verdict it n j

  -- ---- the items from row i on, labels left out
  abbrev rest : ℕ → List Coded
  rest i = unlabelled (drop i (items it n))

  rest-label : (i : ℕ) → i < n → label (it i) ≡ true → rest i ≡ rest (i + 1)
  rest-label i l e = ap unlabelled (items-from it n i l) ∙ rw e

  rest-item : (i : ℕ) → i < n → label (it i) ≡ false → rest i ≡ it i ∷ rest (i + 1)
  rest-item i l e = ap unlabelled (items-from it n i l) ∙ rw e

  rest-none : rest n ≡ []
  rest-none = ap unlabelled (items-end it n)

  -- ---- the verdict of the jump in row j
  slot-none : (j : ℕ) → opens (it j) ≡ false → slot j ≡ Ok tt
  slot-none j e = rw e

  slot-filled : (j : ℕ) → filled (rest (j + 1)) ≡ true → slot j ≡ Ok tt
  slot-filled j e = rw (e, and-false)

  slot-broken : (j : ℕ) → opens (it j) ≡ true → filled (rest (j + 1)) ≡ false → slot j ≡ Err (BrokenSlot j)
  slot-broken j o e = rw (o, e)

  first_wrong : (x : Coded) (xs : List Coded) → fills x ≡ false → filled (x ∷ xs) ≡ false
  first_wrong x [] e = refl
  first_wrong x (y ∷ ys) e = rw e

  upto_next : (i : ℕ) → AllPass slot i → slot i ≡ Ok tt → AllPass slot (i + 1)
  upto_next i s e = below_more (λ (k : ℕ). slot k ≡ Ok tt) i s e

  -- the slots of the jump in row j, of which these are seen, go on in row i
  pub record Awaits (i j : ℕ) (seen : List Coded) : Type 0 where
    pub there : j < n
    pub before : AllPass slot j
    pub jump : opens (it j) ≡ true
    pub later : slot j ≡ Ok tt → AllPass slot i
    pub slots : rest (j + 1) ≡ seen ++ rest i

  pub record IsBroken (j : ℕ) : Type 0 where
    pub there : j < n
    pub before : AllPass slot j
    pub broken : slot j ≡ Err (BrokenSlot j)

  abbrev pub Seen : ℕ → Watch → Type 0
  Seen i Free = AllPass slot i
  Seen i (Both j) = Awaits i j []
  Seen i (Second j) = (x : Coded) × (fills x ≡ true) × Awaits i j (x ∷ [])
  Seen i (Broken j) = IsBroken j

  is-broken : {i j : ℕ} {seen : List Coded} → Awaits i j seen → filled (rest (j + 1)) ≡ false → IsBroken j
  is-broken {j = j} s e = record { there = s.there; before = s.before; broken = slot-broken j s.jump e }

  module _ {i : ℕ} (l : i < n) where
    -- row i has no slots, and these follow then
    goes_on : {j : ℕ} {old new : List Coded} → Awaits i j old → opens (it i) ≡ false → old ++ rest i ≡ new ++ rest (i + 1) → Awaits (i + 1) j new
    goes_on s o e = record { there = s.there; before = s.before; jump = s.jump; later = λ g. upto_next i (s.later g) (slot-none i o); slots = s.slots ∙ e }

    -- ---- a label
    passed : {j : ℕ} (seen : List Coded) → Awaits i j seen → label (it i) ≡ true → Awaits (i + 1) j seen
    passed seen s e = goes_on s (label-reads (it i) e).1 (ap (λ (y : List Coded). seen ++ y) (rest-label i l e))

    seen-label : label (it i) ≡ true → (w : Watch) → Seen i w → Seen (i + 1) w
    seen-label e Free s = upto_next i s (slot-none i (label-reads (it i) e).1)
    seen-label e (Both j) s = passed [] s e
    seen-label e (Second j) s = (s.0, s.1, passed (s.0 ∷ []) s.2 e)
    seen-label e (Broken j) s = s

    -- ---- any other item
    free-next : AllPass slot i → (b : Bool) → opens (it i) ≡ b → Seen (i + 1) (cond b (Both i) Free)
    free-next s true e = record { there = l; before = s; jump = e; later = λ g. upto_next i s g; slots = refl }
    free-next s false e = upto_next i s (slot-none i e)

    module _ (no : label (it i) ≡ false) where
      both-next : {j : ℕ} → Awaits i j [] → (b : Bool) → fills (it i) ≡ b → Seen (i + 1) (cond b (Second j) (Broken j))
      both-next s true e = (it i, e, goes_on s (fills-opens (it i) e) (rest-item i l no))
      both-next s false e = is-broken s (ap filled (s.slots ∙ rest-item i l no) ∙ first_wrong (it i) (rest (i + 1)) e)

      second-next : {j : ℕ} (x : Coded) → fills x ≡ true → Awaits i j (x ∷ []) → (b : Bool) → fills (it i) ≡ b → Seen (i + 1) (cond b Free (Broken j))
      second-next {j} x f s true e =
          let right : filled (rest (j + 1)) ≡ true = ap filled (s.slots ∙ ap (λ (y : List Coded). x ∷ y) (rest-item i l no)) ∙ rw (f, e) in
          upto_next i (s.later (slot-filled j right)) (slot-none i (fills-opens (it i) e))
      second-next x f s false e = is-broken s (ap filled (s.slots ∙ ap (λ (y : List Coded). x ∷ y) (rest-item i l no)) ∙ rw (f, e))

      seen_next : (w : Watch) → Seen i w → Seen (i + 1) (after w (it i) i)
      seen_next Free s = free-next s (opens (it i)) refl
      seen_next (Both j) s = both-next s (fills (it i)) refl
      seen_next (Second j) s = second-next s.0 s.1 s.2 (fills (it i)) refl
      seen_next (Broken j) s = s

  -- 33, of the first such jump
  abbrev pub slotted : Answer
  slotted = answer_of (foremost (first_in slot n ∷ [])) 0

  broken-first : {j : ℕ} → IsBroken j → Err (record { why = (BrokenSlot j); row = j }) ≡ slotted
  broken-first {j} s =
      let stop : StopsAt slot n = record { row = j; why = BrokenSlot j; before = s.there; fails = s.broken; earlier = s.before } in
      rw (stop-first slot n stop, stop-passing slot n stop)

  seen_end : (w : Watch) → Seen n w → ending w ≡ slotted
  seen_end Free s = rw (all_first slot n s)
  seen_end (Both j) s = broken-first (is-broken s (ap filled (s.slots ∙ rest-none)))
  seen_end (Second j) s = broken-first (is-broken s.2 (ap filled (s.2.slots ∙ ap (λ (y : List Coded). s.0 ∷ y) rest-none)))
  seen_end (Broken j) s = broken-first s

  -- ---- the pass after i rows
  abbrev row : ℕ → Verdict
  row k = read_verdict (it k)

  pub record Watching (i : ℕ) (w : Watch) : Type 0 where
    pub few : n ≤ 4194304
    pub within : i ≤ n
    pub good : AllPass row i
    pub seen : Seen i w

  module _ {i : ℕ} {w : Watch} (g : Watching i w) where
    goes : i < n → row i ≡ Ok tt → {v : Watch} → Seen (i + 1) v → Watching (i + 1) v
    goes l e s = record { few = g.few; within = omega arith; good = below_more (λ (k : ℕ). row k ≡ Ok tt) i g.good e; seen = s }

    pub watching_label : i < n → label (it i) ≡ true → Watching (i + 1) w
    watching_label l e = goes l (label-reads (it i) e).0 (seen-label l e w g.seen)

    pub watching_next : i < n → (row i ≡ Ok tt) × (label (it i) ≡ false) → Watching (i + 1) (after w (it i) i)
    watching_next l e = goes l e.0 (seen_next l e.1 w g.seen)

    pub watching_stop : i < n → {r : Refusal} → it i ≡ Err r → (first_of row n ≡ Err r) × (passing row n ≡ i)
    watching_stop l {r} e =
        let stop : StopsAt row n = record { row = i; why = r; before = l; fails = rw e; earlier = g.good } in
        (stop-first row n stop, stop-passing row n stop)

    pub watching_end : n ≤ i → (first_of row n ≡ Ok tt) × (ending w ≡ slotted)
    watching_end h = let e : i ≡ n = omega (arith, g.within) in (all_first row n (λ k l. g.good k (omega arith)), seen_end w (subst (λ (k : ℕ). Seen k w) e g.seen))
