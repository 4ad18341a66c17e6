-- What an item comes to is what the definitions say that it leaves: an instruction's parcels, a jump's word to its label, a loop start's to its last body instruction.
use mathlib.Core.Path.{◌≡◌, refl, sym, ap, ◌∙◌, subst}
use mathlib.Core.Logic.{⊎_elim}
use mathlib.Core.Bool.{Bool, true, false, ◌&&◌}
use mathlib.Core.List.{List}
use Prim.Native.Nat.{ℕ, suc, ◌+◌, ◌≤◌, ◌<◌}
use native.Mathlib.Omega.{arith}
use lib.ListN.{length}
use lib.Dec.{eqb}
use lib.Seq.{sets}
use borrow.Author.Tests.{eqb-true}
use Rattle.refusals.specs.declared.Refusal.{Refusal}
use Rattle.std.specs.Prelude.{Ok, Err, Result}
use Rattle.refusals.specs.Answers.{Verdict}
use Rattle.encode.specs.declared.Form.{Form}
use Rattle.coded.specs.Coded.{Coded}
use Rattle.refusals.specs.Order.{if_good}
use Rattle.refusals.proofs.Order.{refused-good}
use Rattle.items.specs.declared.Condition.{Condition}
use Rattle.items.specs.declared.LoopCount.{LoopCount}
use Rattle.items.specs.declared.LoopMode.{LoopMode}
use Rattle.encode.specs.declared.Form.TheVariants as form
use Rattle.encode.specs.Encoding.{form_parcels, form_verdict, jump_form, loop_form, settled}
use Rattle.encode.proofs.Reach.{jump-word, loop-word}
use Rattle.coded.specs.declared.Coding.{Coding}
use Rattle.items.specs.declared.Item.TheVariants.{Instruction, Label, Jump, LoopBegin, LoopEnd}
use Rattle.places.specs.declared.Rooms.{Rooms}
use Rattle.places.specs.Items.{Kernel, is_end, size, place}
use Rattle.places.specs.Looking.{Found, at, nothing, newest, opener, closer, labelled}
use Rattle.places.specs.Verdict.{reach, reaches, jump_offset, loop_offset, loop_row}
use Rattle.places.specs.Left.{left, jump_parcels}
use Rattle.prefixes.proofs.Tests.{and_both}
use Rattle.prefixes.proofs.Traits.{closes-end}
use Rattle.prefixes.proofs.Totals.{total-up}
use Rattle.prefixes.proofs.Looking.{latest-row, newest-is, newest-none, at-nothing}
use Rattle.prefixes.proofs.Passing.{Fits, passed, fits}
use Rattle.prefixes.proofs.Single.{single}
use Rattle.tables.specs.Tables.{lookup}
use Rattle.tables.proofs.Lookups.{placed, lookup-is}
use Rattle.settling.specs.Settling.{aim_form}
use Rattle.plain.specs.Plain.{jump_word, Writable, Wrote}

-- a form that is refused has no parcels
no-parcels : (f : Result Form Refusal) {w : Refusal} → form_verdict f ≡ Err w → (ps : List ℕ) (p : ℕ) → sets ps p (form_parcels f) ≡ ps
no-parcels (Ok (form.Short x)) {w} e ps p = absurd (refused-good w (sym e))
no-parcels (Ok (form.Pair x)) {w} e ps p = absurd (refused-good w (sym e))
no-parcels (Ok (form.Word x)) {w} e ps p = absurd (refused-good w (sym e))
no-parcels (Ok form.Leaf) {w} e ps p = absurd (refused-good w (sym e))
no-parcels (Err x) e ps p = refl

-- a form that is a word where it encodes has three at most, and they are what waits for it
abbrev Wordy : Result Form Refusal → Type 0
Wordy f = form_verdict f ≡ Ok tt → (w : ℕ) × (f ≡ Ok (form.Word w))

three_at_most : (f : Result Form Refusal) → Wordy f → length (form_parcels f) ≤ 3
three_at_most (Ok (form.Short x)) h = omega arith
three_at_most (Ok (form.Pair x)) h = omega arith
three_at_most (Ok (form.Word x)) h = omega arith
three_at_most (Ok form.Leaf) h = subst (λ (y : Result Form Refusal). length (form_parcels y) ≤ 3) (sym (h refl).1) (omega arith)
three_at_most (Err x) h = omega arith

settled_is : (f : Result Form Refusal) → Wordy f → form_verdict f ≡ Ok tt → form_parcels f ≡ settled f
settled_is f h g = rw (h g).1 refl

-- what is found passes the test
found-holds : (t : ℕ → Bool) (n e : ℕ) → newest t n ≡ at e → t e ≡ true
found-holds t n e f =
    ⊎_elim (λ none. absurd (at-nothing e (sym f ∙ newest-none t n none)))
    (λ m. let z : at m.row ≡ at e = sym (newest-is t n m) ∙ f in let y : m.row ≡ e = cc in rw (← y) m.holds)
    (latest-row t n)

module _ (k : Kernel) {ls : List ℕ} {count room : ℕ} (w : Writable k ls count room) {i : ℕ} (before : i < k.n) where
  open k use {names, it, n}

  abbrev r : Rooms
  r = w.rooms

  abbrev f : Fits it r n
  f = fits k r n w.passed

  pub place_in : place it i + size (it i) ≤ room
  place_in = let u = total-up size it (suc i) n before in let v = f.parcels in omega (arith, w.parcels_in)

  pub place_few : place it i + size (it i) ≤ 16777216
  place_few = let u = total-up size it (suc i) n before in let v = f.parcels in omega (arith, w.parcels_few)

  -- a form that is what the item leaves, and its verdict
  wrote_by : (x : Coded) (g : Result Form Refusal) {v : Verdict} {ps ps' : List ℕ} → it i ≡ x → form_verdict g ≡ reaches k i x → (form_verdict g ≡ Ok tt → form_parcels g ≡ (left k i x).parcels)
      → v ≡ form_verdict g → ps' ≡ sets ps (place it i) (form_parcels g) → Wrote k i ps v ps'
  wrote_by x g {v} {ps} {ps'} e said same a b = record { answer = rw e (a ∙ said); parcels = rw e (go v a) }
    where
      go : (v : Verdict) → v ≡ form_verdict g → ps' ≡ if_good v (sets ps (place it i) (left k i x).parcels) ps
      go (Ok _) q = b ∙ ap (sets ps (place it i)) (same (sym q))
      go (Err why) q = b ∙ no-parcels g (sym q) ps (place it i)

  -- ---- an instruction
  module _ {c : Coding} (e : it i ≡ Ok (Instruction c)) where
    pub instruction-fits : place it i + length (form_parcels c.form) ≤ room
    instruction-fits = let u = place_in in let s = ap size e in omega arith

    pub instruction_wrote : {v : Verdict} {ps ps' : List ℕ} → v ≡ form_verdict c.form → ps' ≡ sets ps (place it i) (form_parcels c.form) → Wrote k i ps v ps'
    instruction_wrote a b = wrote_by (Ok (Instruction c)) c.form e (passed k r i (w.passed i before) (Ok (Instruction c)) e).1.0 (λ g. refl) a b

  -- ---- a jump
  module _ {c : Condition} {a b : ℕ} (e : it i ≡ Ok (Jump c a b)) where
    looked : lookup names ls a b count ≡ placed it (labelled k a b n)
    looked = ap (lookup names ls a b) w.count_is ∙ lookup-is k n ls w.held a b (single k r n w.passed)

    abbrev word : Result Form Refusal
    word = jump_word c (place it i) a b (lookup names ls a b count)

    wordy : (s : Found) → Wordy (jump_word c (place it i) a b (placed it s))
    unfolding aim_form
    wordy (at label) g = jump-word c (jump_offset it label i) false g
    wordy nothing g = absurd (refused-good _ g)

    said : (s : Found) → form_verdict (jump_word c (place it i) a b (placed it s)) ≡ reach it c i a b s
    unfolding aim_form
    said (at label) = refl
    said nothing = refl

    leaves : (s : Found) → form_verdict (jump_word c (place it i) a b (placed it s)) ≡ Ok tt → form_parcels (jump_word c (place it i) a b (placed it s)) ≡ jump_parcels it c i s
    unfolding aim_form
    leaves (at label) g = settled_is (jump_form c (jump_offset it label i) false) (jump-word c (jump_offset it label i) false) g
    leaves nothing g = absurd (refused-good _ g)

    pub jump_fits : place it i + length (form_parcels word) ≤ room
    jump_fits = let u = place_in in let s = ap size e in let t = three_at_most word (rw looked (wordy (labelled k a b n))) in omega arith

    pub jump_wrote : {v : Verdict} {ps ps' : List ℕ} → v ≡ form_verdict word → ps' ≡ sets ps (place it i) (form_parcels word) → Wrote k i ps v ps'
    jump_wrote p q = wrote_by (Ok (Jump c a b)) word e (rw looked (said (labelled k a b n))) (rw looked (leaves (labelled k a b n))) p q

  -- ---- a loop start, whose end is e
  module _ {c : LoopCount} {m : LoopMode} (e : it i ≡ Ok (LoopBegin c m)) (end : ℕ) (h : end < n) (is : closer it n i ≡ at end) where
    test : (is_end (it end) ≡ true) × (eqb (opener it end) i ≡ true)
    test = and_both (is_end (it end)) (eqb (opener it end) i) (found-holds (λ q. is_end (it q) && eqb (opener it q) i) n end is)

    abbrev start : Result Form Refusal
    start = loop_form c m (loop_offset it end i)

    encodes : form_verdict start ≡ Ok tt
    encodes =
        let z : it end ≡ (Ok LoopEnd) = closes-end (it end) (eqb-true _ _ test.0) in
        let o : opener it end ≡ i = eqb-true _ _ test.1 in
        let p = (passed k r end (w.passed end h) (Ok LoopEnd) z).1.1.1.1.0 in
        let q : form_verdict (loop_row it end i (it i)) ≡ Ok tt = rw o at p in
        rw e at q

    pub loop-fits : (g : Result Form Refusal) → g ≡ loop_row it end i (it i) → place it i + length (form_parcels g) ≤ room
    loop-fits g y =
        let u = place_in in
        let s = ap size e in
        let t = three_at_most start (loop-word c m (loop_offset it end i)) in
        rw (y, e) (omega arith)

    pub loop_wrote : (g : Result Form Refusal) {v : Verdict} {ps ps' : List ℕ} → g ≡ loop_row it end i (it i) → v ≡ form_verdict g → ps' ≡ sets ps (place it i) (form_parcels g) → Wrote k i ps v ps'
    loop_wrote g y p q =
        let z = y ∙ ap (loop_row it end i) e in
        wrote_by (Ok (LoopBegin c m)) g e (rw z encodes) (λ y. rw (z, is) (settled_is start (loop-word c m (loop_offset it end i)) encodes)) p q

  -- ---- an item that leaves nothing
  pub label_wrote : {a b : ℕ} {ps : List ℕ} → it i ≡ Ok (Label a b) → Wrote k i ps (Ok tt) ps
  label_wrote e = record { answer = rw e refl; parcels = rw e refl }

  pub end_wrote : {ps : List ℕ} → it i ≡ Ok LoopEnd → Wrote k i ps (Ok tt) ps
  end_wrote e = record { answer = rw e refl; parcels = rw e refl }

  pub none-refused : {why : Refusal} → it i ≡ Err why → ⊥
  none-refused {why} e = refused-good why (passed k r i (w.passed i before) (Err why) e).0
