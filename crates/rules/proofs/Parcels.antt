-- In an accepted kernel each item's parcels stand at its place, and each jump and each loop start carries the offset that the rules speak of.
use Prim.Native.Nat.{ℕ, suc, ◌<◌}
use native.Mathlib.Omega.{arith}
use mathlib.Core.Path.{◌≡◌, refl, ap, ◌∙◌, subst}
use mathlib.Core.Logic.{⊎_elim}
use mathlib.Core.Bool.{false}
use mathlib.Core.List.{List, ◌++◌}
use lib.ListN.{length, take, drop}
use lib.IntN.{pos, ◌-ℤ◌}
use Rattle.fields.specs.Pack.{field}
use Rattle.fields.specs.Parcels.{cut, joined}
use Rattle.fields.proofs.Packed.{joined-cut}
use Rattle.signs.specs.Signs.{signed_in}
use Rattle.items.specs.declared.Condition.{Condition}
use Rattle.items.specs.declared.LoopCount.{LoopCount}
use Rattle.items.specs.declared.LoopMode.{LoopMode}
use Rattle.std.specs.Prelude.{Ok}
use Rattle.coded.specs.Coded.{Coded}
use Rattle.refusals.specs.Answers.{Verdict}
use Rattle.items.specs.declared.Item.TheVariants.{Instruction, Label, Jump, LoopBegin}
use Rattle.encode.specs.Encoding.{form_verdict, jump_form, loop_form, settled}
use Rattle.encode.proofs.Reach.{jump-word, loop-word}
use Rattle.encode.proofs.Carried.{jump-carries, loop-carries}
use Rattle.places.specs.Items.{Kernel, about, size, is_entry, place, address}
use Rattle.places.specs.Looking.{Found, at, last_at, labelled, closer}
use Rattle.places.specs.Verdict.{reach, reaches, verdict_at, verdict, taken}
use Rattle.places.specs.Left.{Lent, rooms_of_lent, jump_parcels, loop_parcels, left, gather, put, built}
use Rattle.places.proofs.Emitted.{emits, place-emitted}
use Rattle.prefixes.proofs.Tests.{order}
use Rattle.refusals.proofs.Order.{all-passing}
use Rattle.prefixes.proofs.Traits.{closes-end}
use Rattle.prefixes.proofs.Totals.{total-up, last_entry, last-is}
use Rattle.prefixes.proofs.Nesting.{closer-is}
use Rattle.prefixes.proofs.Names.{Named}
use Rattle.prefixes.proofs.Gathered.{gather-at}
use Rattle.rules.specs.Rules.{SameName, Pair, Last, Valid}
use Rattle.rules.specs.Accepted.{WordAt, JumpCarries, LoopCarries, AcceptedParcels}
use Rattle.rules.specs.WhichRow.{RowsPass}
use Rattle.rules.proofs.Labels.{labelled-is}
use Rattle.rules.proofs.Pairs.{pair-from, pair_open}
use Rattle.rules.proofs.Loops.{loop-form}
use Rattle.rules.proofs.Exactly.{accepted_exactly_when_valid, verdict-good}

-- the lowest bits of a word are those of its parcels
joined-low : (w : ℕ) → (field 23 0 (joined (cut 3 w)) ≡ field 23 0 w) × (field 22 0 (joined (cut 3 w)) ≡ field 22 0 w)
joined-low w = rw (joined-cut 3 w) (omega arith, omega arith)

module _ (k : Kernel) (lent : Lent) (named : Named k) (good : verdict k (rooms_of_lent lent) ≡ Ok tt) where
  open k use {names, it, n}

  abbrev P : List ℕ
  P = (built k lent).lent.parcels

  abbrev emitted : ℕ → List ℕ
  emitted i = (left k i (it i)).parcels

  valid : Valid k (rooms_of_lent lent)
  valid = (accepted_exactly_when_valid k lent named).0 good

  rows : RowsPass k (rooms_of_lent lent)
  rows = ((verdict-good k lent).0 good).0

  in_order : P ≡ gather emitted n ++ drop (place it n) lent.parcels
  in_order =
      let t : taken k (rooms_of_lent lent) ≡ n = all-passing (verdict_at k (rooms_of_lent lent)) n rows in
      ap (λ (v : Verdict). put v (gather emitted (taken k (rooms_of_lent lent))) lent.parcels) good
      ∙ ap (λ (x : ℕ). gather emitted x ++ drop (length (gather emitted x)) lent.parcels) t
      ∙ ap (λ (x : ℕ). gather emitted n ++ drop x lent.parcels) (place-emitted k n)

  at_place : (i : ℕ) → i < n → (x : Coded) → it i ≡ x → take (size x) (drop (place it i) P) ≡ (left k i x).parcels
  at_place i h x e =
      subst (λ (y : Coded). take (size y) (drop (place it i) P) ≡ (left k i y).parcels) e
      (rw (in_order, ← (emits k i (it i)), ← (place-emitted k i)) (gather-at emitted i n (drop (place it n) lent.parcels) h))

  -- the label that is found is the one that bears the name
  jump : (i : ℕ) (c : Condition) (a b q s t : ℕ) → i < n → it i ≡ Ok (Jump c a b) → q < n → it q ≡ Ok (Label s t) → SameName names s t a b
      → WordAt (jump_form c (pos (address it q) -ℤ pos (address it i)) false) (place it i) P
  jump i c a b q s t h e g f m =
      let r : reach it c i a b (labelled k a b n) ≡ Ok tt = subst (λ (x : Coded). reaches k i x ≡ Ok tt) e (((verdict-good k lent).0 good).2 i h) in
      let o : labelled k a b n ≡ at q = labelled-is k named valid.rule2 a b q s t (named.jump i c a b e) g f m in
      let w = jump-word c _ false (subst (λ (x : Found). reach it c i a b x ≡ Ok tt) o r) in
      record { word = w.0; is = w.1; stands = at_place i h _ e ∙ ap (jump_parcels it c i) o ∙ ap settled w.1 }

  -- the end that is found is the one that pairs with the start
  loop : (b e q : ℕ) (o : Pair k b e) → Last k q e
      → WordAt (loop_form o.count o.mode (pos (address it q) -ℤ pos (address it b))) (place it b) P
  loop b e q o m =
      let u : last_at it e ≡ address it q = last-is it q e m.before m.entry m.none_after in
      let f : closer it n b ≡ at e =
      closer-is it n b e (λ x h c. valid.rule3.matched x h (closes-end (it x) c)) o.before_end
      (ap (λ (y : Coded). (about y).closes) o.closes) (pair_open k o) o.level in
      let w =
      loop-word o.count o.mode _
      (subst (λ (x : ℕ). form_verdict (loop_form o.count o.mode (pos x -ℤ pos (address it b))) ≡ Ok tt) u (loop-form k _ rows b e o)) in
      record {
        word = w.0;
        is = w.1;
        stands =
            at_place b (omega (arith, o.order, o.before_end)) _ o.opens
            ∙ ap (loop_parcels it o.count o.mode b) f
            ∙ ap (λ (x : ℕ). settled (loop_form o.count o.mode (pos x -ℤ pos (address it b)))) u
            ∙ ap settled w.1;
      }

  -- ---- with nothing left to supply
  pub each-jump : (i : ℕ) (c : Condition) (a b : ℕ) → i < n → it i ≡ Ok (Jump c a b) → JumpCarries k P i c a b
  each-jump i c a b h e =
      let g = valid.rule2.aimed i h c a b e in
      let w = jump i c a b g.row g.start g.length h e g.within g.label g.name in
      record {
        aimed = g;
        word = w;
        carries =
            ap (λ (ps : List ℕ). signed_in 24 (field 23 0 (joined ps))) w.stands
            ∙ ap (signed_in 24) (joined-low w.word).0
            ∙ jump-carries c _ false w.word w.is;
      }

  pub each-loop : (b : ℕ) (c : LoopCount) (m : LoopMode) → b < n → it b ≡ Ok (LoopBegin c m) → LoopCarries k P b c m
  each-loop b c m h e =
      let x = pair-from k b valid.rule3.closed h (ap (λ (y : Coded). (about y).opens) e) in
      let q = x.pair in
      let body = valid.rule3.some b x.end q in
      let u = total-up is_entry it (suc body.row) x.end body.before in
      let y = body.entry in
      let l = last_entry it x.end (omega arith) in
      let z = l.none_after in
      let g : b < l.row = ⊎_elim (λ v. v) (λ v. absurd (let w = total-up is_entry it (suc l.row) body.row (omega (arith, body.after)) in omega arith)) (order b l.row) in
      let la : Last k l.row x.end = record { before = l.before; entry = l.entry; none_after = l.none_after } in
      let s : q.count ≡ c = cc in
      let t : q.mode ≡ m = cc in
      let w = loop b x.end l.row q la in
      let f : WordAt (loop_form c m (pos (address it l.row) -ℤ pos (address it b))) (place it b) P =
      subst (λ (o : LoopMode). WordAt (loop_form c o (pos (address it l.row) -ℤ pos (address it b))) (place it b) P) t
      (subst (λ (o : LoopCount). WordAt (loop_form o q.mode (pos (address it l.row) -ℤ pos (address it b))) (place it b) P) s w) in
      record {
        end = x.end;
        last = l.row;
        pair = q;
        is_last = la;
        in_body = g;
        word = f;
        carries =
            ap (λ (ps : List ℕ). signed_in 23 (field 22 0 (joined ps))) f.stands
            ∙ ap (signed_in 23) (joined-low f.word).1
            ∙ loop-carries c m _ f.word f.is;
      }

  pub accepted-parcels : AcceptedParcels k P lent.parcels
  accepted-parcels =
      record {
        in_order = in_order;
        at_place = λ i h. at_place i h (it i) refl;
        instruction = λ i c h e. at_place i h (Ok (Instruction c)) e;
        jump = each-jump;
        loop = each-loop;
      }
