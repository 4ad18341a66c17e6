-- The verdict on a list of items is `Ok` exactly when the rules of a valid kernel hold.
use Prim.Native.Nat.{ℕ, ◌+◌, ◌≤◌, ◌<◌, suc}
use native.Mathlib.Omega.{arith}
use mathlib.Core.Path.{◌≡◌, ap, subst, refl}
use mathlib.Core.Logic.{◌↔◌}
use mathlib.Core.List.{List, [], ◌∷◌}
use lib.Dec.{ltb}
use borrow.Author.Tests.{ltb-false, le-ltb}
use Rattle.items.specs.declared.Item.TheVariants.{Instruction, Label, Jump, LoopEnd, LoopBegin}
use Rattle.std.specs.Prelude.{Ok, Err}
use Rattle.refusals.specs.Answers.{Verdict}
use Rattle.coded.specs.Coded.{Coded}
use Rattle.refusals.specs.declared.Refusal.TheVariants.{UnclosedLoop}
use Rattle.refusals.specs.Order.{when, first_of}
use Rattle.places.specs.Left.{Lent, rooms_of_lent}
use Rattle.places.specs.Verdict.{faults, reaches, reach_at, verdict_at, verdict}
use Rattle.places.specs.Items.{Kernel, about, nest, size, is_label, is_jump}
use Rattle.places.specs.declared.Rooms.{Rooms}
use Rattle.prefixes.proofs.Names.{Named}
use Rattle.prefixes.proofs.Nesting.{nest-opens}
use Rattle.prefixes.proofs.Tests.{not_so}
use Rattle.refusals.proofs.Order.{when-good, AllGood, good-when, first_good, good-first, first-all, all_first}
use Rattle.rules.specs.Rules.{Valid}
use Rattle.rules.specs.WhichRow.{RowsPass}
use Rattle.rules.proofs.Rows.{JumpsReach, rule1}
use Rattle.rules.proofs.Labels.{rule2, unique, jump-reaches}
use Rattle.rules.proofs.Loops.{rule3, rule4, rule5}
use Rattle.rules.proofs.Ends.{outside, no_branch, end-passes}
use Rattle.rules.proofs.Rooms.{rule6, room}

abbrev opens : Coded → ℕ
opens x = (about x).opens

abbrev closes : Coded → ℕ
closes x = (about x).closes

module _ (k : Kernel) (r : Rooms) (named : Named k) where
  open k use {it, n}

  valid-if : RowsPass k r → nest it n ≡ 0 → JumpsReach k → Valid k r
  valid-if rows closed jumps =
      record {
        rule1 = rule1 k r rows;
        rule2 = rule2 k named r rows jumps;
        rule3 = rule3 k r rows closed;
        rule4 = rule4 k r rows;
        rule5 = rule5 k r rows closed;
        rule6 = rule6 k r rows;
      }

  module _ (valid : Valid k r) where
    no_refusal : (i : ℕ) → i < n → (x : Coded) → it i ≡ x → AllGood (faults k r i x)
    no_refusal i h (Ok (Instruction v)) e =
        let u = room it n size i r.parcels (size (Ok (Instruction v))) h (omega (arith, valid.rule6.parcels)) (ap size e) in
        (good-when _ _ (not_so _ (no_branch k r valid i v h e)), (valid.rule1.encodes i (omega arith) v e, (good-when _ _ u, tt)))
    no_refusal i h (Ok (Label a b)) e =
        let o = outside k r valid i h (ap closes e) (λ s t p u v. valid.rule3.no_label s t i a b p u v e) in
        let u = room it n is_label i r.labels 1 h valid.rule6.labels (ap is_label e) in
        (good-when _ _ o, (good-when _ _ (unique k named valid.rule2 i a b h e), (good-when _ _ u, tt)))
    no_refusal i h (Ok (Jump c a b)) e =
        let o = outside k r valid i h (ap closes e) (λ s t p u v. valid.rule3.no_jump s t i c a b p u v e) in
        let u = room it n is_jump i r.jumps 1 h valid.rule6.jumps (ap is_jump e) in
        let w = room it n size i r.parcels 3 h (omega (arith, valid.rule6.parcels)) (ap size e) in
        (good-when _ _ o, (good-when _ _ u, (good-when _ _ w, tt)))
    no_refusal i h (Ok (LoopBegin c m)) e =
        let d = le-ltb r.loops (nest it i + 1) (subst (λ (x : ℕ). x ≤ r.loops) (nest-opens it i (ap opens e)) (valid.rule6.loops (suc i) h)) in
        let w = room it n size i r.parcels 3 h (omega (arith, valid.rule6.parcels)) (ap size e) in
        (good-when _ _ d, (good-when _ _ w, tt))
    no_refusal i h (Ok LoopEnd) e = end-passes k r valid i h e
    no_refusal i h (Err w) e = absurd (valid.rule1.constructible i h w e)

    rows_pass : RowsPass k r
    rows_pass i h = good-first (faults k r i (it i)) (no_refusal i h (it i) refl)

    reaches_as : (i : ℕ) → i < n → (x : Coded) → it i ≡ x → reaches k i x ≡ Ok tt
    reaches_as i h (Ok (Instruction v)) e = refl
    reaches_as i h (Ok (Label a b)) e = refl
    reaches_as i h (Ok (Jump c a b)) e = jump-reaches k named valid.rule2 i h c a b e
    reaches_as i h (Ok (LoopBegin c m)) e = refl
    reaches_as i h (Ok LoopEnd) e = refl
    reaches_as i h (Err w) e = refl

    jumps-reach : JumpsReach k
    jumps-reach i h = reaches_as i h (it i) refl

-- ---- the verdict, and its parts
module _ (k : Kernel) (lent : Lent) where
  open k use {it, n}

  abbrev pub parts : List Verdict
  parts = first_of (verdict_at k (rooms_of_lent lent)) n ∷ when (ltb 0 (nest it n)) UnclosedLoop ∷ first_of (reach_at k) n ∷ []

  pub verdict-good : verdict k (rooms_of_lent lent) ≡ Ok tt ↔ (RowsPass k (rooms_of_lent lent) × (nest it n ≡ 0) × JumpsReach k)
  verdict-good = (
    (λ g.
        let x = first_good parts g in (
          first-all (verdict_at k (rooms_of_lent lent)) n x.0,
          (let w = ltb-false 0 (nest it n) (when-good _ _ x.1.0) in omega arith),
          first-all (reach_at k) n x.1.1.0,
        )),
    (λ x.
        good-first parts (
          all_first (verdict_at k (rooms_of_lent lent)) n x.0,
          (good-when _ _ (le-ltb 0 (nest it n) (let w = x.1 in omega arith)), (all_first (reach_at k) n x.2, tt)),
        )),
  )

  pub accepted_exactly_when_valid : Named k → verdict k (rooms_of_lent lent) ≡ Ok tt ↔ Valid k (rooms_of_lent lent)
  accepted_exactly_when_valid named = (
    (λ g. let x = verdict-good.0 g in valid-if k _ named x.0 x.1 x.2),
    (λ x. verdict-good.1 (rows_pass k _ named x, omega (arith, x.rule3.closed), jumps-reach k _ named x)),
  )
