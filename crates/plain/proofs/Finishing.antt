-- The end of the plain build, by the verdicts of its walks.
use mathlib.Core.Path.{◌≡◌, sym, ap₂, ◌∙◌, subst}
use native.Mathlib.Omega.{arith}
use mathlib.Core.List.{List, []}
use Prim.Native.Nat.{ℕ}
use Rattle.std.specs.Prelude.{Result, Ok, Err}
use Rattle.refusals.specs.Answers.{Verdict, Answer}
use Rattle.refusals.specs.declared.Refusal.{Refusal}
use Rattle.refusals.specs.declared.Refused.{Refused}
use Rattle.refusals.proofs.Order.{refused-good, named-refused, named-good}
use Rattle.places.specs.Items.{Kernel}
use Rattle.places.specs.Left.{Lent, lent_of}
use Rattle.plain.specs.declared.first.Placed.{Placed}
use Rattle.plain.specs.Plain.{Ran, Wiped, Ended, Concluded}

same_refusal : {w why : Refused} → (let r : Result (Unit {0}) Refused = Err w in r ≡ Err why) → w ≡ why
same_refusal e = cc

same_why : {w why : Refusal} → (let v : Verdict = Err w in v ≡ Err why) → w ≡ why
same_why e = cc

pub no_refusal : {w : Refused} → (let r : Result (Unit {0}) Refused = Err w in r ≡ Ok tt) → ⊥
no_refusal e = let z : ◌≡◌ {A = ℕ} 0 1 = cc in omega arith

module _ {k : Kernel} {p : Placed} {lent : Lent} {a : Answer} {lent' : Lent} where
  pub first-refuses : {w : Refused} → p.outcome ≡ Err w → Wiped w p.before lent a lent' → Concluded k p lent a lent'
  first-refuses {w} e h =
      record {
        stopped = λ why q. subst (λ (y : Refused). Wiped y p.before lent a lent') (same_refusal (sym e ∙ q)) h;
        went = λ q. absurd (no_refusal (sym e ∙ q));
      }

  module _ (good : p.outcome ≡ Ok tt) {r : Result (Unit {0}) Refused} {ps : List ℕ} (ran : Ran k lent.parcels r ps) where
    ends : Ended k p.before lent a lent' → Concluded k p lent a lent'
    ends h = record { stopped = λ why q. absurd (no_refusal (sym q ∙ good)); went = λ q. h }

    pub second-refuses : {w : Refused} → r ≡ Err w → Wiped w p.before (lent_of ps lent.labels lent.jumps []) a lent' → Concluded k p lent a lent'
    second-refuses {w} e h =
        let n = named-refused ran.judged.row ran.judged.verdict (sym ran.answer ∙ e) in
        ends
        (record {
          judged = ran.judged;
          parcels = ps;
          came = ran.came;
          accepted = λ q. absurd (refused-good w.why (sym n.0 ∙ q));
          refused = λ why q.
              let z : w ≡ record { why = why; row = ran.judged.row } = ap₂ (λ (y : Refusal) (i : ℕ). record { why = y; row = i }) (same_why (sym n.0 ∙ q)) (sym n.1) in
              subst (λ (y : Refused). Wiped y p.before (lent_of ps lent.labels lent.jumps []) a lent') z h;
        })

    pub accepts : r ≡ Ok tt → a ≡ Ok p.before.place → lent' ≡ lent_of ps lent.labels lent.jumps [] → Concluded k p lent a lent'
    accepts e q h =
        let g = named-good ran.judged.row ran.judged.verdict (sym ran.answer ∙ e) in
        ends (record { judged = ran.judged; parcels = ps; came = ran.came; accepted = λ z. (q, h); refused = λ why z. absurd (refused-good why (sym z ∙ g)) })
