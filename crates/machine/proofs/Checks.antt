-- What it says that a loop end's checks are passed; and a buffer that is the same whatever the verdict.
use mathlib.Core.Path.{◌≡◌, refl}
use mathlib.Core.Bool.{false}
use mathlib.Core.List.{List}
use Prim.Native.Nat.{ℕ, ◌<◌}
use native.Mathlib.Omega.{arith}
use borrow.Author.Tests.{eqb-false}
use Rattle.std.specs.Prelude.{Ok, Err}
use Rattle.refusals.specs.Answers.{Verdict}
use Rattle.refusals.specs.Order.{if_good}
use Rattle.encode.specs.Encoding.{form_verdict}
use Rattle.places.specs.declared.OpenLoop.{OpenLoop}
use Rattle.refusals.proofs.Order.{or_else-good}
use Rattle.checks.proofs.Passed.{unmet}
use Rattle.machine.specs.declared.State.{State}
use Rattle.machine.specs.Machine.{tail_short, top_form, end_chk}

pub record EndGood (s : State) (top : OpenLoop) : Type 0 where
  pub inside : 0 < s.depth
  pub body : s.count ≡ top.first → ⊥
  pub alone : s.ended ≡ s.count → ⊥
  pub tail : tail_short top.first s.short s.count ≡ false
  pub reaches : form_verdict (top_form s top) ≡ Ok tt

some : (n : ℕ) → (n ≡ 0 → ⊥) → 0 < n
some n h = omega arith

pub end-good : (s : State) (top : OpenLoop) → end_chk s top ≡ Ok tt → EndGood s top
end-good s top e =
    let a = unmet _ _ _ e in
    let b = unmet _ _ _ a.1 in
    let c = unmet _ _ _ b.1 in
    let d = unmet _ _ _ c.1 in
    let f = or_else-good _ _ d.1 in
    record { inside = some _ (eqb-false _ _ a.0); body = eqb-false _ _ b.0; alone = eqb-false _ _ c.0; tail = d.0; reaches = f.0 }

pub same-either : (v : Verdict) (l : List ℕ) → l ≡ if_good v l l
same-either (Ok _) l = refl
same-either (Err r) l = refl
