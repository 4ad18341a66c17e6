-- Each row's check is the first of the refusals that the items say.
use mathlib.Core.Path.{◌≡◌, refl, ap, ◌∙◌}
use mathlib.Core.Bool.{Bool, true, false}
use mathlib.Core.List.{[], ◌∷◌}
use Prim.Native.Nat.{ℕ, ◌+◌, ◌<◌}
use native.Mathlib.Omega.{arith}
use lib.Dec.{ltb, eqb}
use borrow.Author.Tests.{eqb-false}
use Rattle.refusals.specs.declared.Refusal.TheVariants.{DuplicateLabel, LabelInLoop, NoRoomForLabels}
use Rattle.items.specs.declared.Item.TheVariants.{Instruction, Label, Jump, LoopBegin, LoopEnd}
use Rattle.std.specs.Prelude.{Ok, Err}
use Rattle.coded.specs.Coded.{Coded}
use Rattle.places.specs.declared.Rooms.{Rooms}
use Rattle.places.specs.declared.OpenLoop.{OpenLoop}
use Rattle.places.specs.Items.{Kernel, is_label, total, nest}
use Rattle.refusals.specs.Order.{when, first}
use Rattle.places.specs.Left.{Lent}
use Rattle.places.specs.Looking.{opener}
use Rattle.places.specs.Verdict.{faults}
use Rattle.checks.specs.Checks.{instruction_chk, label_chk, jump_chk, begin_chk}
use Rattle.machine.specs.declared.State.{State}
use Rattle.machine.specs.Machine.{Mem, check, end_chk, top_of}
use Rattle.tables.specs.Tables.{KernelFine}
use Rattle.agrees.proofs.Prefix.{mem, state_of, state_is, check_at}
use Rattle.agrees.proofs.Fits.{Fits}
use Rattle.agrees.proofs.Tables.{entries-held}
use Rattle.tables.proofs.Lookups.{lookup-there}
use Rattle.agrees.proofs.Tops.{top-is, top-form}
use Rattle.agrees.proofs.Tails.{shared-is, short-is}

module _ (k : Kernel) (fine : KernelFine k) (lent : Lent) (r : Rooms) (i : ℕ) (f : Fits k.it lent i) where
  abbrev it : ℕ → Coded
  it = k.it

  abbrev M : Mem
  M = mem it lent i

  abbrev S : State
  S = state_of it i

  s-is : M.s ≡ S
  s-is = state_is it lent i

  -- with no loop open the rest isn't looked at
  end_is : (t : Bool) → eqb (nest it i) 0 ≡ t → end_chk S (top_of S M.lent.loops) ≡ first (faults k r i (Ok LoopEnd))
  end_is true e = rw e refl
  end_is false e =
      let h = eqb-false (nest it i) 0 e in
      let some : 0 < nest it i = omega arith in
      rw (ap (λ (y : OpenLoop). y.first) (top-is it lent i f some), top-form it lent i f some k.names (fine (opener it i)), shared-is it i some, short-is it i some) refl

  row_by : (x : Coded) → check k.names r x M ≡ first (faults k r i x)
  row_by (Ok (Instruction v)) = ap (λ (s : State). instruction_chk r s.at s.depth v) s-is
  row_by (Ok (Label a b)) =
      ap (λ (s : State). label_chk r s.depth k.names M.lent.labels s.labels a b) s-is
      ∙ ap (λ (t : Bool). first (when (ltb 0 (nest it i)) (LabelInLoop a b) ∷ when t (DuplicateLabel a b) ∷ when (ltb r.labels (total is_label it i + 1)) (NoRoomForLabels r.labels) ∷ []))
      (lookup-there k i M.lent.labels (entries-held k lent i f) a b)
  row_by (Ok (Jump c a b)) = ap (λ (s : State). jump_chk r s.at s.jumps s.depth) s-is
  row_by (Ok (LoopBegin c m)) = ap (λ (s : State). begin_chk r s.at s.depth) s-is
  row_by (Ok LoopEnd) = ap (λ (s : State). end_chk s (top_of s M.lent.loops)) s-is ∙ end_is (eqb (nest it i) 0) refl
  row_by (Err why) = refl

  pub row_is : check_at k lent r i ≡ first (faults k r i (k.it i))
  row_is = row_by (it i)
