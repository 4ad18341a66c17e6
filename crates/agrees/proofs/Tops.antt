-- The innermost open loop: its record is that of its opener, whose count and mode read back, so its word is the contract's.
use mathlib.Core.Path.{◌≡◌, refl, sym, ap, ap₂, ◌∙◌, subst}
use lib.ListN.{length}
use mathlib.Core.List.{List}
use Prim.Native.Nat.{ℕ, suc, ◌+◌, ◌-◌, ◌%◌, ◌<◌}
use native.Mathlib.Omega.{arith}
use native.Mathlib.Nat.{mod-eq_of_lt}
use lib.IntN.{pos, ◌-ℤ◌}
use borrow.Author.Tests.{lt-ltb, le-ltb}
use Rattle.items.specs.declared.LoopCount.{LoopCount}
use Rattle.items.specs.declared.LoopCount.TheVariants.{Immediate, Register}
use Rattle.items.specs.declared.LoopMode.{LoopMode}
use Rattle.items.specs.declared.LoopMode.TheVariants.{E2Active, F1Active}
use Rattle.encode.specs.Encoding.{loop_form}
use Rattle.items.specs.declared.Item.TheVariants.{LoopBegin}
use Rattle.std.specs.Prelude.{Ok}
use Rattle.coded.specs.Coded.{Coded}
use Rattle.places.specs.declared.OpenLoop.{OpenLoop}
use Rattle.places.specs.Items.{address_of, address, nest}
use Rattle.places.specs.Left.{Lent}
use Rattle.places.specs.Looking.{opener, last_at}
use Rattle.places.specs.Verdict.{loop_row}
use Rattle.prefixes.proofs.Traits.{opens_begin}
use Rattle.prefixes.proofs.Nesting.{innermost}
use Rattle.machine.specs.declared.State.{State}
use Rattle.machine.specs.Machine.{count_number, count_from, mode_number, mode_from, top_of, top_form}
use Rattle.coded.specs.Fine.{CountFine, CodedFine}
use Rattle.agrees.proofs.Prefix.{mem, state_of}
use Rattle.agrees.proofs.Fits.{Fits}
use Rattle.agrees.proofs.Loops.{numbers, record_at, start_at, records_are}

-- ---- a count and a mode as numbers read back
count-back : (c : LoopCount) → CountFine c → count_from (count_number c) ≡ c
count-back (Immediate n) h = rw (lt-ltb n 65536 h)
count-back (Register r) h =
    let e : (65536 + r.0 - 65536) % 256 ≡ r.0 = ap (λ (y : ℕ). y % 256) (let w : 65536 + r.0 - 65536 ≡ r.0 = omega arith in w) ∙ mod-eq_of_lt h in
    rw (le-ltb (65536 + r.0) 65536 (omega arith), e)

mode-back : (m : LoopMode) → mode_from (mode_number m) ≡ m
mode-back E2Active = refl
mode-back F1Active = refl

-- ---- the opener is a loop start before the row
pub record Opener (it : ℕ → Coded) (i b : ℕ) : Type 0 where
  pub before : b < i
  pub count : LoopCount
  pub mode : LoopMode
  pub begins : it b ≡ Ok (LoopBegin count mode)

pub opener-at : (it : ℕ → Coded) (i : ℕ) → 0 < nest it i → Opener it i (opener it i)
opener-at it i h =
    let o = (innermost it i h).open_at in
    let b = opens_begin (it (opener it i)) o.opens in
    record { before = o.before; count = b.0; mode = b.1; begins = b.2 }

module _ (it : ℕ → Coded) where
  module _ (lent : Lent) (i : ℕ) (f : Fits it lent i) (inside : 0 < nest it i) where
    abbrev S : State
    S = state_of it i

    abbrev T : OpenLoop
    T = top_of S (mem it lent i).lent.loops

    pub top-is : top_of S (mem it lent i).lent.loops ≡ record_at it (opener it i)
    top-is =
        records_are it lent i f (nest it i - 1) (omega arith)
        ∙ ap (λ (y : ℕ). record_at it (start_at it y i)) (let w : suc (nest it i - 1) ≡ nest it i = omega arith in w)

    pub top-form : (names : List ℕ) → CodedFine (length names) (it (opener it i)) → top_form S (top_of S (mem it lent i).lent.loops) ≡ loop_row it i (opener it i) (it (opener it i))
    unfolding top_form
    top-form names fine =
        let b = opener-at it i inside in
        let e = b.begins in
        let n : count_from T.count ≡ b.count = ap (λ (y : OpenLoop). count_from y.count) top-is ∙ ap (λ (x : Coded). count_from (numbers x).0) e ∙ count-back b.count (subst (λ (x : Coded). CodedFine (length names) x) e fine) in
        let m : mode_from T.mode ≡ b.mode = ap (λ (y : OpenLoop). mode_from y.mode) top-is ∙ ap (λ (x : Coded). mode_from (numbers x).1) e ∙ mode-back b.mode in
        ap (λ (y : OpenLoop). loop_form (count_from T.count) (mode_from T.mode) (pos (last_at it i) -ℤ pos (address_of y.place))) top-is
        ∙ ap₂ (λ (x : LoopCount) (y : LoopMode). loop_form x y (pos (last_at it i) -ℤ pos (address it (opener it i)))) n m
        ∙ ap (loop_row it i (opener it i)) (sym e)
