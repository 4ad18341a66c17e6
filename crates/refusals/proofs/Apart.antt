-- The numbers tell refusals apart: of the refusals in their order, with the told details, the one that has the told number is the one that tells it.
use mathlib.Core.Path.{◌≡◌, refl, sym, ap, subst, ◌∙◌}
use mathlib.Core.Bool.{true, false, true≢false, cond}
use mathlib.Core.List.{List, [], ◌∷◌, map}
use Prim.Native.Nat.{ℕ, ◌<◌}
use native.Mathlib.Omega.{arith}
use lib.IntN.{nat_abs}
use lib.Dec.{eqb, ltb}
use borrow.Author.Tests.{ne_eqb, lt-ltb}
use Rattle.refusals.specs.declared.Told.{Told}
use Rattle.refusals.specs.declared.Refusal.{Refusal}
use Rattle.refusals.specs.declared.Refusal.TheVariants.{RowSlice, Row, InvalidUniversalRegister, InvalidDmIndex, InvalidDmModifier, UnsupportedPostModifyRegister, Dag1StoreSource, BranchOutOfRange, CallTargetOutOfRange, DuplicateLabel, UndefinedLabel, InvalidPmIndex, InvalidPmModifier, MixedDag, SameDagRegister, NotACompute, MultifunctionOperand, DuplicateDestination, LoopCountZero, LoopOutOfRange, EmptyLoop, UnclosedLoop, UnmatchedLoopEnd, SharedLoopEnd, LoopTailNotFullWidth, BranchInLoop, LabelInLoop, NoRoomForParcels, NoRoomForLabels, NoRoomForJumps, NoRoomForLoops, BrokenSlot, NoRoomForBytes, UnknownForm, NoRoomForRows}
use Rattle.std.specs.Prelude.{Ok, Err}
use Rattle.refusals.specs.Answers.{Answer}
use Rattle.refusals.specs.Numbers.{told_of, in_row, answered}
use Rattle.refusals.proofs.Numbered.{numbers, over}

abbrev refusals : Told → List Refusal
refusals t =
    RowSlice
    ∷ Row
    ∷ InvalidUniversalRegister (nat_abs t.first)
    ∷ InvalidDmIndex (nat_abs t.first)
    ∷ InvalidDmModifier (nat_abs t.first)
    ∷ UnsupportedPostModifyRegister (nat_abs t.first)
    ∷ Dag1StoreSource (nat_abs t.first)
    ∷ BranchOutOfRange t.first
    ∷ CallTargetOutOfRange (nat_abs t.first)
    ∷ DuplicateLabel t.start t.length
    ∷ UndefinedLabel t.start t.length
    ∷ InvalidPmIndex (nat_abs t.first)
    ∷ InvalidPmModifier (nat_abs t.first)
    ∷ MixedDag (nat_abs t.first) (nat_abs t.second)
    ∷ SameDagRegister (nat_abs t.first)
    ∷ NotACompute
    ∷ MultifunctionOperand (nat_abs t.first) (nat_abs t.second)
    ∷ DuplicateDestination (nat_abs t.first)
    ∷ LoopCountZero
    ∷ LoopOutOfRange t.first
    ∷ EmptyLoop
    ∷ UnclosedLoop
    ∷ UnmatchedLoopEnd
    ∷ SharedLoopEnd
    ∷ LoopTailNotFullWidth (nat_abs t.first)
    ∷ BranchInLoop
    ∷ LabelInLoop t.start t.length
    ∷ NoRoomForParcels (nat_abs t.first)
    ∷ NoRoomForLabels (nat_abs t.first)
    ∷ NoRoomForJumps (nat_abs t.first)
    ∷ NoRoomForLoops (nat_abs t.first)
    ∷ BrokenSlot (nat_abs t.first)
    ∷ NoRoomForBytes (nat_abs t.first)
    ∷ UnknownForm (nat_abs t.first)
    ∷ NoRoomForRows (nat_abs t.first)
    ∷ []

-- they have the numbers of the table, each once
in_order : (t : Told) → map (λ r. (told_of r).number) (refusals t) ≡ numbers
in_order t = refl

-- the refusal that is told: the one that has the number; 34 to 36 up to the largest detail
abbrev of_number : ℕ → List Refusal → Refusal
of_number n [] = RowSlice
of_number n (r ∷ rs) = cond (eqb (told_of r).number n) r (of_number n rs)

abbrev pub refusal_from : Told → Refusal
refusal_from t = of_number t.number (refusals t)

pub refusal_told : (r : Refusal) → ltb (told_of r).number 34 ≡ true → refusal_from (told_of r) ≡ r
refusal_told RowSlice e = refl
refusal_told Row e = refl
refusal_told (InvalidUniversalRegister a) e = refl
refusal_told (InvalidDmIndex a) e = refl
refusal_told (InvalidDmModifier a) e = refl
refusal_told (UnsupportedPostModifyRegister a) e = refl
refusal_told (Dag1StoreSource a) e = refl
refusal_told (BranchOutOfRange a) e = refl
refusal_told (CallTargetOutOfRange a) e = refl
refusal_told (DuplicateLabel a b) e = refl
refusal_told (UndefinedLabel a b) e = refl
refusal_told (InvalidPmIndex a) e = refl
refusal_told (InvalidPmModifier a) e = refl
refusal_told (MixedDag a b) e = refl
refusal_told (SameDagRegister a) e = refl
refusal_told NotACompute e = refl
refusal_told (MultifunctionOperand a b) e = refl
refusal_told (DuplicateDestination a) e = refl
refusal_told LoopCountZero e = refl
refusal_told (LoopOutOfRange a) e = refl
refusal_told EmptyLoop e = refl
refusal_told UnclosedLoop e = refl
refusal_told UnmatchedLoopEnd e = refl
refusal_told SharedLoopEnd e = refl
refusal_told (LoopTailNotFullWidth a) e = refl
refusal_told BranchInLoop e = refl
refusal_told (LabelInLoop a b) e = refl
refusal_told (NoRoomForParcels a) e = refl
refusal_told (NoRoomForLabels a) e = refl
refusal_told (NoRoomForJumps a) e = refl
refusal_told (NoRoomForLoops a) e = refl
refusal_told (BrokenSlot a) e = refl
refusal_told (NoRoomForBytes a) e = absurd (true≢false (sym e))
refusal_told (UnknownForm a) e = absurd (true≢false (sym e))
refusal_told (NoRoomForRows a) e = absurd (true≢false (sym e))

below : (r : Refusal) → (told_of r).number < 34 → ltb (told_of r).number 34 ≡ true
below r h = lt-ltb (told_of r).number 34 h

over_zero : (r : Refusal) → eqb (told_of r).number 0 ≡ false
over_zero r = let h = over r in ne_eqb (told_of r).number 0 (λ (e : (told_of r).number ≡ 0). omega arith)

abbrev pub answer_from : Told → Answer
answer_from t = cond (eqb t.number 0) (Ok t.count) (Err (record { why = (refusal_from t); row = (nat_abs t.third) }))

-- the row tells nothing of the refusal
told-alone : (r : Refusal) (row : ℕ) → refusal_from (in_row row (told_of r)) ≡ refusal_from (told_of r)
told-alone r row = refl

pub answer-told : (a : Answer) → (answered a).number < 34 → answer_from (answered a) ≡ a
answer-told (Ok n) h = refl
answer-told (Err e) h =
    rw (over_zero e.why)
    (ap (λ (r : Refusal). let a : Answer = Err (record { why = r; row = e.row }) in a) (told-alone e.why e.row ∙ refusal_told e.why (below e.why h)))

-- two refusals, or two answers, that tell the same are the same; 34 to 36 apart, whose detail has a largest value
pub refusals-apart : (r r' : Refusal) → (told_of r).number < 34 → told_of r ≡ told_of r' → r ≡ r'
refusals-apart r r' h e =
    sym (refusal_told r (below r h))
    ∙ ap refusal_from e
    ∙ refusal_told r' (below r' (subst (λ (t : Told). t.number < 34) e h))

pub answers-apart : (a a' : Answer) → (answered a).number < 34 → answered a ≡ answered a' → a ≡ a'
answers-apart a a' h e = sym (answer-told a h) ∙ ap answer_from e ∙ answer-told a' (subst (λ (t : Told). t.number < 34) e h)
