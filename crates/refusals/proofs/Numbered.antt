-- What every refusal tells: a number of the table, count 0, no row, and a name's range for 11, 12 and 28 alone. Number 0 is acceptance.
use mathlib.Core.Path.{◌≡◌, refl, sym, ap, ◌∙◌}
use mathlib.Core.Logic.{◌↔◌}
use mathlib.Core.Bool.{true, false, true≢false}
use mathlib.Core.List.{List, [], ◌∷◌}
use Prim.Native.Nat.{ℕ, zero, suc, ◌<◌}
use native.Mathlib.Omega.{arith}
use lib.IntN.{ℤ, pos}
use Rattle.refusals.specs.declared.Told.{Told}
use Rattle.refusals.specs.declared.Refusal.{Refusal}
use Rattle.refusals.specs.declared.Refusal.TheVariants.{RowSlice, Row, InvalidUniversalRegister, InvalidDmIndex, InvalidDmModifier, UnsupportedPostModifyRegister, Dag1StoreSource, BranchOutOfRange, CallTargetOutOfRange, DuplicateLabel, UndefinedLabel, InvalidPmIndex, InvalidPmModifier, MixedDag, SameDagRegister, NotACompute, MultifunctionOperand, DuplicateDestination, LoopCountZero, LoopOutOfRange, EmptyLoop, UnclosedLoop, UnmatchedLoopEnd, SharedLoopEnd, LoopTailNotFullWidth, BranchInLoop, LabelInLoop, NoRoomForParcels, NoRoomForLabels, NoRoomForJumps, NoRoomForLoops, BrokenSlot, NoRoomForBytes, UnknownForm, NoRoomForRows}
use Rattle.std.specs.Prelude.{Ok, Err}
use Rattle.refusals.specs.Answers.{Answer, Verdict}
use Rattle.refusals.specs.Numbers.{two, named, told_of, in_row, answer_in, answered, among, naming}

-- the numbers of the table
abbrev pub numbers : List ℕ
numbers =
    1 ∷ 2 ∷ 4 ∷ 5 ∷ 6 ∷ 7 ∷ 8 ∷ 9 ∷ 10 ∷ 11 ∷ 12 ∷ 13 ∷ 14 ∷ 15 ∷ 16 ∷ 17 ∷ 18 ∷ 19 ∷ 20 ∷ 21 ∷ 22 ∷ 23 ∷ 24 ∷ 25 ∷ 26 ∷ 27 ∷ 28 ∷ 29 ∷ 30 ∷ 31 ∷ 32 ∷ 33 ∷ 34 ∷ 35 ∷ 36 ∷ []

-- what a verdict tells, whatever row it names
abbrev pub checked : Verdict → Told
checked v = answered (answer_in 0 v 0)

pub record Numbered (t : Told) : Type 0 where
  pub listed : among numbers t.number ≡ true
  pub uncounted : t.count ≡ 0
  pub rowless : t.third ≡ pos 0
  pub unnamed : among naming t.number ≡ false → (t.start ≡ 0) × (t.length ≡ 0)

-- with details, and with a name
detailed : {n : ℕ} {a b : ℤ} → among numbers n ≡ true → Numbered (two n a b)
detailed h = record { listed = h; uncounted = refl; rowless = refl; unnamed = λ f. (refl, refl) }

named_so : {n a b : ℕ} → among numbers n ≡ true → among naming n ≡ true → Numbered (named n a b)
named_so h e = record { listed = h; uncounted = refl; rowless = refl; unnamed = λ f. absurd (true≢false (sym e ∙ f)) }

pub numbered : (r : Refusal) → Numbered (told_of r)
numbered RowSlice = detailed refl
numbered Row = detailed refl
numbered (InvalidUniversalRegister a) = detailed refl
numbered (InvalidDmIndex a) = detailed refl
numbered (InvalidDmModifier a) = detailed refl
numbered (UnsupportedPostModifyRegister a) = detailed refl
numbered (Dag1StoreSource a) = detailed refl
numbered (BranchOutOfRange a) = detailed refl
numbered (CallTargetOutOfRange a) = detailed refl
numbered (DuplicateLabel a b) = named_so refl refl
numbered (UndefinedLabel a b) = named_so refl refl
numbered (InvalidPmIndex a) = detailed refl
numbered (InvalidPmModifier a) = detailed refl
numbered (MixedDag a b) = detailed refl
numbered (SameDagRegister a) = detailed refl
numbered NotACompute = detailed refl
numbered (MultifunctionOperand a b) = detailed refl
numbered (DuplicateDestination a) = detailed refl
numbered LoopCountZero = detailed refl
numbered (LoopOutOfRange a) = detailed refl
numbered EmptyLoop = detailed refl
numbered UnclosedLoop = detailed refl
numbered UnmatchedLoopEnd = detailed refl
numbered SharedLoopEnd = detailed refl
numbered (LoopTailNotFullWidth a) = detailed refl
numbered BranchInLoop = detailed refl
numbered (LabelInLoop a b) = named_so refl refl
numbered (NoRoomForParcels a) = detailed refl
numbered (NoRoomForLabels a) = detailed refl
numbered (NoRoomForJumps a) = detailed refl
numbered (NoRoomForLoops a) = detailed refl
numbered (BrokenSlot a) = detailed refl
numbered (NoRoomForBytes a) = detailed refl
numbered (UnknownForm a) = detailed refl
numbered (NoRoomForRows a) = detailed refl

-- so none has 0, which accepts, and none has 3
another : (n m : ℕ) → among numbers m ≡ false → among numbers n ≡ true → n ≡ m → ⊥
another n m f h e = true≢false (sym h ∙ ap (among numbers) e ∙ f)

pub over : (r : Refusal) → 0 < (told_of r).number
over r = let z = another (told_of r).number 0 refl (numbered r).listed in positive (told_of r).number z
  where
    positive : (n : ℕ) → (n ≡ 0 → ⊥) → 0 < n
    positive zero f = absurd (f refl)
    positive (suc n) f = omega arith

pub no-three : (r : Refusal) → (told_of r).number ≡ 3 → ⊥
no-three r = another (told_of r).number 3 refl (numbered r).listed

-- the table names no row: without its row an answer tells what the table says
pub without_row : (row : ℕ) (r : Refusal) → in_row 0 (in_row row (told_of r)) ≡ told_of r
without_row row r =
    let t = told_of r in
    ap (λ (z : ℤ). record { number = t.number; count = t.count; first = t.first; second = t.second; third = z; start = t.start; length = t.length }) (sym (numbered r).rowless)

pub zero_accepts : (a : Answer) → (answered a).number ≡ 0 → (n : ℕ) × (a ≡ Ok n)
zero_accepts (Ok n) h = (n, refl)
zero_accepts (Err e) h = let g = over e.why in absurd (omega arith)

pub zero_good : (v : Verdict) → (checked v).number ≡ 0 → v ≡ Ok tt
zero_good (Ok _) e = refl
zero_good (Err r) e = let h = over r in absurd (omega arith)

-- so a call answers 0 exactly where its verdict is good
pub answers_zero : (row : ℕ) (v : Verdict) (n : ℕ) → ((answered (answer_in row v n)).number ≡ 0) ↔ (v ≡ Ok tt)
answers_zero row (Ok _) n = ((λ e. refl), (λ e. refl))
answers_zero row (Err r) n = ((λ e. zero_good (Err r) e), (λ e. ap (λ (v : Verdict). (checked v).number) e))

pub unnamed-answer : (a : Answer) → among naming (answered a).number ≡ false → ((answered a).start ≡ 0) × ((answered a).length ≡ 0)
unnamed-answer (Ok n) f = (refl, refl)
unnamed-answer (Err e) f = (numbered e.why).unnamed f
