-- Document 01, "Refusal numbers": the number, the two details and the name's range of each refusal; document 02, wish 3: the row as a third
-- detail; and answers in these numbers.
use Rattle.std.specs.Prelude.{Bool, false, ◌||◌, List, [], ◌∷◌, ℕ, min, ℤ, pos, eqb, Ok, Err}
use Rattle.refusals.specs.declared.Told.{Told}
use Rattle.refusals.specs.Answers.{Answer, Verdict, Judged}
use Rattle.refusals.specs.declared.Refusal.{Refusal}
use Rattle.refusals.specs.declared.Refusal.TheVariants.{RowSlice, Row, InvalidUniversalRegister, InvalidDmIndex, InvalidDmModifier, UnsupportedPostModifyRegister, Dag1StoreSource, BranchOutOfRange, CallTargetOutOfRange, DuplicateLabel, UndefinedLabel, InvalidPmIndex, InvalidPmModifier, MixedDag, SameDagRegister, NotACompute, MultifunctionOperand, DuplicateDestination, LoopCountZero, LoopOutOfRange, EmptyLoop, UnclosedLoop, UnmatchedLoopEnd, SharedLoopEnd, LoopTailNotFullWidth, BranchInLoop, LabelInLoop, NoRoomForParcels, NoRoomForLabels, NoRoomForJumps, NoRoomForLoops, BrokenSlot, NoRoomForBytes, UnknownForm, NoRoomForRows}

-- a number alone, with one detail, with two, with a name
abbrev pub alone : ℕ → Told
alone n = record { number = n; count = 0; first = pos 0; second = pos 0; third = pos 0; start = 0; length = 0 }

abbrev pub one : ℕ → ℤ → Told
one n a = record { number = n; count = 0; first = a; second = pos 0; third = pos 0; start = 0; length = 0 }

abbrev pub two : ℕ → ℤ → ℤ → Told
two n a b = record { number = n; count = 0; first = a; second = b; third = pos 0; start = 0; length = 0 }

abbrev pub named : ℕ → ℕ → ℕ → Told
named n a b = record { number = n; count = 0; first = pos 0; second = pos 0; third = pos 0; start = a; length = b }

-- "0 and the parcel count"
abbrev pub counted : ℕ → Told
counted n = record { number = 0; count = n; first = pos 0; second = pos 0; third = pos 0; start = 0; length = 0 }

-- the largest detail; no slice has more bytes, parcels or rows
abbrev pub most : ℕ
most = 0x7fff_ffff_ffff_ffff

-- the table of refusals; 3 is unused
abbrev pub told_of : Refusal → Told
told_of RowSlice = alone 1
told_of Row = alone 2
told_of (InvalidUniversalRegister code) = one 4 (pos code)
told_of (InvalidDmIndex number) = one 5 (pos number)
told_of (InvalidDmModifier number) = one 6 (pos number)
told_of (UnsupportedPostModifyRegister code) = one 7 (pos code)
told_of (Dag1StoreSource code) = one 8 (pos code)
told_of (BranchOutOfRange offset) = one 9 offset
told_of (CallTargetOutOfRange target) = one 10 (pos target)
told_of (DuplicateLabel start length) = named 11 start length
told_of (UndefinedLabel start length) = named 12 start length
told_of (InvalidPmIndex number) = one 13 (pos number)
told_of (InvalidPmModifier number) = one 14 (pos number)
told_of (MixedDag index modifier) = two 15 (pos index) (pos modifier)
told_of (SameDagRegister code) = one 16 (pos code)
told_of NotACompute = alone 17
told_of (MultifunctionOperand which register) = two 18 (pos which) (pos register)
told_of (DuplicateDestination register) = one 19 (pos register)
told_of LoopCountZero = alone 20
told_of (LoopOutOfRange offset) = one 21 offset
told_of EmptyLoop = alone 22
told_of UnclosedLoop = alone 23
told_of UnmatchedLoopEnd = alone 24
told_of SharedLoopEnd = alone 25
told_of (LoopTailNotFullWidth parcel) = one 26 (pos parcel)
told_of BranchInLoop = alone 27
told_of (LabelInLoop start length) = named 28 start length
told_of (NoRoomForParcels room) = one 29 (pos room)
told_of (NoRoomForLabels room) = one 30 (pos room)
told_of (NoRoomForJumps room) = one 31 (pos room)
told_of (NoRoomForLoops room) = one 32 (pos room)
told_of (BrokenSlot row) = one 33 (pos row)
told_of (NoRoomForBytes bytes) = one 34 (pos (min bytes most))
told_of (UnknownForm place) = one 35 (pos (min place most))
told_of (NoRoomForRows room) = one 36 (pos (min room most))

-- the answer where a count was made, or a refusal that names a row
abbrev pub answer_in : ℕ → Verdict → ℕ → Answer
answer_in row (Ok _) n = Ok n
answer_in row (Err r) n = Err (record { why = r; row = row })

abbrev pub answer_of : Judged → ℕ → Answer
answer_of j n = answer_in j.row j.verdict n

-- "carry the row number as a third detail"
abbrev pub in_row : ℕ → Told → Told
in_row row t = record { number = t.number; count = t.count; first = t.first; second = t.second; third = pos row; start = t.start; length = t.length }

-- "A build answers 0 and the parcel count, or a refusal with count 0"
abbrev pub answered : Answer → Told
answered (Ok n) = counted n
answered (Err e) = in_row e.row (told_of e.why)

-- the number is one of these
abbrev pub among : List ℕ → ℕ → Bool
among [] n = false
among (m ∷ ms) n = eqb n m || among ms n

-- the numbers whose detail is a name
abbrev pub naming : List ℕ
naming = 11 ∷ 12 ∷ 28 ∷ []
