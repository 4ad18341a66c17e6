-- Document 01, "Refusal numbers": refusals 2 and 4 of a row.
use Rattle.std.specs.Prelude.{ℕ, ◌+◌, List, [], ◌∷◌, Bool, true, false, cond, drop, ltb, leb, eqb, Result, Ok, Err}
use Rattle.bounds.specs.declared.Misfit.{Misfit}
use Rattle.bounds.specs.declared.Misfit.TheVariants.{Bad, Code}
use Rattle.refusals.specs.Answers.{Verdict}
use Rattle.refusals.specs.declared.Refusal.{Refusal}
use Rattle.refusals.specs.declared.Refusal.TheVariants.{Row, InvalidUniversalRegister}
use Rattle.bounds.specs.Tables.{lookup, at}
use Rattle.bounds.specs.Bounds.{code, bounds_of}

-- what places say: each holds a number of its field, or why not
abbrev pub Places : Type 0
Places = Result (Unit {0}) Misfit

-- a universal code of 0x60 or more, where the places after it say `rest`: "2, 4 (first in field order)"
abbrev pub late : ℕ → Places → Places
late v (Ok _) = Err (Code v)
late v (Err Bad) = Err Bad
late v (Err (Code w)) = Err (Code v)

-- a place with the bound b holds v, and the places after it say `rest`
abbrev pub place : ℕ → ℕ → Places → Places
place b v rest = cond (ltb v b) rest (cond (eqb b code) (late v rest) (Err Bad))

-- what the places with these bounds and numbers say, before places that say `rest`
unfoldable pub said : List ℕ → List ℕ → Places → Places
said [] vs rest = rest
said (b ∷ bs) [] rest = rest
said (b ∷ bs) (v ∷ vs) rest = place b v (said bs vs rest)

-- what the sixteen places of a row say
unfoldable pub places_of : List ℕ → Places
places_of row = said (bounds_of row) (drop 1 row) (Ok tt)

-- "Names are ranges of one lent byte slice": whether a range lies in `names` bytes
abbrev pub name_inside : ℕ → ℕ → ℕ → Bool
name_inside start length names = leb (start + length) names

-- whether the name of a label (start, length) or a jump (condition, start, length) lies in the names
abbrev pub inside : ℕ → ℕ → ℕ → ℕ → ℕ → Bool
inside kind a b c names = lookup kind ((48, name_inside a b names) ∷ (49, name_inside b c names) ∷ []) true

-- 2, and 4 with the code
abbrev pub refusal_of : Misfit → Refusal
refusal_of Bad = Row
refusal_of (Code v) = InvalidUniversalRegister v

-- 2 before 4
abbrev pub decided : Bool → Places → Verdict
decided false places = Err Row
decided true (Ok _) = Ok tt
decided true (Err misfit) = Err (refusal_of misfit)

-- refusals 2 and 4 of a row, over `names` bytes of names
unfoldable pub check_of : List ℕ → ℕ → Verdict
check_of row names = decided (inside (at row 0) (at row 1) (at row 2) (at row 3) names) (places_of row)
