-- The contracts settle what is told and what is left: whatever meets one of them is what it says.
use Prim.Native.Nat.{ℕ}
use mathlib.Core.Path.{◌≡◌, sym, ◌∙◌}
use mathlib.Core.List.{List}
use Rattle.refusals.specs.declared.Told.{Told}
use Rattle.refusals.specs.Answers.{Answer}
use Rattle.places.specs.Left.{Lent, lent_of, build_of, Builds, BuildsAlone, HandsBack}

-- what is left is what the build comes to
left_is : {rows names : List ℕ} {lent left : Lent} {t : Told} → Builds rows names lent t left → left ≡ (build_of rows names lent).lent
left_is b = λ i. lent_of (b.parcels i) (b.labels i) (b.jumps i) (b.loops i)

-- no second answer, and no other contents, fit a build
pub no_second_build : (rows names : List ℕ) (lent : Lent) (t t' : Told) (x x' : Lent) → Builds rows names lent t x → Builds rows names lent t' x' → (t ≡ t') × (x ≡ x')
no_second_build rows names lent t t' x x' b c = (b.answer ∙ sym c.answer, left_is b ∙ sym (left_is c))

pub no_second_alone : (rows names : List ℕ) (lent : Lent) (t t' : Told) (x x' : Lent) → BuildsAlone rows names lent t x → BuildsAlone rows names lent t' x'
    → (t ≡ t') × (x.parcels ≡ x'.parcels) × (x.labels ≡ x'.labels) × (x.jumps ≡ x'.jumps)
no_second_alone rows names lent t t' x x' b c =
    (b.answer ∙ sym c.answer, b.parcels ∙ sym c.parcels, b.labels ∙ sym c.labels, b.jumps ∙ sym c.jumps)

-- no second name fits an answer
pub no_second_name : (names : List ℕ) (a : Answer) (x y : List ℕ) → HandsBack names a x → HandsBack names a y → x ≡ y
no_second_name names a x y e f = e ∙ sym f
