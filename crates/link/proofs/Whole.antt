-- What is told is the build's answer in numbers.
use mathlib.Core.Path.{◌≡◌, sym, subst}
use mathlib.Core.List.{List}
use Prim.Native.Nat.{ℕ}
use Rattle.refusals.specs.declared.Told.{Told}
use Rattle.places.specs.Left.{Lent, Builds}

pub told_is : {rows names : List ℕ} {lent left : Lent} {s t : Told} → Builds rows names lent s left → t ≡ s → Builds rows names lent t left
told_is {rows} {names} {lent} {left} b e = subst (λ (t : Told). Builds rows names lent t left) (sym e) b
