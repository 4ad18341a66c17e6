-- What is said of a row is said of what it was read as.
use mathlib.Core.Path.{◌≡◌}
use mathlib.Core.List.{List}
use Prim.Native.Nat.{ℕ}
use Rattle.refusals.specs.Answers.{Verdict}
use Rattle.coded.specs.Coded.{Coded}
use Rattle.settling.specs.Settling.{Settles}

pub read-on : {ns ls : List ℕ} {n p : ℕ} {ps ps' : List ℕ} {r : Verdict} {x y : Coded} → x ≡ y → Settles ns ls n p x ps r ps' → Settles ns ls n p y ps r ps'
read-on e h = rw e at h
