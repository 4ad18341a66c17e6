-- A row is next exactly when no refusal was met and rows are left.
use mathlib.Core.Path.{◌≡◌, refl}
use mathlib.Core.Bool.{Bool, true, false}
use mathlib.Core.List.{List}
use Prim.Native.Nat.{ℕ, ◌≤◌, ◌<◌}
use native.Mathlib.Omega.{arith}
use lib.Dec.{ltb}
use borrow.Author.Tests.{ltb-true, ltb-false}
use Rattle.std.specs.Prelude.{Ok, Err, Result}
use Rattle.refusals.specs.Answers.{Verdict}
use Rattle.coded.specs.Coded.{Coded}
use Rattle.places.specs.declared.OpenLoop.{OpenLoop}
use Rattle.places.specs.declared.Rooms.{Rooms}
use Rattle.places.specs.Left.{Lent}
use Rattle.machine.specs.declared.State.{State}
use Rattle.machine.specs.declared.Step.{Step}
use Rattle.refusals.specs.declared.Refusal.{Refusal}
use Rattle.machine.specs.Machine.{Stepped}
use Rattle.taking.specs.Taking.{keeps_going}

pub going_on : (v : Verdict) (b : Bool) → keeps_going v b ≡ true → (v ≡ Ok tt) × (b ≡ true)
going_on (Ok _) b e = (refl, e)
going_on (Err r) b e = let z : ◌≡◌ {A = ℕ} 0 1 = cc in absurd (omega arith)

pub row_next : (v : Verdict) (i n : ℕ) → keeps_going v (ltb i n) ≡ true → (v ≡ Ok tt) × (i < n)
row_next v i n e = let h = going_on v (ltb i n) e in (h.0, ltb-true i n h.1)

-- with no refusal met, no row is left
pub row_last : (i n : ℕ) → keeps_going (Ok tt) (ltb i n) ≡ false → n ≤ i
row_last i n e = ltb-false i n e

-- what a step makes of a row it makes of what the row was read as
pub read_as : {ns : List ℕ} {r : Rooms} {x y : Coded} {row : ℕ} {s : State} {lent : Lent} {top : OpenLoop} {z : Result Step Refusal} {left : Lent}
    → x ≡ y → Stepped ns r x row s lent top z left → Stepped ns r y row s lent top z left
read_as e h = rw e at h
