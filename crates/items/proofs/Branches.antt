-- Whatever has slots is a branch.
use mathlib.Core.Path.{◌≡◌, refl}
use mathlib.Core.Bool.{Bool, true, false, true≢false, ◌&&◌, ◌||◌}
use lib.Dec.{eqb}
use Rattle.items.specs.declared.Kind.{Kind}
use Rattle.items.specs.Kinds.{is_branch, has_slots}

by_tests : (jump call leaf delayed : Bool) → (jump || (call || leaf)) ≡ false → (call || jump && delayed) ≡ false
by_tests true call leaf delayed e = absurd (true≢false e)
by_tests false true leaf delayed e = absurd (true≢false e)
by_tests false false leaf delayed e = refl

pub no_branch_no_slots : (k : Kind) → is_branch k ≡ false → has_slots k ≡ false
no_branch_no_slots k e = by_tests (eqb k.number 28) (eqb k.number 29) (eqb k.number 31) k.delayed e
