-- What the default arm of a `match` on a table's keys finds: no line has the key. `NotIn key lines Unit` is what the arm is told.
use Prim.Native.Nat.{ℕ}
use mathlib.Core.List.{List, [], ◌∷◌}
use mathlib.Core.Path.{◌≡◌, refl, sym}
use mathlib.Core.Bool.{Bool, true, false, cond}
use lib.Dec.{eqb}
use borrow.Author.Tests.{ne_eqb}
use Rattle.bounds.specs.Tables.{lookup}

abbrev pub NotIn : {A : Type 0} → ℕ → List (ℕ × A) → Type 0 → Type 0
NotIn key [] told = told
NotIn key (line ∷ lines) told = NotIn key lines (told × (key ≡ line.0 → ⊥))

other-told : {A : Type 0} (key : ℕ) (lines : List (ℕ × A)) (other : A) (told : Type 0) → NotIn key lines told → (lookup key lines other ≡ other) × told
other-told key [] other told r = (refl, r)
other-told key (line ∷ lines) other told r =
    let q = other-told key lines other (told × (key ≡ line.0 → ⊥)) r in
    (rw (ne_eqb key line.0 q.1.1) q.0, q.1.0)

pub other-found : {A : Type 0} (key : ℕ) (lines : List (ℕ × A)) (other : A) → NotIn key lines (Unit {0}) → lookup key lines other ≡ other
other-found key lines other r = (other-told key lines other (Unit {0}) r).0

-- where the default arm stands for the table's last line too
abbrev pub but_last : {A : Type 0} → List A → List A
but_last [] = []
but_last (x ∷ []) = []
but_last (x ∷ y ∷ l) = x ∷ but_last (y ∷ l)

abbrev pub LastIs : {A : Type 0} → A → List (ℕ × A) → Type 0
LastIs a [] = Unit
LastIs a (line ∷ []) = line.1 ≡ a
LastIs a (line ∷ next ∷ lines) = LastIs a (next ∷ lines)

same : {A : Type 0} (t : Bool) (x a : A) → x ≡ a → cond t x a ≡ a
same true x a e = e
same false x a e = refl

last-told : {A : Type 0} (key : ℕ) (lines : List (ℕ × A)) (other : A) (told : Type 0) → LastIs other lines → NotIn key (but_last lines) told → (lookup key lines other ≡ other) × told
last-told key [] other told e r = (refl, r)
last-told key (line ∷ []) other told e r = (same (eqb key line.0) line.1 other e, r)
last-told key (line ∷ next ∷ lines) other told e r =
    let q = last-told key (next ∷ lines) other (told × (key ≡ line.0 → ⊥)) e r in
    (rw (ne_eqb key line.0 q.1.1) q.0, q.1.0)

pub last_found : {A : Type 0} (key : ℕ) (lines : List (ℕ × A)) (other : A) → LastIs other lines → NotIn key (but_last lines) (Unit {0}) → other ≡ lookup key lines other
last_found key lines other e r = sym (last-told key lines other (Unit {0}) e r).0
