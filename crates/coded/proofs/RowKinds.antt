-- The kind of an instruction is its row's kind: each line of the rows' tables is of the kind that it stands under.
use mathlib.Core.Path.{◌≡◌, refl}
use mathlib.Core.List.{List, [], ◌∷◌}
use Prim.Native.Nat.{ℕ}
use Rattle.items.specs.Kinds.{scalar_kind, kind_of}
use Rattle.rows.specs.Fields.{scalars, transfers, others}

abbrev Under : {A : Type 0} → (A → ℕ) → List (ℕ × A) → Type 0
Under kind [] = Unit {0}
Under kind (line ∷ lines) = (kind line.1 ≡ line.0) × Under kind lines

pub scalar_kinds : (a b c : ℕ) → Under scalar_kind (scalars a b c)
unfolding scalars
scalar_kinds a b c = (refl, (refl, (refl, (refl, (refl, (refl, (refl, (refl, (refl, (refl, (refl, (refl, (refl, tt)))))))))))))

pub transfer_kinds : (a b c : ℕ) → Under (λ v. (kind_of v).number) (transfers a b c)
unfolding transfers
transfer_kinds a b c = (refl, (refl, (refl, (refl, (refl, (refl, (refl, (refl, (refl, tt)))))))))

pub other_kinds : (a b c : ℕ) → Under (λ v. (kind_of v).number) (others a b c)
unfolding others
other_kinds a b c = (refl, (refl, (refl, (refl, (refl, (refl, (refl, (refl, (refl, (refl, (refl, (refl, tt))))))))))))
