-- What the reader finds is what stands at the front of the parcels.
use mathlib.Core.Path.{◌≡◌, sym, subst}
use mathlib.Core.List.{List}
use Prim.Native.Nat.{ℕ}
use Rattle.std.specs.Prelude.{Option, Some, None}
use Rattle.known.specs.declared.Known.{Known}
use Rattle.known.specs.Front.{Front, known, unknown, Parcels}
use Rattle.known.specs.Window.{known_at, reading_of}
use Rattle.inverse.proofs.Fronts.{front-is}

module _ {ps : List ℕ} (each : Parcels ps) where
  here : {o : Option Known} → o ≡ known_at ps → Front ps (reading_of o)
  here found = subst (λ (o : Option Known). Front ps (reading_of o)) (sym found) (front-is ps each)

  pub none_found : None ≡ known_at ps → Front ps unknown
  none_found found = here found

  pub one_found : {k : Known} → Some k ≡ known_at ps → Front ps (known k.parcels k.row)
  one_found found = here found
