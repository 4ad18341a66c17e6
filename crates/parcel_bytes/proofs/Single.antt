-- Two answers that fit are both what the definition gives; it is 0 where there is room, and else 34.
use mathlib.Core.Path.{◌≡◌, refl, sym, ap, ◌∙◌}
use mathlib.Core.Logic.{◌⊎◌, inl, inr}
use mathlib.Core.Bool.{Bool, true, false}
use mathlib.Core.List.{List, ◌++◌}
use Prim.Native.Nat.{ℕ, ◌*◌, ◌<◌, ◌≤◌}
use lib.ListN.{length, drop}
use lib.IntN.{pos}
use lib.Dec.{ltb}
use borrow.Author.Tests.{lt-ltb, le-ltb, ltb-true, ltb-false}
use Rattle.parcel_bytes.specs.Bytes.{low_first, Writes}
use Rattle.parcel_bytes.specs.declared.ToldBytes.{ToldBytes}

module _ (parcels bytes : List ℕ) where
  pub no_second_answer : {t t' : ToldBytes} {b b' : List ℕ} → Writes parcels bytes t b → Writes parcels bytes t' b' → (t ≡ t') × (b ≡ b')
  no_second_answer x y = (x.told ∙ sym y.told, x.bytes ∙ sym y.bytes)

  module _ {t : ToldBytes} {b : List ℕ} (promise : Writes parcels bytes t b) where
    -- number 0 where the bytes are twice the parcels or more: they are written
    pub room-writes : 2 * length parcels ≤ length bytes → (t.number ≡ 0) × (b ≡ low_first parcels ++ drop (2 * length parcels) bytes)
    room-writes h =
        let e = le-ltb (length bytes) (2 * length parcels) h in
        (ap (λ (t : ToldBytes). t.number) promise.told ∙ rw e, promise.bytes ∙ rw e)

    -- else 34, and nothing is written
    pub short_34 : length bytes < 2 * length parcels → (t.number ≡ 34) × (b ≡ bytes)
    short_34 h =
        let e = lt-ltb (length bytes) (2 * length parcels) h in
        (ap (λ (t : ToldBytes). t.number) promise.told ∙ rw e, promise.bytes ∙ rw e)

    -- so number 0 is said exactly where there is room, and no other number than 34 besides
    by-room : (short : Bool) → ltb (length bytes) (2 * length parcels) ≡ short → ((t.number ≡ 0) × (2 * length parcels ≤ length bytes)) ⊎ ((t.number ≡ 34) × (length bytes < 2 * length parcels))
    by-room false e = let h = ltb-false _ _ e in inl ((room-writes h).0, h)
    by-room true e = let h = ltb-true _ _ e in inr ((short_34 h).0, h)

    pub written_or_34 : ((t.number ≡ 0) × (2 * length parcels ≤ length bytes)) ⊎ ((t.number ≡ 34) × (length bytes < 2 * length parcels))
    written_or_34 = by-room _ refl

    -- no row is named
    by-test : (short : Bool) → ltb (length bytes) (2 * length parcels) ≡ short → t.third ≡ pos 0
    by-test false e = ap (λ (t : ToldBytes). t.third) promise.told ∙ rw e
    by-test true e = ap (λ (t : ToldBytes). t.third) promise.told ∙ rw e

    pub no_row : t.third ≡ pos 0
    no_row = by-test _ refl
