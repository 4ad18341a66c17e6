-- Every text fits its buffer, and as many parcels are shown as stand there.
use mathlib.Core.List.{List, [], ◌∷◌, ◌++◌}
use Prim.Native.Nat.{ℕ, ◌≤◌}
use native.Mathlib.Omega.{arith}
use lib.ListN.{length, take, length-append, length-take}
use lib.IntN.{ℤ}
use Rattle.text.specs.Text.{decimal, detail, parcel_line, each, ok, refused, ok_text, refusal_text}
use Rattle.text.proofs.Decimals.{decimal-short, detail-short}
use Rattle.text.proofs.Putting.{each_long, parcel_long}

ok-fits : (count : ℕ) (parcels : List ℕ) → length parcels ≤ 3072 → length (ok_text count parcels) ≤ 15384
ok-fits count parcels h =
    rw (length-append (ok ++ decimal count ++ 10 ∷ []) (each parcel_line parcels), each_long parcel_line 5 parcel_long parcels, length-append (ok ++ decimal count) (10 ∷ []))
    (omega (arith, decimal-short count))

pub refused_fits : (n : ℕ) (a b d : ℤ) → length (refusal_text n a b d) ≤ 15384
refused_fits n a b d =
    omega (
      arith,
      length-append (refused ++ decimal n ++ detail a ++ detail b ++ detail d) (10 ∷ []),
      length-append (refused ++ decimal n ++ detail a ++ detail b) (detail d),
      length-append (refused ++ decimal n ++ detail a) (detail b),
      length-append (refused ++ decimal n) (detail a),
      decimal-short n,
      detail-short a,
      detail-short b,
      detail-short d,
    )

pub accepted_fits : (count : ℕ) (parcels : List ℕ) → length parcels ≤ 3072 → length (ok_text count (take count parcels)) ≤ 15384
accepted_fits count parcels h = ok-fits count (take count parcels) (omega (arith, length-take count parcels))
