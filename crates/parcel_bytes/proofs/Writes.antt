-- After i parcels the lent bytes are their bytes, low first, and then what stood past twice i.
use mathlib.Core.Path.{◌≡◌, refl, ap, ◌∙◌}
use mathlib.Core.List.{List, [], ◌∷◌, ◌++◌, append_assoc}
use Prim.Native.Nat.{ℕ, suc, ◌+◌, ◌*◌, ◌/◌, ◌%◌, ◌^◌, ◌≤◌, ◌<◌}
use native.Mathlib.Omega.{arith}
use native.Mathlib.Numerals.{add-one}
use lib.ListN.{length, get_or, take, drop}
use lib.Seq.{take-suc, take_at, drop_at, drop-drop, length-take-le}
use borrow.Rule.Slice.PartMut.{put_mid}
use Rattle.std.specs.Int.{w16, to_le_bytes}
use Rattle.parcel_bytes.specs.Bytes.{low_first}

low-append : (a b : List ℕ) → low_first (a ++ b) ≡ low_first a ++ low_first b
low-append [] b = refl
low-append (p ∷ a) b = ap (λ (l : List ℕ). p % 256 ∷ p / 256 ∷ l) (low-append a b)

low-length : (a : List ℕ) → length (low_first a) ≡ 2 * length a
low-length [] = refl
low-length (p ∷ a) = let h = low-length a in omega arith

-- the bytes of a parcel
pub bytes-of : (p : ℕ) → p < 2 ^ 16 → to_le_bytes w16 p ≡ low_first (p ∷ [])
bytes-of p fits = let h : p / 256 % 256 ≡ p / 256 = omega arith in rw h

twice : (i : ℕ) → 2 * suc i ≡ 2 * i + 2
twice i = omega arith

-- what holds after i parcels
pub record Writing (parcels bytes₀ : List ℕ) (i : ℕ) (bytes : List ℕ) : Type 0 where
  pub within : i ≤ length parcels
  pub room : 2 * length parcels ≤ length bytes₀
  pub here : bytes ≡ low_first (take i parcels) ++ drop (2 * i) bytes₀

module _ {ps bs : List ℕ} {i : ℕ} {b : List ℕ} (w : Writing ps bs i b) where
  pub writing-next : i < length ps → {k : ℕ} {ys : List ℕ} → k ≡ 2 → ys ≡ low_first (get_or ps i 0 ∷ []) → Writing ps bs (i + 1) (put_mid (2 * i) k b ys)
  writing-next h {k} {ys} two copied =
      let done : length (low_first (take i ps)) ≡ 2 * i = low-length (take i ps) ∙ ap (λ (n : ℕ). 2 * n) (length-take-le i ps w.within) in
      record {
        within = omega arith;
        room = w.room;
        here =
            rw (w.here, take_at (low_first (take i ps)) (drop (2 * i) bs) (2 * i) done, drop_at (low_first (take i ps)) (drop (2 * i) bs) (2 * i) done)
            (rw (two, copied, drop-drop, add-one i, take-suc ps i 0 h, twice i, low-append, append_assoc));
      }
