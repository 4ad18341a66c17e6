-- What is gathered of n items has each item's part behind what is gathered of the items before it.
use Prim.Native.Nat.{ℕ, zero, suc, ◌≤◌, ◌<◌}
use native.Mathlib.Omega.{arith}
use native.Mathlib.Nat.{eq-or-lt_of_le}
use mathlib.Core.Path.{◌≡◌, sym, ap, ◌∙◌}
use mathlib.Core.Logic.{⊎_elim}
use mathlib.Core.List.{List, [], ◌++◌, append_assoc, append-nil}
use lib.ListN.{length, take, drop}
use lib.Seq.{take-append_seam, drop-append_seam}
use Rattle.places.specs.Left.{gather}

module _ (f : ℕ → List ℕ) where
  pub gather_split : (i n : ℕ) → i < n → (more : List ℕ) × (gather f n ≡ gather f i ++ (f i ++ more))
  gather_split i zero h = absurd (omega arith)
  gather_split i (suc n) h =
      ⊎_elim (λ e. ([], ap (λ (y : ℕ). gather f (suc y)) (sym e) ∙ rw append-nil))
      (λ l. let r = gather_split i n l in (r.0 ++ f n, rw (r.1, append_assoc, append_assoc)))
      (eq-or-lt_of_le (let w : i ≤ n = omega arith in w))

  pub gather-at : (i n : ℕ) (rest : List ℕ) → i < n → take (length (f i)) (drop (length (gather f i)) (gather f n ++ rest)) ≡ f i
  gather-at i n rest h =
      let s = gather_split i n h in
      rw (s.1, append_assoc, drop-append_seam, append_assoc, take-append_seam)
