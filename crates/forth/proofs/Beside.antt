-- The compute beside a move, or none: where the reader's table is fine, its eight places make it, and it writes what the table says.
use Prim.Native.Nat.{ℕ, ◌^◌, ◌<◌}
use native.Mathlib.Omega.{arith}
use mathlib.Core.Path.{◌≡◌, refl, sym, subst}
use mathlib.Core.Bool.{Bool, true, false, cond}
use mathlib.Core.List.{List, ◌∷◌, ◌++◌}
use lib.Dec.{eqb}
use lib.ListN.{length}
use borrow.Author.Tests.{eqb-true}
use Rattle.std.specs.Prelude.{Ok, Option, Some, None, unwrap_or}
use Rattle.items.specs.declared.Compute.{Compute}
use Rattle.encode.specs.Registers.{writes}
use Rattle.encode.specs.Layouts.{field_of}
use Rattle.bounds.specs.Bounds.{form, compute}
use Rattle.rows.specs.Kept.{Below}
use Rattle.rows.specs.Rows.{beside_of}
use Rattle.known.specs.declared.Held.{Held}
use Rattle.known.proofs.Written.{written}
use Rattle.known.specs.Table.{nothing_held, compute_at, beside_at, writes_to}
use Rattle.forth.proofs.Single.{Makes, compute-makes}

-- the eight places within their bounds, the compute that they make, its number and what it writes
pub record Besides (n : ℕ) (h : Held) : Type 0 where
  pub eight : length h.places ≡ 8
  pub optional : Option Compute
  pub bounds : (k : ℕ) (qs : List ℕ) → Below (compute form (k ∷ (h.places ++ qs))) h.places
  pub makes : (k : ℕ) (qs : List ℕ) → beside_of (k ∷ (h.places ++ qs)) ≡ Ok optional
  pub field : field_of optional ≡ n
  pub writing : (r : ℕ) → r < 16 → writes optional r ≡ writes_to h r

none_beside : (n : ℕ) → n ≡ 0 → Besides n nothing_held
unfolding compute beside_of writes
none_beside n z = record {
  eight = refl;
  optional = None;
  bounds = λ k qs. omega arith;
  makes = λ k qs. refl;
  field = sym z;
  writing = λ r h. refl;
}

some-beside : (n : ℕ) (h : Held) → Makes n h → Besides n h
unfolding beside_of writes
some-beside n h m = record {
  eight = m.eight;
  optional = Some record { field = n; first = unwrap_or h.first 16; second = unwrap_or h.second 16 };
  bounds = m.bounds form;
  makes = λ k qs. rw (m.some k qs, m.makes k qs);
  field = refl;
  writing = λ r l. rw (written h.first r l, written h.second r l);
}

pub beside-makes : (n : ℕ) → n < 2 ^ 23 → (h : Held) → beside_at n ≡ Some h → Besides n h
unfolding beside_at
beside-makes n l h f = go (eqb n 0) refl f
  where
    go : (t : Bool) → eqb n 0 ≡ t → cond t (Some nothing_held) (compute_at n) ≡ Some h → Besides n h
    go true e g = let same : nothing_held ≡ h = cc in subst (Besides n) same (none_beside n (eqb-true n 0 e))
    go false e g = some-beside n h (compute-makes n l h g)
