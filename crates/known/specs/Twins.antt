-- Document 02, wish 4: "Two different instruction rows that encode give the same parcels only in these cases: the two forms of LoadImmediate, a push
-- against StoreImmediate I7, M7, and a compute against the same one in kind 32": the row of smaller kind, and the one of larger kind.
use Rattle.std.specs.Prelude.{ℕ, ◌≡◌, true, List, ◌∷◌, replicate}
use Rattle.bounds.specs.Bounds.{is_compute}

pub data Twin : List ℕ → List ℕ → Type 0 where
  load : (register value : ℕ) → Twin (9 ∷ register ∷ value ∷ replicate 14 0) (17 ∷ register ∷ value ∷ replicate 14 0)
  push : (value : ℕ) → Twin (30 ∷ value ∷ replicate 15 0) (35 ∷ 7 ∷ 7 ∷ value ∷ replicate 13 0)
  compute : (kind a b c : ℕ) → is_compute kind ≡ true → Twin (kind ∷ a ∷ b ∷ c ∷ replicate 13 0) (32 ∷ 1 ∷ kind ∷ a ∷ b ∷ c ∷ replicate 11 0)
