-- Where every row passes, none of its refusals is met.
use Prim.Native.Nat.{ℕ, ◌<◌}
use native.Mathlib.Omega.{arith}
use mathlib.Core.Path.{◌≡◌}
use Rattle.items.specs.declared.Item.TheVariants.{Instruction}
use Rattle.std.specs.Prelude.{Ok, Err}
use Rattle.coded.specs.Coded.{Coded}
use Rattle.places.specs.Items.{Kernel}
use Rattle.places.specs.Verdict.{faults, reach_at}
use Rattle.places.specs.declared.Rooms.{Rooms}
use Rattle.refusals.proofs.Order.{AllGood, refused-good}
use Rattle.prefixes.proofs.Passing as passing
use Rattle.rules.specs.Rules.{Rule1}
use Rattle.rules.specs.WhichRow.{RowsPass}

-- every jump reaches its label
abbrev pub JumpsReach : Kernel → Type 0
JumpsReach k = (i : ℕ) → i < k.n → reach_at k i ≡ Ok tt

module _ (k : Kernel) (r : Rooms) (rows : RowsPass k r) where
  pub passed : (i : ℕ) → i < k.n → (x : Coded) → k.it i ≡ x → AllGood (faults k r i x)
  passed i h x e = passing.passed k r i (rows i h) x e

  pub rule1 : Rule1 k
  rule1 =
      record {
        constructible = λ i h w e. refused-good w (passed i h (Err w) e).0;
        encodes = λ i h v e. (passed i (omega arith) (Ok (Instruction v)) e).1.0;
      }
