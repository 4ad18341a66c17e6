-- Parcels start with the six of the leaf return where their first six are these.
use Prim.Native.Nat.{ℕ}
use mathlib.Core.Path.{◌≡◌, sym}
use mathlib.Core.Bool.{true}
use mathlib.Core.List.{List}
use lib.ListN.{take}
use lib.Pointwise.{bytes_decides}
use Rattle.fields.specs.Pack.{pack}
use Rattle.fields.specs.Parcels.{cut}
use Rattle.words.specs.Forms.{leaf_return}
use Rattle.known.specs.Window.{starts_leaf}

pub leaf-taken : (parcels : List ℕ) → starts_leaf parcels ≡ true → take 6 parcels ≡ cut 6 (pack leaf_return)
leaf-taken parcels e = sym ((bytes_decides (cut 6 (pack leaf_return)) (take 6 parcels)).0 e)

pub leaf_starts : (parcels : List ℕ) → take 6 parcels ≡ cut 6 (pack leaf_return) → starts_leaf parcels ≡ true
leaf_starts parcels e = (bytes_decides (cut 6 (pack leaf_return)) (take 6 parcels)).1 (sym e)
