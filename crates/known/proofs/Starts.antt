-- A loop start is known by its three parcels, whatever follows them.
use Prim.Native.Nat.{ℕ, ◌≤◌}
use mathlib.Core.Path.{◌≡◌, ◌∙◌}
use mathlib.Core.List.{List}
use lib.ListN.{length, take}
use Rattle.known.specs.Front.{StartsLoop}

pub loop-moved : (ps qs row : List ℕ) → 3 ≤ length qs → take 3 ps ≡ take 3 qs → StartsLoop ps row → StartsLoop qs row
loop-moved ps qs row long same s = record {
  choice = s.choice;
  count = s.count;
  mode = s.mode;
  offset = s.offset;
  numbers = s.numbers;
  reads = s.reads;
  low = s.low;
  high = s.high;
  good = s.good;
  within = long;
  same = s.same ∙ same;
}
