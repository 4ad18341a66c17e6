-- Five bytes each, in the one buffer.
use Rattle.std.proofs.Common.{◌≡◌, ◌+◌, ◌*◌, ◌≤◌, length}
use Rattle.replay.proofs.put_parcels.Given as goal

abbrev pub invariant-loop-parcel : goal.invariant-loop-parcel
invariant-loop-parcel l = record {
  within : l.text.at ≤ l.initial.text.at + 5 * l.parcel-index;
  long : length l.text.out.now ≡ length l.initial.text.out.now;
  same : l.text.out.ghost_name ≡ l.initial.text.out.ghost_name;
}
