-- The waiting jumps once all rows are taken in: each one's place and row, as it is aimed.
use mathlib.Core.Path.{◌≡◌, ap, subst}
use Prim.Native.Nat.{ℕ, suc, ◌+◌, ◌*◌, ◌≤◌, ◌<◌}
use native.Mathlib.Omega.{arith}
use lib.ListN.{length, get_or}
use Rattle.places.specs.declared.Rooms.{Rooms}
use Rattle.places.specs.Items.{Kernel, size, place}
use Rattle.places.specs.Left.{Lent}
use Rattle.prefixes.proofs.Totals.{total-up}
use Rattle.machine.specs.declared.State.{State}
use Rattle.checks.specs.Rooming.{RoomingIn}
use Rattle.machine.specs.Machine.{Mem, Within, GoodFor}
use Rattle.tables.specs.Tables.{KernelFine}
use Rattle.tables.proofs.Which.{jump-row}
use Rattle.refusals.proofs.Order.{AllPass}
use Rattle.rows.specs.Rows.{most_rows}
use Rattle.settling.specs.Settling.{AimsFine}
use Rattle.agrees.proofs.Prefix.{mem, state_is, check_at, good-at}
use Rattle.agrees.proofs.Fits.{fits-at}
use Rattle.agrees.proofs.Tables.{waiting-held}

module _ (k : Kernel) (lent : Lent) (r : Rooms) (rooms : RoomingIn r lent) (fine : KernelFine k) (few : k.n ≤ most_rows) (all : AllPass (check_at k lent r) k.n) where
  abbrev M : Mem
  M = mem k.it lent k.n

  g : GoodFor k.names r (mem k.it lent k.n)
  g = good-at k lent r rooms fine k.n all

  -- jump number q: its parcels stand in the room, its row is one of the rows
  settles : (q : ℕ) → q < M.s.jumps → (get_or M.lent.jumps (2 * q) 0 + 3 ≤ r.parcels) × (get_or M.lent.jumps (2 * q + 1) 0 < k.n)
  settles q h =
      let c = jump-row k.it k.n q (subst (λ (s : State). q < s.jumps) (state_is k.it lent k.n) h) in
      let w = waiting-held k lent k.n (fits-at k lent r rooms fine k.n all) c.row c.before c.is in
      let z = subst (λ (y : ℕ). (get_or M.lent.jumps (2 * y) 0 ≡ place k.it c.row) × (get_or M.lent.jumps (2 * y + 1) 0 ≡ c.row)) c.number (w.place, w.row) in
      let three : size (k.it c.row) ≡ 3 = ap size c.is.jump in
      let up = total-up size k.it (suc c.row) k.n c.before in
      let at = subst (λ (s : State). Within s r) (state_is k.it lent k.n) g.within in
      omega (arith, c.before)

  pub aims-end : let m = mem k.it lent k.n in AimsFine k m.lent.labels m.s.labels m.lent.jumps m.s.jumps (length m.lent.parcels)
  aims-end =
      record {
        labels_in = omega (arith, g);
        entries = g.entries;
        jumps_in = omega (arith, g);
        places_in = λ q h. let w = settles q h in omega (arith, g);
        places_few = λ q h. let w = settles q h in omega (arith, g);
        rows_in = λ q h. (settles q h).1;
        rows_few = few;
      }
