-- What the passed checks of the rows before i leave to know of the items: their totals fit the buffers, and each loop end had an open loop.
use mathlib.Core.Path.{◌≡◌, subst}
use Prim.Native.Nat.{ℕ, zero, suc, ◌*◌, ◌≤◌, ◌<◌}
use native.Mathlib.Omega.{arith}
use lib.ListN.{length}
use Rattle.std.specs.Prelude.{Ok}
use Rattle.coded.specs.Coded.{Coded}
use Rattle.items.specs.declared.Item.TheVariants.{LoopEnd}
use Rattle.places.specs.declared.Rooms.{Rooms}
use Rattle.places.specs.Items.{Kernel, is_label, is_jump, total, place, nest}
use Rattle.places.specs.Left.{Lent}
use Rattle.places.specs.Looking.{deepest}
use Rattle.machine.specs.declared.State.{State}
use Rattle.checks.specs.Rooming.{RoomingIn}
use Rattle.machine.specs.Machine.{check, top_of, Within}
use Rattle.tables.specs.Tables.{KernelFine}
use Rattle.refusals.proofs.Order.{AllPass}
use Rattle.machine.proofs.Checks.{end-good}
use Rattle.agrees.proofs.Prefix.{mem, state_of, state_is, check_at, good-at}

pub record Fits (it : ℕ → Coded) (lent : Lent) (i : ℕ) : Type 0 where
  pub parcels : place it i ≤ length lent.parcels
  pub labels : 3 * total is_label it i ≤ length lent.labels
  pub jumps : 2 * total is_jump it i ≤ length lent.jumps
  pub loops : deepest it i ≤ length lent.loops
  pub ends : (q : ℕ) → q < i → it q ≡ Ok LoopEnd → 0 < nest it q

deepest-up : (it : ℕ → Coded) (i : ℕ) → deepest it i ≤ deepest it (suc i)
deepest-up it i = omega arith

pub fits-less : {it : ℕ → Coded} {lent : Lent} {i : ℕ} → Fits it lent (suc i) → Fits it lent i
fits-less {it} {i} f =
    let d = deepest-up it i in
    record { parcels = omega arith; labels = omega arith; jumps = omega arith; loops = omega arith; ends = λ q h. f.ends q (omega arith) }

module _ (k : Kernel) (lent : Lent) (r : Rooms) (rooms : RoomingIn r lent) (fine : KernelFine k) where
  within-at : (i : ℕ) → AllPass (check_at k lent r) i → Within (state_of k.it i) r
  within-at i all = subst (λ (s : State). Within s r) (state_is k.it lent i) (good-at k lent r rooms fine i all).within

  deepest_in : (i : ℕ) → AllPass (check_at k lent r) i → deepest k.it i ≤ r.loops
  deepest_in zero all = omega arith
  deepest_in (suc i) all =
      let h = deepest_in i (λ q u. all q (omega arith)) in
      let d = (within-at (suc i) all).depth_in in
      omega arith

  pub fits-at : (i : ℕ) → AllPass (check_at k lent r) i → Fits k.it lent i
  fits-at i all =
      let w = within-at i all in
      let d = deepest_in i all in
      record {
        parcels = omega arith;
        labels = omega arith;
        jumps = omega arith;
        loops = omega arith;
        ends = λ q u e.
            let m = mem k.it lent q in
            let c = end-good m.s (top_of m.s m.lent.loops) (subst (λ (x : Coded). check k.names r x (mem k.it lent q) ≡ Ok tt) e (all q u)) in
            subst (λ (s : State). 0 < s.depth) (state_is k.it lent q) c.inside;
      }
