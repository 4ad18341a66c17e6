-- The loop table and the state after a step, and once loops are closed.
use mathlib.Core.Path.{◌≡◌, refl, sym, ap}
use mathlib.Core.List.{List}
use Prim.Native.Nat.{ℕ, suc, ◌+◌, ◌-◌, ◌≤◌, ◌<◌}
use native.Mathlib.Omega.{arith}
use lib.ListN.{set, length-set}
use Rattle.items.specs.declared.Item.TheVariants.{Instruction, Label, Jump, LoopBegin, LoopEnd}
use Rattle.std.specs.Prelude.{Ok, Err, Result}
use Rattle.coded.specs.Coded.{Coded}
use Rattle.places.specs.declared.OpenLoop.{OpenLoop}
use Rattle.places.specs.declared.Rooms.{Rooms}
use Rattle.places.specs.Left.{Lent, lent_of, zero_loop, with_loops}
use Rattle.machine.specs.declared.State.{State}
use Rattle.machine.specs.declared.Step.{Step}
use Rattle.refusals.specs.declared.Refusal.{Refusal}
use Rattle.machine.specs.declared.Step.TheVariants.{On, Opened, Closed}
use Rattle.machine.specs.Machine.{Mem, mem_of, step_row, step_state, loops_by, GoodFor}
use Rattle.machine.specs.Finish.{level, shut, closed}
use Rattle.agrees.proofs.Keeps.{starts-less}
use Rattle.taking.specs.declared.Taking.{Taking}
use Rattle.taking.specs.Taking.{went_on, turned_of, slotted}

-- ---- the loop table, and the state, after a step
pub turn-loops : (t : Taking) (x : Result Step Refusal) (k : List OpenLoop) → slotted (turned_of t x).slot k ≡ loops_by x t.state k
turn-loops t (Ok (On s)) k = refl
turn-loops t (Ok (Opened s start)) k = refl
turn-loops t (Ok (Closed s)) k = refl
turn-loops t (Err r) k = refl

pub turn_on : (t : Taking) (x : Coded) (s : State) → (turned_of t (step_row x s)).taking ≡ went_on t (step_state (step_row x s) s)
turn_on t (Ok (Instruction v)) s = refl
turn_on t (Ok (Label a b)) s = refl
turn_on t (Ok (Jump c a b)) s = refl
turn_on t (Ok (LoopBegin c m)) s = refl
turn_on t (Ok LoopEnd) s = refl
turn_on t (Err why) s = refl

pub deeper_by_one : (x : Coded) (s : State) → (step_state (step_row x s) s).depth ≤ s.depth + 1
deeper_by_one (Ok (Instruction v)) s = omega arith
deeper_by_one (Ok (Label a b)) s = omega arith
deeper_by_one (Ok (Jump c a b)) s = omega arith
deeper_by_one (Ok (LoopBegin c m)) s = omega arith
deeper_by_one (Ok LoopEnd) s = omega arith
deeper_by_one (Err why) s = omega arith

-- ---- closing
pub mem_eq : {m m' : Mem} → m.s ≡ m'.s → m.lent.parcels ≡ m'.lent.parcels → m.lent.labels ≡ m'.lent.labels → m.lent.jumps ≡ m'.lent.jumps → m.lent.loops ≡ m'.lent.loops → m ≡ m'
mem_eq a b c d e = λ i. mem_of (a i) (lent_of (b i) (c i) (d i) (e i))

-- with no loop open there is nothing to close
pub closed_none : (s : State) (lent : Lent) → s.depth ≡ 0 → closed (mem_of s lent) ≡ mem_of s lent
closed_none s lent z = mem_eq (ap (λ (d : ℕ). level d s) (sym z)) refl refl refl (ap (λ (d : ℕ). shut d lent.loops) z)

-- the innermost record zeroed
abbrev pub popped : State → Lent → Lent
popped s lent = with_loops lent (set lent.loops (s.depth - 1) zero_loop)

-- one loop closed, the rest later
pub closed-one : (s : State) (lent : Lent) → 0 < s.depth → closed (mem_of (level (s.depth - 1) s) (popped s lent)) ≡ closed (mem_of s lent)
closed-one s lent h =
    let e : suc (s.depth - 1) ≡ s.depth = omega arith in
    mem_eq refl refl refl refl (ap (λ (d : ℕ). shut d lent.loops) e)

pub good-less : (ns : List ℕ) (r : Rooms) (s : State) (lent : Lent) → 0 < s.depth → GoodFor ns r (mem_of s lent) → GoodFor ns r (mem_of (level (s.depth - 1) s) (popped s lent))
good-less ns r s lent h g =
    let n = length-set lent.loops (s.depth - 1) zero_loop in
    record {
      rooming = omega (arith, g.rooming);
      within = omega (arith, g.within);
      entries = g.entries;
      starts = starts-less s (level (s.depth - 1) s) lent.loops refl h refl refl g.starts;
    }
