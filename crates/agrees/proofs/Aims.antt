-- The waiting jumps' checks, one by one in the table, are what the items say, in item order.
use mathlib.Core.Path.{◌≡◌, refl, sym, ap, ap₂, ◌∙◌, subst}
use mathlib.Core.Logic.{⊎_elim}
use mathlib.Core.List.{List, []}
use Prim.Native.Nat.{ℕ, suc, ◌+◌, ◌*◌, ◌<◌}
use native.Mathlib.Omega.{arith}
use lib.ListN.{get_or}
use Rattle.std.specs.Prelude.{Ok, Err, Option}
use Rattle.coded.specs.Coded.{Coded}
use Rattle.items.specs.declared.Condition.{Condition}
use Rattle.items.specs.declared.Item.TheVariants.{Instruction, Label, Jump, LoopBegin, LoopEnd}
use Rattle.places.specs.Items.{Kernel, is_jump, total, place, jump_width}
use Rattle.places.specs.Left.{Lent}
use Rattle.places.specs.Looking.{Found, at, nothing, labelled}
use Rattle.places.specs.Verdict.{reach, reaches, reach_at}
use Rattle.prefixes.proofs.Tests.{order}
use Rattle.refusals.proofs.Order.{refused-good, StopsAt, AllPass}
use Rattle.prefixes.proofs.Single.{Single}
use Rattle.prefixes.proofs.Totals.{total-up}
use Rattle.machine.specs.declared.State.{State}
use Rattle.machine.specs.Machine.{Mem}
use Rattle.tables.specs.Tables.{lookup}
use Rattle.refusals.specs.Scan.{scan_at, all_scan}
use Rattle.machine.specs.Finish.{waits, settles, aims_of, aims_row}
use Rattle.settling.specs.Settling.{aim_form, aim_chk, aimed, aim_row_chk, row_aimed}
use Rattle.tables.proofs.Which.{IsJump, jump_or_not, RowOf, jump-row}
use Rattle.tables.proofs.Held.{JumpEntry}
use Rattle.agrees.proofs.Prefix.{mem, state_is}
use Rattle.agrees.proofs.Fits.{Fits}
use Rattle.agrees.proofs.Tables.{entries-held, waiting-held}
use Rattle.tables.proofs.Lookups.{placed, lookup-is}
use Rattle.refusals.proofs.Scans.{scan_stop}

aim_reach : (it : ℕ → Coded) (c : Condition) (i a b : ℕ) (f : Found) → aim_chk c (place it i) a b (placed it f) ≡ reach it c i a b f
unfolding aim_form
aim_reach it c i a b (at label) = refl
aim_reach it c i a b nothing = refl

-- only jumps wait
no-reach : (k : Kernel) (i : ℕ) (x : Coded) → is_jump x ≡ 0 → reaches k i x ≡ Ok tt
no-reach k i (Ok (Instruction v)) e = refl
no-reach k i (Ok (Label a b)) e = refl
no-reach k i (Ok (Jump c a b)) e = absurd (omega arith)
no-reach k i (Ok (LoopBegin c m)) e = refl
no-reach k i (Ok LoopEnd) e = refl
no-reach k i (Err why) e = refl

-- the memory once every row is taken in, and its parcels once q jumps are settled
abbrev pub end_of : Kernel → Lent → Mem
end_of k lent = mem k.it lent k.n

abbrev pub jumps_at : Kernel → Lent → ℕ → List ℕ
jumps_at k lent q = let m = end_of k lent in scan_at (waits k m) (settles k m) m.lent.parcels q

pub jumps-is : (k : Kernel) (lent : Lent) → (end_of k lent).s.jumps ≡ total is_jump k.it k.n
jumps-is k lent = ap (λ (s : State). s.jumps) (state_is k.it lent k.n)

module _ (k : Kernel) (lent : Lent) (f : Fits k.it lent k.n) (single : Single k k.n) where
  abbrev it : ℕ → Coded
  it = k.it

  abbrev n : ℕ
  n = k.n

  abbrev end : Mem
  end = end_of k lent

  found-is : (a b : ℕ) → lookup k.names end.lent.labels a b end.s.labels ≡ placed it (labelled k a b n)
  found-is a b = ap (λ (s : State). lookup k.names end.lent.labels a b s.labels) (state_is it lent n) ∙ lookup-is k n end.lent.labels (entries-held k lent n f) a b single

  -- ---- the jump of row i, at its number
  module _ (i : ℕ) (before : i < k.n) (y : IsJump (k.it i)) (ps : List ℕ) where
    its : JumpEntry it end.lent.jumps i
    its = waiting-held k lent n f i before y

    wait_is : waits k end (total is_jump it i) ps ≡ reaches k i (it i)
    wait_is =
        ap₂ (λ (q r : ℕ). aim_row_chk k.names end.lent.labels end.s.labels q (it r)) its.place its.row
        ∙ ap (aim_row_chk k.names end.lent.labels end.s.labels (place it i)) y.jump
        ∙ ap (aim_chk y.condition (place it i) y.start y.len) (found-is y.start y.len)
        ∙ aim_reach it y.condition i y.start y.len (labelled k y.start y.len n)
        ∙ ap (reaches k i) (sym y.jump)

    pub settle_is : settles k (end_of k lent) (total is_jump k.it i) ps ≡ aimed y.condition (place k.it i) (placed k.it (labelled k y.start y.len k.n)) ps
    settle_is =
        ap₂ (λ (q r : ℕ). row_aimed k.names end.lent.labels end.s.labels q ps (it r)) its.place its.row
        ∙ ap (λ (x : Coded). row_aimed k.names end.lent.labels end.s.labels (place it i) ps x) y.jump
        ∙ ap (λ (z : Option ℕ). aimed y.condition (place it i) z ps) (found-is y.start y.len)

  -- ---- all of them
  by_number : (q : ℕ) (c : RowOf is_jump IsJump it n q) → reach_at k c.row ≡ Ok tt → waits k end q (jumps_at k lent q) ≡ Ok tt
  by_number q c e = subst (λ (y : ℕ). waits k end y (jumps_at k lent y) ≡ Ok tt) c.number (wait_is c.row c.before c.is (jumps_at k lent (total is_jump it c.row)) ∙ e)

  pub aims-good : AllPass (reach_at k) k.n → aims_of k (end_of k lent) ≡ Ok tt
  aims-good all =
      let e = jumps-is k lent in
      all_scan (waits k end) (settles k end) end.lent.parcels end.s.jumps 0 (λ q u w. let c = jump-row it n q (omega arith) in by_number q c (all c.row c.before))

  -- the first jump that is refused: why, and its row as the table has it
  pub aims-stop : (s : StopsAt (reach_at k) k.n) → (aims_of k (end_of k lent) ≡ Err s.why) × (aims_row k (end_of k lent) ≡ s.row)
  aims-stop s = ⊎_elim (λ z. absurd (refused-good s.why (sym s.fails ∙ no-reach k s.row (it s.row) z))) jump (jump_or_not (it s.row))
    where
      jump : IsJump (it s.row) → (aims_of k end ≡ Err s.why) × (aims_row k end ≡ s.row)
      jump y =
          let e = jumps-is k lent in
          let one : is_jump (it s.row) ≡ 1 = ap is_jump y.jump in
          let up = total-up is_jump it (suc s.row) n s.before in
          let t =
          scan_stop (waits k end) (settles k end) end.lent.parcels end.s.jumps 0 (total is_jump it s.row) (omega arith) (omega arith)
          (λ q u w.
          let c = jump-row it n q (omega arith) in
          let nm = c.number in
          let lt : c.row < s.row = ⊎_elim (λ z. z) (λ z. let v = total-up is_jump it s.row c.row z in absurd (omega arith)) (order c.row s.row) in
          by_number q c (s.earlier c.row lt))
          (wait_is s.row s.before y (jumps_at k lent (total is_jump it s.row)) ∙ s.fails) in
          (t.0, ap (λ (q : ℕ). get_or end.lent.jumps (jump_width * q + 1) 0) t.1 ∙ (its s.row s.before y []).row)
