-- In a list that the build accepts loops pair, and each of a body's last 11 instructions takes three parcels: no row is changed.
use Prim.Native.Nat.{ℕ, ◌≤◌, ◌<◌}
use native.Mathlib.Omega.{arith}
use mathlib.Core.Path.{◌≡◌, refl}
use mathlib.Core.Logic.{◌↔◌}
use mathlib.Core.Bool.{true, false}
use mathlib.Core.List.{List}
use lib.ListN.{length}
use Rattle.refusals.specs.declared.Told.{Told}
use Rattle.std.specs.Prelude.{Ok, Err}
use Rattle.coded.specs.Coded.{Coded, read_verdict}
use Rattle.rows.specs.Rows.{well_formed}
use Rattle.items.specs.declared.Item.TheVariants.{Instruction, Label, Jump, LoopBegin, LoopEnd}
use Rattle.places.specs.Items.{Kernel, kernel_of, row_count}
use Rattle.places.specs.Left.{Lent, Builds}
use Rattle.counts.specs.Counts.{Passes}
use Rattle.prefixes.proofs.Tests.{not_so}
use Rattle.rules.specs.Rules.{Rule1}
use Rattle.rules.specs.Accepted.{ValidRows}
use Rattle.rules.proofs.Answers.{accepted_well_formed, build_accepts_exactly_when_valid}
use Rattle.widening.specs.declared.ToldWidened.{ToldWidened}
use Rattle.widening.specs.Widening.{changes, copy_room, Widens}
use Rattle.widened.specs.Widened.{Unchanged}
use Rattle.widened.proofs.Changes.{changed-width}
use Rattle.widened.proofs.Tails.{changes-exactly}
use Rattle.widened.proofs.Unchanged.{zero_exactly_with_room, none-changed, paired_told_exactly}

module _ (k : Kernel) where
  open k use {it, n}

  -- rule 1: every row is read
  all_read : Rule1 k → (i : ℕ) → i < n → read_verdict (it i) ≡ Ok tt
  all_read r i h = go (it i) refl
    where
      go : (x : Coded) → it i ≡ x → read_verdict x ≡ Ok tt
      go (Ok (Instruction c)) e = refl
      go (Ok (Label a b)) e = refl
      go (Ok (Jump c a b)) e = refl
      go (Ok (LoopBegin c m)) e = refl
      go (Ok LoopEnd) e = refl
      go (Err w) e = absurd (r.constructible i h w e)

module _ (rows names : List ℕ) (lent : Lent) (told : Told) (left : Lent) (build : Builds rows names lent told left) (accepted : told.number ≡ 0) where
  abbrev k : Kernel
  k = kernel_of rows names

  formed : well_formed (length rows) ≡ true
  formed = accepted_well_formed rows names lent told left build accepted

  valid : ValidRows rows names lent
  valid = (build_accepts_exactly_when_valid rows names lent told left build formed).0 accepted

  passes : Passes read_verdict rows names
  passes = record { formed = formed; each = all_read k valid.rule1 }

  -- a changed row would be an instruction of a tail that does not take three parcels
  no_change : (i : ℕ) → i < row_count rows → changes rows names i ≡ false
  no_change i h =
      not_so _
      (λ c.
      let w = changed-width rows names passes i h c in
      let x = ((changes-exactly rows names i).0 c).in_tail in
      let three = valid.rule4.tail x.start x.end i x.pair x.after x.before w.entry x.near in
      let short = w.short in
      omega arith)

  module _ (copy list : List ℕ) {t : ToldWidened} {copy' list' : List ℕ} (w : Widens rows names copy list t copy' list') where
    -- only the copy's room can be too small
    pub accepted_widens_exactly_with_room : (t.number ≡ 0) ↔ (row_count rows ≤ copy_room copy)
    accepted_widens_exactly_with_room = zero_exactly_with_room rows names copy list w no_change passes

    -- THE THEOREM: "a list which the build already accepts comes back unchanged"
    pub accepted_comes_back_unchanged : t.number ≡ 0 → Unchanged rows copy list t copy' list' × (t.paired ≡ 1)
    accepted_comes_back_unchanged e = (
      none-changed rows names copy list w no_change e,
      (paired_told_exactly rows names copy list w e).1 (record { matched = valid.rule3.matched; closed = valid.rule3.closed }),
    )
