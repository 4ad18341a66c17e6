-- The state once i rows are taken in, said of the items alone: each field is a count over, or a look back at, the first i items.
use mathlib.Core.Path.{◌≡◌, refl, ap, ◌∙◌}
use mathlib.Core.Bool.{Bool, true, false, cond}
use Prim.Native.Nat.{ℕ, zero, suc, ◌+◌, ◌-◌}
use native.Mathlib.Omega.{arith}
use lib.Dec.{eqb}
use Rattle.std.specs.Prelude.{Ok, Err}
use Rattle.refusals.specs.Answers.{Verdict}
use Rattle.coded.specs.Coded.{Coded}
use Rattle.refusals.proofs.Order.{AllPass}
use Rattle.items.specs.declared.Item.TheVariants.{Instruction, Label, Jump, LoopBegin, LoopEnd}
use Rattle.places.specs.declared.Rooms.{Rooms}
use Rattle.places.specs.declared.Traits.{Traits}
use Rattle.places.specs.Items.{Kernel, size_of, address, is_end, is_short, about, is_label, is_jump, total, place, address_of, entries, nest}
use Rattle.places.specs.Left.{Lent}
use Rattle.places.specs.Looking.{latest, last_at}
use Rattle.machine.specs.declared.State.{State}
use Rattle.checks.specs.Rooming.{RoomingIn}
use Rattle.machine.specs.Machine.{Mem, mem_of, st, check, next, GoodFor}
use Rattle.tables.specs.Tables.{KernelFine}
use Rattle.machine.specs.Fold.{mem_at, zero_state}
use Rattle.agrees.proofs.Keeps.{SameLens, lens, keep, good_zero}

-- ---- one row
-- what an item of these traits makes of a state
abbrev turned : Traits → State → State
turned t s =
    st (s.at + t.size) (s.labels + t.label) (s.jumps + t.jump) (s.depth + t.opens - t.closes) (s.count + t.entry)
    (cond (eqb t.entry 1) (address_of s.at) s.last) (cond (eqb t.short 1) (s.count + 1) s.short) (cond (eqb t.short 1) (address_of s.at) s.shortat)
    (cond (eqb t.closes 1) s.count s.ended)

st_eq : {a a' l l' j j' d d' c c' t s s' b b' e : ℕ} → a ≡ a' → l ≡ l' → j ≡ j' → d ≡ d' → c ≡ c' → s ≡ s' → b ≡ b' → st a l j d c t s b e ≡ st a' l' j' d' c' t s' b' e
st_eq {t} {e} x₁ x₂ x₃ x₄ x₅ x₆ x₇ = λ i. st (x₁ i) (x₂ i) (x₃ i) (x₄ i) (x₅ i) t (x₆ i) (x₇ i) e

none : (n : ℕ) → n ≡ n + 0
none n = omega arith

level : (n : ℕ) → n ≡ n + 0 - 0
level n = omega arith

by_size : (t : Bool) (a b : ℕ) → cond t a b ≡ cond (eqb (cond t 0 1) 1) b a
by_size true a b = refl
by_size false a b = refl

next-is : (row : ℕ) (x : Coded) (m : Mem) → (next row x m).s ≡ turned (about x) m.s
next-is row (Ok (Instruction v)) m = let t = eqb (size_of v.form) 3 in st_eq refl (none _) (none _) (level _) refl (by_size t _ _) (by_size t _ _)
next-is row (Ok (Label a b)) m = st_eq (none _) refl (none _) (level _) (none _) refl refl
next-is row (Ok (Jump c a b)) m = st_eq refl (none _) refl (level _) refl refl refl
next-is row (Ok (LoopBegin c k)) m = st_eq refl (none _) (none _) (omega arith) refl refl refl
next-is row (Ok LoopEnd) m = st_eq (none _) (none _) (none _) (omega arith) (none _) refl refl
next-is row (Err why) m = st_eq (none _) (none _) (none _) (level _) (none _) refl refl

-- ---- i rows
-- the latest instruction before i that does not take three parcels: the number of entries up to it, and its address
abbrev pub short_no : (ℕ → Coded) → ℕ → ℕ
short_no it i = latest (λ k. is_short (it k)) (λ k. entries it k + 1) 0 i

abbrev pub short_at : (ℕ → Coded) → ℕ → ℕ
short_at it i = latest (λ k. is_short (it k)) (λ k. address it k) 0 i

-- how many entries stand before the latest loop end before i
abbrev pub end_no : (ℕ → Coded) → ℕ → ℕ
end_no it i = latest (λ k. is_end (it k)) (λ k. entries it k) 0 i

abbrev pub state_of : (ℕ → Coded) → ℕ → State
state_of it i =
    st (place it i) (total is_label it i) (total is_jump it i) (nest it i) (entries it i) (last_at it i) (short_no it i) (short_at it i) (end_no it i)

module _ (it : ℕ → Coded) (lent : Lent) where
  abbrev pub mem : ℕ → Mem
  mem i = mem_at it (mem_of zero_state lent) i

  pub lens-is : (i : ℕ) → SameLens (mem_of zero_state lent) (mem i)
  lens-is zero = record { P = refl; L = refl; J = refl; K = refl }
  lens-is (suc i) = let x = lens i (it i) (mem i) in let y = lens-is i in omega arith

  pub state_is : (i : ℕ) → (mem i).s ≡ state_of it i
  state_is zero = refl
  state_is (suc i) = next-is i (it i) (mem i) ∙ ap (turned (about (it i))) (state_is i)

module _ (k : Kernel) (lent : Lent) (r : Rooms) where
  -- the check of row q, where the rows before it are taken in
  abbrev pub check_at : ℕ → Verdict
  check_at q = check k.names r (k.it q) (mem k.it lent q)

  -- what holds while the rows before i pass
  pub good-at : RoomingIn r lent → KernelFine k → (i : ℕ) → AllPass check_at i → GoodFor k.names r (mem k.it lent i)
  good-at rooms fine zero all = good_zero k.names r lent rooms
  good-at rooms fine (suc i) all = keep k.names r i (k.it i) (mem k.it lent i) (good-at rooms fine i (λ q h. all q (omega arith))) (fine i) (all i (omega arith))
