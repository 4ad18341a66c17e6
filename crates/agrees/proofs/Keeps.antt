-- What stays true of the state and the buffers while rows are taken in: a row that passes its checks keeps it.
use mathlib.Core.Path.{◌≡◌, refl, ap, ◌∙◌}
use mathlib.Core.Bool.{Bool, true, false, cond}
use mathlib.Core.Logic.{◌≢◌}
use mathlib.Core.List.{List, [], ◌∷◌}
use Prim.Native.Nat.{ℕ, ◌+◌, ◌-◌, ◌*◌, ◌≤◌, ◌<◌}
use native.Mathlib.Omega.{arith}
use lib.ListN.{length, get_or, set, length-set}
use lib.Dec.{eqb}
use lib.Seq.{sets, length-sets, get_or-set_same, get_or-set_other}
use borrow.Author.Count.{below_more}
use Rattle.std.specs.Prelude.{Ok, Err}
use Rattle.coded.specs.Coded.{Coded}
use Rattle.items.specs.declared.Item.TheVariants.{Instruction, Label, Jump, LoopBegin, LoopEnd}
use Rattle.encode.specs.Encoding.{form_parcels, settled}
use Rattle.encode.proofs.Sizes.{form-some}
use Rattle.places.specs.declared.Rooms.{Rooms}
use Rattle.places.specs.declared.OpenLoop.{OpenLoop}
use Rattle.places.specs.Items.{size_of, address_of}
use Rattle.places.specs.Left.{Lent, zero_loop, zeros}
use Rattle.refusals.proofs.Order.{refused-good}
use Rattle.machine.specs.declared.State.{State}
use Rattle.checks.specs.Rooming.{RoomingIn}
use Rattle.machine.specs.Machine.{Mem, mem_of, check, next, top_of, top_form, begin_record, end_next, Starts, GoodFor}
use Rattle.tables.specs.Tables.{Entries}
use Rattle.coded.specs.Fine.{CodedFine}
use Rattle.machine.specs.Fold.{zero_state}
use Rattle.checks.proofs.Passed.{instruction-good, label-good, jump-good, begin_good}
use Rattle.machine.proofs.Checks.{end-good}
use Rattle.tables.proofs.Stores.{get_d_sets_below, get_d_sets_in}

-- ---- no row changes a buffer's length
pub record SameLens (m m' : Mem) : Type 0 where
  pub P : length m'.lent.parcels ≡ length m.lent.parcels
  pub L : length m'.lent.labels ≡ length m.lent.labels
  pub J : length m'.lent.jumps ≡ length m.lent.jumps
  pub K : length m'.lent.loops ≡ length m.lent.loops

pub lens : (row : ℕ) (x : Coded) (m : Mem) → SameLens m (next row x m)
lens row (Ok (Instruction v)) m = record { P = length-sets m.lent.parcels m.s.at (form_parcels v.form); L = refl; J = refl; K = refl }
lens row (Ok (Label a b)) m = record { P = refl; L = length-sets m.lent.labels (3 * m.s.labels) (a ∷ b ∷ address_of m.s.at ∷ []); J = refl; K = refl }
lens row (Ok (Jump c a b)) m = record { P = length-sets m.lent.parcels m.s.at zeros; L = refl; J = length-sets m.lent.jumps (2 * m.s.jumps) (m.s.at ∷ row ∷ []); K = refl }
lens row (Ok (LoopBegin c k)) m = record { P = length-sets m.lent.parcels m.s.at zeros; L = refl; J = refl; K = length-set m.lent.loops m.s.depth (begin_record m.s c k) }
lens row (Ok LoopEnd) m =
    let top = top_of m.s m.lent.loops in
    record { P = length-sets m.lent.parcels top.place (settled (top_form m.s top)); L = refl; J = refl; K = length-set m.lent.loops (m.s.depth - 1) zero_loop }
lens row (Err why) m = record { P = refl; L = refl; J = refl; K = refl }

-- ---- the state
pick_most : (t : Bool) (a b c : ℕ) → a ≤ c → b ≤ c → cond t a b ≤ c
pick_most true a b c p q = p
pick_most false a b c p q = q

-- ---- the label entries
entries-more : (names ls : List ℕ) (n a b p : ℕ) → 3 * n + 3 ≤ length ls → a + b ≤ length names → Entries names ls n → Entries names (sets ls (3 * n) (a ∷ b ∷ p ∷ [])) (n + 1)
entries-more names ls n a b p room h g =
    below_more (λ (k : ℕ). get_or (sets ls (3 * n) (a ∷ b ∷ p ∷ [])) (3 * k) 0 + get_or (sets ls (3 * n) (a ∷ b ∷ p ∷ [])) (3 * k + 1) 0 ≤ length names) n
    (λ k q.
    rw (get_d_sets_below (a ∷ b ∷ p ∷ []) ls (3 * n) (3 * k) (omega arith), get_d_sets_below (a ∷ b ∷ p ∷ []) ls (3 * n) (3 * k + 1) (omega arith)) (g k q))
    (rw (start, get_d_sets_in (a ∷ b ∷ p ∷ []) ls (3 * n) 1 room (omega arith)) h)
  where
    start : get_or (sets ls (3 * n) (a ∷ b ∷ p ∷ [])) (3 * n) 0 ≡ a
    start = ap (λ (y : ℕ). get_or (sets ls (3 * n) (a ∷ b ∷ p ∷ [])) y 0) (let z : 3 * n ≡ 3 * n + 0 = omega arith in z) ∙ get_d_sets_in (a ∷ b ∷ p ∷ []) ls (3 * n) 0 room (omega arith)

-- ---- the loop records
abbrev Started : List OpenLoop → ℕ → ℕ → ℕ → Type 0
Started ks d a l = ((get_or ks d zero_loop).place + 3 ≤ a) × ((get_or ks d zero_loop).place ≤ l)

on-starts : (s s' : State) (ks : List OpenLoop) → s'.depth ≡ s.depth → s.at ≤ s'.at → s.at ≤ s'.last → Starts s ks → Starts s' ks
on-starts s s' ks d a l h k p = let q = h k (omega arith) in omega arith

start-kept : (v : OpenLoop) (ks : List OpenLoop) (i d a l : ℕ) → d < i → Started ks d a l → Started (set ks i v) d a l
start-kept v ks i d a l h q = rw (get_or-set_other ks i d v zero_loop (let w : d ≢ i = omega arith in w)) q

starts_more : (ks : List OpenLoop) (v : OpenLoop) (d a l : ℕ) → d < length ks → v.place + 3 ≤ a → v.place ≤ l → ((k : ℕ) → k < d → Started ks k a l) → (k : ℕ) → k < d + 1 → Started (set ks d v) k a l
starts_more ks v d a l room h₁ h₂ g = below_more (λ (k : ℕ). Started (set ks d v) k a l) d (λ k q. start-kept v ks d k a l q (g k q)) (rw (get_or-set_same ks d v zero_loop room) (h₁, h₂))

-- popping the innermost record leaves the starts of the others
pub starts-less : (s s' : State) (ks : List OpenLoop) → s'.depth ≡ s.depth - 1 → 0 < s.depth → s'.at ≡ s.at → s'.last ≡ s.last → Starts s ks → Starts s' (set ks (s.depth - 1) zero_loop)
starts-less s s' ks d some a l h k u =
    start-kept zero_loop ks (s.depth - 1) k s'.at s'.last (omega arith) (let z = h k (omega arith) in omega arith)

-- ---- one row
pub keep : (names : List ℕ) (r : Rooms) (row : ℕ) (x : Coded) (m : Mem) → GoodFor names r m → CodedFine (length names) x → check names r x m ≡ Ok tt → GoodFor names r (next row x m)
keep names r row (Ok (Instruction v)) m g h e =
    let c = instruction-good r m.s.at m.s.depth v e in
    let some = form-some v.form c.encodes in
    let t = eqb (size_of v.form) 3 in
    let short = pick_most t m.s.short (m.s.count + 1) (m.s.count + 1) (omega arith) (omega arith) in
    let shortat = pick_most t m.s.shortat m.s.at m.s.at (omega arith) (omega arith) in
    record {
      rooming = omega (arith, lens row (Ok (Instruction v)) m);
      within = omega arith;
      entries = g.entries;
      starts = on-starts m.s (next row (Ok (Instruction v)) m).s m.lent.loops refl (omega arith) (omega arith) g.starts;
    }
keep names r row (Ok (Label a b)) m g h e =
    let c = label-good r m.s.depth names m.lent.labels m.s.labels a b e in
    record {
      rooming = omega (arith, lens row (Ok (Label a b)) m);
      within = omega arith;
      entries = entries-more names m.lent.labels m.s.labels a b m.s.at (omega arith) h g.entries;
      starts = g.starts;
    }
keep names r row (Ok (Jump c a b)) m g h e =
    let q = jump-good r m.s.at m.s.jumps m.s.depth e in
    record {
      rooming = omega (arith, lens row (Ok (Jump c a b)) m);
      within = omega arith;
      entries = g.entries;
      starts = on-starts m.s (next row (Ok (Jump c a b)) m).s m.lent.loops refl (omega arith) (omega arith) g.starts;
    }
keep names r row (Ok (LoopBegin c k)) m g h e =
    let q = begin_good r m.s.at m.s.depth e in
    record {
      rooming = omega (arith, lens row (Ok (LoopBegin c k)) m);
      within = omega arith;
      entries = g.entries;
      starts = starts_more m.lent.loops (begin_record m.s c k) m.s.depth (m.s.at + 3) m.s.at (omega arith) (omega arith) (omega arith) (λ d u. let z = g.starts d u in omega arith);
    }
keep names r row (Ok LoopEnd) m g h e =
    let q = end-good m.s (top_of m.s m.lent.loops) e in
    record {
      rooming = omega (arith, lens row (Ok LoopEnd) m);
      within = omega arith;
      entries = g.entries;
      starts = starts-less m.s (end_next m.s) m.lent.loops refl q.inside refl refl g.starts;
    }
keep names r row (Err why) m g h e = absurd (refused-good why e)

-- ---- the start
pub good_zero : (names : List ℕ) (r : Rooms) (lent : Lent) → RoomingIn r lent → GoodFor names r (mem_of zero_state lent)
good_zero names r lent h = record { rooming = h; within = omega arith; entries = λ i q. absurd (omega arith); starts = λ i q. absurd (omega arith) }
