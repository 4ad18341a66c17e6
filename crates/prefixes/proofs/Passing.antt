-- Rows that pass: none of their refusals is met, each finds room for what it counts for, and each loop end closes a loop.
use Prim.Native.Nat.{ℕ, zero, suc, ◌+◌, ◌≤◌, ◌<◌}
use native.Mathlib.Omega.{arith}
use mathlib.Core.Path.{◌≡◌, refl, ap, subst}
use borrow.Author.Tests.{ltb-false, eqb-false}
use lib.Dec.{eqb}
use Rattle.refusals.specs.declared.Refusal.TheVariants.{UnmatchedLoopEnd}
use Rattle.std.specs.Prelude.{Ok, Err}
use Rattle.coded.specs.Coded.{Coded}
use Rattle.refusals.specs.Order.{first}
use Rattle.refusals.proofs.Order.{AllGood, AllPass, when-good, first_good, refused-good, below_suc}
use Rattle.items.specs.declared.Item.TheVariants.{Instruction, Label, Jump, LoopBegin, LoopEnd}
use Rattle.places.specs.declared.Rooms.{Rooms}
use Rattle.places.specs.Items.{Kernel, size_of, about, size, is_label, is_jump, total, place, nest}
use Rattle.places.specs.Looking.{deepest}
use Rattle.places.specs.Verdict.{faults, verdict_at}

-- the first i items fit the rooms
pub record Fits (it : ℕ → Coded) (r : Rooms) (i : ℕ) : Type 0 where
  pub parcels : place it i ≤ r.parcels
  pub labels : total is_label it i ≤ r.labels
  pub jumps : total is_jump it i ≤ r.jumps
  pub loops : nest it i ≤ r.loops
  pub deep : deepest it i ≤ r.loops
  pub closed : (q : ℕ) → q < i → (about (it q)).closes ≡ 1 → 0 < nest it q

module _ (k : Kernel) (r : Rooms) where
  open k use {it}

  pub passed : (i : ℕ) → verdict_at k r i ≡ Ok tt → (x : Coded) → it i ≡ x → AllGood (faults k r i x)
  passed i g x e = first_good (faults k r i x) (subst (λ (y : Coded). first (faults k r i y) ≡ Ok tt) e g)

  same : (i : ℕ) (x : Coded) → it i ≡ x → (size (it i) ≡ size x) × (is_label (it i) ≡ is_label x) × (is_jump (it i) ≡ is_jump x) × ((about (it i)).opens ≡ (about x).opens) × ((about (it i)).closes ≡ (about x).closes)
  same i x e = (ap size e, ap is_label e, ap is_jump e, ap (λ (y : Coded). (about y).opens) e, ap (λ (y : Coded). (about y).closes) e)

  -- what row i adds, but for the ends
  record Adds (i : ℕ) : Type 0 where
    parcels : place it (suc i) ≤ r.parcels
    labels : total is_label it (suc i) ≤ r.labels
    jumps : total is_jump it (suc i) ≤ r.jumps
    loops : nest it (suc i) ≤ r.loops
    closes : (about (it i)).closes ≡ 1 → 0 < nest it i

  adds : (i : ℕ) → verdict_at k r i ≡ Ok tt → Fits it r i → (x : Coded) → it i ≡ x → Adds i
  adds i g f (Ok (Instruction v)) e =
      let s = same i _ e in
      let u : place it i + size_of v.form ≤ r.parcels = ltb-false _ _ (when-good _ _ (passed i g _ e).1.1.0) in
      record { parcels = omega arith; labels = omega arith; jumps = omega arith; loops = omega arith; closes = λ c. absurd (omega arith) }
  adds i g f (Ok (Label a b)) e =
      let s = same i _ e in
      let u : total is_label it i + 1 ≤ r.labels = ltb-false _ _ (when-good _ _ (passed i g _ e).1.1.0) in
      record { parcels = omega arith; labels = omega arith; jumps = omega arith; loops = omega arith; closes = λ c. absurd (omega arith) }
  adds i g f (Ok (Jump c a b)) e =
      let s = same i _ e in
      let u : total is_jump it i + 1 ≤ r.jumps = ltb-false _ _ (when-good _ _ (passed i g _ e).1.0) in
      let v : place it i + 3 ≤ r.parcels = ltb-false _ _ (when-good _ _ (passed i g _ e).1.1.0) in
      record { parcels = omega arith; labels = omega arith; jumps = omega arith; loops = omega arith; closes = λ c. absurd (omega arith) }
  adds i g f (Ok (LoopBegin c m)) e =
      let s = same i _ e in
      let u : nest it i + 1 ≤ r.loops = ltb-false _ _ (when-good _ _ (passed i g _ e).0) in
      let v : place it i + 3 ≤ r.parcels = ltb-false _ _ (when-good _ _ (passed i g _ e).1.0) in
      record { parcels = omega arith; labels = omega arith; jumps = omega arith; loops = omega arith; closes = λ c. absurd (omega arith) }
  adds i g f (Ok LoopEnd) e =
      let s = same i _ e in
      let z : nest it i ≡ 0 → ⊥ = eqb-false (nest it i) 0 (when-good (eqb (nest it i) 0) UnmatchedLoopEnd (passed i g _ e).0) in
      record { parcels = omega arith; labels = omega arith; jumps = omega arith; loops = omega arith; closes = λ c. omega arith }
  adds i g f (Err w) e = absurd (refused-good w (passed i g _ e).0)

  pub fits : (i : ℕ) → AllPass (verdict_at k r) i → Fits it r i
  fits zero all = record { parcels = omega arith; labels = omega arith; jumps = omega arith; loops = omega arith; deep = omega arith; closed = λ q h. absurd (omega arith) }
  fits (suc i) all =
      let f = fits i (λ q h. all q (omega arith)) in
      let a = adds i (all i (omega arith)) f (it i) refl in
      record {
        parcels = a.parcels;
        labels = a.labels;
        jumps = a.jumps;
        loops = a.loops;
        deep = omega (arith, f.deep, a.loops);
        closed = below_suc (λ (q : ℕ). (about (it q)).closes ≡ 1 → 0 < nest it q) i f.closed a.closes;
      }
