-- Looking back for the start of the innermost open loop, and for the last instruction.
use Prim.Native.Nat.{ℕ, ◌+◌, ◌-◌, ◌≤◌, ◌<◌}
use native.Mathlib.Omega.{arith}
use native.Mathlib.Nat.{eq-or-lt_of_le}
use mathlib.Core.Path.{◌≡◌, refl, sym}
use mathlib.Core.Logic.{⊎_elim}
use mathlib.Core.Bool.{Bool, false, ◌&&◌}
use lib.Dec.{eqb}
use borrow.Author.Tests.{eq-eqb, ne_eqb}
use Rattle.coded.specs.Coded.{Coded}
use Rattle.places.specs.Items.{about, nest}
use Rattle.places.specs.Looking.{opener}
use Rattle.prefixes.proofs.Tests.{and_second}
use Rattle.prefixes.proofs.Traits.{one_way}
use Rattle.prefixes.proofs.Looking.{latest-none}
use Rattle.ends.specs.Ends.{Closed, last_row}
use Rattle.ends.proofs.Looked.{Looked, looked-start, looked-on, looked-latest, looked-all, row_before}

module _ (it : ℕ → Coded) (end : ℕ) where
  -- a start one level up
  abbrev pub up : ℕ → Bool
  up k = eqb (about (it k)).opens 1 && eqb (nest it k + 1) (nest it end)

  -- as many loops have ended from row i on, and not started there, as the nesting is deeper before it
  pub record Back (i ended : ℕ) : Type 0 where
    pub looked : Looked up end i
    pub few : ended + i ≤ end
    pub level : nest it i ≡ nest it end + ended

  pub back_start : Back end 0
  back_start = record { looked = looked-start up end; few = omega arith; level = omega arith }

  module _ (closed : Closed it end) {i ended : ℕ} (some : 0 < i) (b : Back i ended) where
    -- the row before i
    nesting : nest it i ≡ nest it (i - 1) + (about (it (i - 1))).opens - (about (it (i - 1))).closes
    nesting = row_before (λ (y k : ℕ). nest it y ≡ nest it k + (about (it k)).opens - (about (it k)).closes) (λ k. refl) i some

    step : nest it i + (about (it (i - 1))).closes ≡ nest it (i - 1) + (about (it (i - 1))).opens
    step =
        let w = one_way (it (i - 1)) in
        let n = nesting in
        ⊎_elim (λ z. let d = closed (i - 1) (omega (arith, b.looked.within)) z in omega arith) (λ z. omega arith)
        (eq-or-lt_of_le (let y : (about (it (i - 1))).closes ≤ 1 = omega arith in y))

    pub back_found : ended + (about (it (i - 1))).closes < (about (it (i - 1))).opens → i - 1 ≡ opener it end
    back_found h =
        let w = one_way (it (i - 1)) in
        let s = step in
        let l = b.level in
        let o : (about (it (i - 1))).opens ≡ 1 = omega arith in
        let e : nest it (i - 1) + 1 ≡ nest it end = omega arith in
        sym (looked-latest up end some b.looked (λ k. k) (rw (o, eq-eqb _ _ e) refl))

    pub back_on : (about (it (i - 1))).opens ≤ ended + (about (it (i - 1))).closes → Back (i - 1) (ended + (about (it (i - 1))).closes - (about (it (i - 1))).opens)
    back_on h =
        let w = one_way (it (i - 1)) in
        let s = step in
        let l = b.level in
        record { looked = looked-on up end some b.looked not_up; few = omega (arith, b.few); level = omega arith }
      where
        not_up : up (i - 1) ≡ false
        not_up =
            let w = one_way (it (i - 1)) in
            let s = step in
            let l = b.level in
            ⊎_elim
            (λ z. and_second (eqb (about (it (i - 1))).opens 1) _ (ne_eqb _ _ (λ (y : nest it (i - 1) + 1 ≡ nest it end). omega arith)))
            (λ z. let o : (about (it (i - 1))).opens ≡ 0 = omega arith in rw o refl)
            (eq-or-lt_of_le (let y : (about (it (i - 1))).opens ≤ 1 = omega arith in y))

  pub back_none : {i ended : ℕ} → Back i ended → i ≤ 0 → 0 ≡ opener it end
  back_none b z = sym (latest-none up (λ k. k) end (looked-all up end b.looked z))

  -- ---- the last instruction
  abbrev pub entry : ℕ → Bool
  entry k = eqb (about (it k)).entry 1

  pub record After (i : ℕ) : Type 0 where
    pub looked : Looked entry end i

  pub after-start : After end
  after-start = record { looked = looked-start entry end }

  pub after-found : {i : ℕ} → 0 < i → After i → (about (it (i - 1))).entry ≡ 1 → i - 1 ≡ last_row it end
  after-found s l e = sym (looked-latest entry end s l.looked (λ k. k) (eq-eqb _ _ e))

  pub after_on : {i : ℕ} → 0 < i → After i → ((about (it (i - 1))).entry ≡ 1 → ⊥) → After (i - 1)
  after_on s l e = record { looked = looked-on entry end s l.looked (ne_eqb _ _ e) }

  pub after_none : {i : ℕ} → After i → i ≤ 0 → 0 ≡ last_row it end
  after_none l z = sym (latest-none entry (λ k. k) end (looked-all entry end l.looked z))
