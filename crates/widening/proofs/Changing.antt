-- Whether a row is changed, test by test; and how many are.
use mathlib.Core.Path.{◌≡◌, refl, sym, ap, ◌∙◌}
use mathlib.Core.Logic.{⊎_elim}
use mathlib.Core.Bool.{Bool, true, false, cond, ◌&&◌}
use mathlib.Core.List.{List, [], ◌∷◌}
use Prim.Native.Nat.{ℕ, zero, suc, ◌+◌, ◌*◌, ◌≤◌, ◌<◌}
use native.Mathlib.Omega.{arith}
use native.Mathlib.Nat.{eq-or-lt_of_le}
use native.Mathlib.Numerals.{add-one}
use lib.ListN.{get_or}
use Rattle.refusals.specs.Order.{if_good}
use Rattle.rows.specs.Rows.{row_width}
use Rattle.coded.specs.Coded.{encodes}
use Rattle.places.specs.Items.{kernel_of}
use Rattle.prefixes.proofs.Tests.{and_second}
use Rattle.widening.specs.Widening.{has_twin, pairs, tailed, row_of, changes, how_many}
use Rattle.widening.proofs.Cells.{kind-cell}

pub twin-kind : (rows : List ℕ) (i : ℕ) → has_twin (get_or rows (i * row_width) 0 ∷ []) ≡ has_twin (row_of rows i)
twin-kind rows i = ap (λ (k : ℕ). has_twin (k ∷ [])) (sym (kind-cell rows i))

module _ (rows names : List ℕ) (i : ℕ) where
  abbrev paired : Bool
  paired = pairs (kernel_of rows names)

  abbrev twinned : Bool
  twinned = has_twin (row_of rows i)

  abbrev encoding : Bool
  encoding = if_good (encodes ((kernel_of rows names).it i)) true false

  pub unpaired-stays : paired ≡ false → false ≡ changes rows names i
  unpaired-stays e = rw e

  pub twinless_stays : twinned ≡ false → false ≡ changes rows names i
  twinless_stays e = sym (and_second paired _ (ap (λ (t : Bool). t && (encoding && tailed (kernel_of rows names) i)) e))

  pub unencoded_stays : encoding ≡ false → false ≡ changes rows names i
  unencoded_stays e = sym (and_second paired _ (and_second twinned _ (ap (λ (t : Bool). t && tailed (kernel_of rows names) i) e)))

  pub tailed-changes : paired ≡ true → twinned ≡ true → encoding ≡ true → tailed (kernel_of rows names) i ≡ changes rows names i
  tailed-changes p t e =
      sym
      (ap (λ (x : Bool). x && (twinned && (encoding && tailed (kernel_of rows names) i))) p
      ∙ ap (λ (x : Bool). x && (encoding && tailed (kernel_of rows names) i)) t
      ∙ ap (λ (x : Bool). x && tailed (kernel_of rows names) i) e)

-- ---- how many
bit : (b : Bool) → cond b 1 0 ≤ 1
bit true = omega arith
bit false = omega arith

module _ (t : ℕ → Bool) where
  pub how_many_up : (i n : ℕ) → i ≤ n → how_many t i ≤ how_many t n
  how_many_up i zero h = let e : i ≡ 0 = omega arith in rw e (omega arith)
  how_many_up i (suc n) h = ⊎_elim (λ e. rw e (omega arith)) (λ lt. let u = how_many_up i n (omega arith) in omega arith) (eq-or-lt_of_le h)

-- after i of n rows
module _ (t : ℕ → Bool) (n : ℕ) where
  pub record Tally (i count : ℕ) : Type 0 where
    pub within : i ≤ n
    pub here : count ≡ how_many t i
    pub few : count ≤ i

  pub tally_start : Tally 0 0
  tally_start = record { within = omega arith; here = refl; few = omega arith }

  module _ {i count : ℕ} (y : Tally i count) where
    next : (b : Bool) → i < n → t i ≡ b → {count' : ℕ} → count' ≡ count + cond b 1 0 → Tally (i + 1) count'
    next b h e f = let s = bit b in record { within = omega arith; here = rw (add-one i, e, ← y.here) f; few = omega (arith, f, y.few) }

    pub tally_changed : i < n → t i ≡ true → {count' : ℕ} → count' ≡ count + 1 → Tally (i + 1) count'
    tally_changed h e f = next true h e f

    pub tally_same : i < n → t i ≡ false → {count' : ℕ} → count' ≡ count → Tally (i + 1) count'
    tally_same h e f = next false h e (f ∙ (let z : count ≡ count + 0 = omega arith in z))

    pub tally_end : n ≤ i → (count ≡ how_many t n) × (count ≤ n)
    tally_end h = let e : i ≡ n = omega (arith, y.within) in (y.here ∙ ap (how_many t) e, omega (arith, y.few))
