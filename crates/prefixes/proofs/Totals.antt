-- Totals of the first i items grow with i; where they grow some item counts; and the last instruction before an index.
use Prim.Native.Nat.{ℕ, zero, suc, ◌≤◌, ◌<◌}
use native.Mathlib.Omega.{arith}
use native.Mathlib.Nat.{eq-or-lt_of_le}
use mathlib.Core.Path.{◌≡◌, ap}
use mathlib.Core.Logic.{⊎_elim}
use mathlib.Core.Bool.{false}
use lib.Dec.{eqb}
use borrow.Author.Tests.{eq-eqb, ne_eqb, eqb-true, eqb-false}
use Rattle.coded.specs.Coded.{Coded}
use Rattle.places.specs.Items.{is_entry, total, address, entries}
use Rattle.places.specs.Looking.{last_at}
use Rattle.prefixes.proofs.Tests.{order}
use Rattle.prefixes.proofs.Looking.{latest-row, latest-is}
use Rattle.prefixes.proofs.Traits.{entry-bit}

module _ (f : Coded → ℕ) (it : ℕ → Coded) where
  pub total-up : (i j : ℕ) → i ≤ j → total f it i ≤ total f it j
  total-up i zero h = let e : i ≡ 0 = omega arith in rw e (omega arith)
  total-up i (suc j) h =
      ⊎_elim (λ e. rw e (omega arith)) (λ l. let r = total-up i j (omega arith) in omega arith) (eq-or-lt_of_le h)

  -- where none counts the total stays
  pub flat : (a i : ℕ) → a ≤ i → ((q : ℕ) → a ≤ q → q < i → f (it q) ≡ 0) → total f it a ≡ total f it i
  flat a zero h z = let e : a ≡ 0 = omega arith in ap (λ (y : ℕ). total f it y) e
  flat a (suc i) h z =
      ⊎_elim (λ e. ap (λ (y : ℕ). total f it y) e)
      (λ l. let x = flat a i (omega arith) (λ q u v. z q u (omega arith)) in let y = z i (omega arith) (omega arith) in omega arith)
      (eq-or-lt_of_le h)

  -- an item from a to i that counts
  pub record Counted (a i : ℕ) : Type 0 where
    pub row : ℕ
    pub from : a ≤ row
    pub before : row < i
    pub counts : 0 < f (it row)

  pub counted : (a i : ℕ) → total f it a < total f it i → Counted a i
  counted a zero h = absurd (omega arith)
  counted a (suc i) h =
      ⊎_elim
      (λ l.
      record {
        row = i;
        from = ⊎_elim (λ u. absurd (let w = total-up (suc i) a u in omega arith)) (λ u. u) (order i a);
        before = omega arith;
        counts = l;
      })
      (λ z. let r = counted a i (omega arith) in record { row = r.row; from = r.from; before = omega (arith, r.before); counts = r.counts })
      (order 0 (f (it i)))

-- ---- the last instruction before e
module _ (it : ℕ → Coded) where
  pub record LastEntry (e : ℕ) : Type 0 where
    pub row : ℕ
    pub before : row < e
    pub entry : is_entry (it row) ≡ 1
    pub none_after : entries it (suc row) ≡ entries it e

  pub no-entry : (q : ℕ) → eqb (is_entry (it q)) 1 ≡ false → is_entry (it q) ≡ 0
  no-entry q e = let n = eqb-false (is_entry (it q)) 1 e in let b = entry-bit (it q) in ⊎_elim (λ z. absurd (n z)) (λ l. omega arith) (eq-or-lt_of_le b)

  pub last_entry : (e : ℕ) → 0 < entries it e → LastEntry e
  last_entry e h =
      ⊎_elim (λ n. absurd (let w = flat is_entry it 0 e (omega arith) (λ q u v. no-entry q (n q v)) in omega arith))
      (λ r.
      record {
        row = r.row;
        before = r.before;
        entry = eqb-true _ _ r.holds;
        none_after = flat is_entry it (suc r.row) e r.before (λ q u v. no-entry q (r.after q u v));
      })
      (latest-row (λ k. eqb (is_entry (it k)) 1) e)

  pub last-is : (k e : ℕ) → k < e → is_entry (it k) ≡ 1 → entries it (suc k) ≡ entries it e → last_at it e ≡ address it k
  last-is k e h o n =
      latest-is (λ k. eqb (is_entry (it k)) 1) (λ k. address it k) e
      (record {
        row = k;
        before = h;
        holds = eq-eqb _ _ o;
        after = λ q u v.
            ne_eqb _ _ (λ (z : is_entry (it q) ≡ 1). let x = total-up is_entry it (suc k) q u in let y = total-up is_entry it (suc q) e v in omega arith);
      })
