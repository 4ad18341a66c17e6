-- Where no row is changed, the list comes back as it is, if the copy has room; so where loops don't pair.
use Prim.Native.Nat.{ℕ, zero, suc, ◌≤◌, ◌<◌}
use native.Mathlib.Omega.{arith}
use mathlib.Core.Path.{◌≡◌, refl, sym, ap, ◌∙◌}
use mathlib.Core.Logic.{◌↔◌}
use mathlib.Core.Bool.{Bool, true, false, cond}
use mathlib.Core.List.{List, [], ◌++◌}
use lib.ListN.{length, drop}
use Rattle.coded.specs.Coded.{read_verdict}
use Rattle.places.specs.Items.{kernel_of, row_count}
use Rattle.places.specs.Left.{gather}
use Rattle.counts.specs.Counts.{Passes}
use Rattle.prefixes.proofs.Tests.{not_so}
use Rattle.prefixes.proofs.Looking.{pick_false}
use Rattle.widening.specs.declared.ToldWidened.{ToldWidened}
use Rattle.widening.specs.Widening.{pairs, row_of, changes, copied, listed, copy_room, Widens}
use Rattle.widening.proofs.Numbers.{widen_zero, widened-told, widened-copy, widened-list}
use Rattle.widened.specs.Tails.{Paired}
use Rattle.widened.specs.Widened.{Unchanged}
use Rattle.widened.proofs.Rows.{gather-same, rows_gathered}
use Rattle.widened.proofs.Counting.{count_none}
use Rattle.widened.proofs.Tails.{pairs-exactly, changes-exactly}

gather_none : (n : ℕ) → gather (λ i. []) n ≡ []
gather_none zero = refl
gather_none (suc n) = rw (gather_none n)

module _ (rows names copy list : List ℕ) {t : ToldWidened} {copy' list' : List ℕ} (w : Widens rows names copy list t copy' list') where
  -- no row is changed
  module _ (none : (i : ℕ) → i < row_count rows → changes rows names i ≡ false) where
    -- of the two rooms only the copy's can be too small
    pub zero_exactly_with_room : Passes read_verdict rows names → (t.number ≡ 0) ↔ (row_count rows ≤ copy_room copy)
    zero_exactly_with_room p =
        let z = widen_zero rows names copy list w in
        let c = count_none (changes rows names) (row_count rows) none in
        ((λ e. (z.0 e).copy_fits), (λ h. z.1 (record { passes = p; copy_fits = h; list_fits = rw c (omega arith) })))

    pub none-changed : t.number ≡ 0 → Unchanged rows copy list t copy' list'
    none-changed z =
        let p : Passes read_verdict rows names = ((widen_zero rows names copy list w).0 z).passes in
        let c : gather (copied rows names) (row_count rows) ≡ rows =
        gather-same (copied rows names) (row_of rows) (row_count rows) (λ i h. pick_false (changes rows names i) _ _ (none i h)) ∙ rows_gathered rows p.formed in
        let l : gather (listed rows names) (row_count rows) ≡ [] =
        gather-same (listed rows names) (λ i. []) (row_count rows) (λ i h. pick_false (changes rows names i) _ _ (none i h)) ∙ gather_none (row_count rows) in
        record {
          none = ap (λ (s : ToldWidened). s.changes) (widened-told rows names copy list w z) ∙ count_none (changes rows names) (row_count rows) none;
          same = widened-copy rows names copy list w z ∙ ap (λ (x : List ℕ). x ++ drop (length x) copy) c;
          no_list = widened-list rows names copy list w z ∙ ap (λ (x : List ℕ). x ++ drop (length x) list) l;
        }

  -- ---- whether loops pair is told
  module _ (z : t.number ≡ 0) where
    pub paired_is : t.paired ≡ cond (pairs (kernel_of rows names)) 1 0
    paired_is = ap (λ (s : ToldWidened). s.paired) (widened-told rows names copy list w z)

    bit_true : (b : Bool) → ◌≡◌ {A = ℕ} (cond b 1 0) 1 → b ≡ true
    bit_true true e = refl
    bit_true false e = absurd (omega arith)

    -- THE THEOREM: 1 is told exactly where loops pair
    pub paired_told_exactly : (t.paired ≡ 1) ↔ Paired (kernel_of rows names)
    paired_told_exactly =
        let x = pairs-exactly (kernel_of rows names) in
        ((λ e. x.0 (bit_true (pairs (kernel_of rows names)) (sym paired_is ∙ e))), (λ p. paired_is ∙ ap (λ (b : Bool). cond b 1 0) (x.1 p)))

    -- THE THEOREM: "If loops don't pair, it copies without change and says so"
    pub unpaired_comes_back_unchanged : (Paired (kernel_of rows names) → ⊥) → Unchanged rows copy list t copy' list' × (t.paired ≡ 0)
    unpaired_comes_back_unchanged apart = (
      none-changed (λ i h. not_so _ (λ c. apart ((changes-exactly rows names i).0 c).paired)) z,
      paired_is ∙ ap (λ (b : Bool). cond b 1 0) (not_so _ (λ e. apart ((pairs-exactly (kernel_of rows names)).0 e))),
    )
