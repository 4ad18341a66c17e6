-- A fold with checks, for any state: rows in turn, up to the first whose check fails.
use Rattle.std.specs.Prelude.{◌≡◌, refl, ℕ, zero, suc, ◌+◌, ◌-◌, ◌≤◌, ◌<◌, Ok, Err}
use Rattle.std.proofs.Common.{sym, ap, ◌∙◌, subst, ⊎_elim, arith, add-one, eq-or-lt_of_le}
use Rattle.std.proofs.Math.Nat.{sub-zero}
use Rattle.refusals.specs.declared.Refusal.{Refusal}
use Rattle.refusals.specs.Answers.{Verdict}
use Rattle.refusals.specs.Order.{or_else}

abbrev pub first_end : Verdict → ℕ → ℕ → ℕ
first_end (Ok _) i rest = rest
first_end (Err r) i rest = i

module _ {X : Type 0} (chk : ℕ → X → Verdict) (nxt : ℕ → X → X) (x₀ : X) where
  abbrev pub scan_at : ℕ → X
  scan_at zero = x₀
  scan_at (suc i) = nxt i (scan_at i)

  abbrev pub scan_chk : ℕ → ℕ → Verdict
  scan_chk zero i = Ok tt
  scan_chk (suc k) i = or_else (chk i (scan_at i)) (scan_chk k (suc i))

  abbrev pub scan_end : ℕ → ℕ → ℕ
  scan_end zero i = i
  scan_end (suc k) i = first_end (chk i (scan_at i)) i (scan_end k (suc i))

  pub record Going (n i : ℕ) (x : X) : Type 0 where
    pub within : i ≤ n
    pub here : x ≡ scan_at i
    pub outcome : scan_chk (n - i) i ≡ scan_chk n 0
    pub end : scan_end (n - i) i ≡ scan_end n 0

  -- what it comes to: the outcome, where it ended, and the state there
  pub record Came (n : ℕ) (k : Verdict) (e : ℕ) (x : X) : Type 0 where
    pub outcome : k ≡ scan_chk n 0
    pub end : e ≡ scan_end n 0
    pub here : x ≡ scan_at (scan_end n 0)

  pub going_start : (n : ℕ) → Going n 0 x₀
  going_start n = record { within = omega arith; here = refl; outcome = simp sub-zero; end = simp sub-zero }

  peel : (n i : ℕ) → i < n → n - i ≡ suc (n - suc i)
  peel n i h = omega arith

  module _ {n i : ℕ} {x : X} (g : Going n i x) where
    at_chk : chk i (scan_at i) ≡ chk i x
    at_chk = ap (λ (y : X). chk i y) (sym g.here)

    pub going_next : i < n → chk i x ≡ Ok tt → {y : X} → y ≡ nxt i x → Going n (i + 1) y
    going_next h c e =
        let q : chk i (scan_at i) ≡ Ok tt = at_chk ∙ c in
        record {
          within = omega arith;
          here = e ∙ ap (λ (y : X). nxt i y) g.here ∙ ap (λ (y : ℕ). scan_at y) (sym (add-one i));
          outcome = rw add-one (sym (rw (peel n i h, q) at (sym g.outcome)));
          end = rw add-one (sym (rw (peel n i h, q) at (sym g.end)));
        }

    pub going_stop : i < n → {r : Refusal} → chk i x ≡ Err r → {y : X} → y ≡ x → Came n (Err r) i y
    going_stop h {r} c e =
        let q : chk i (scan_at i) ≡ Err r = at_chk ∙ c in
        let z : scan_end n 0 ≡ i = sym g.end ∙ rw (peel n i h, q) in
        record { outcome = sym (sym g.outcome ∙ rw (peel n i h, q)); end = sym z; here = e ∙ g.here ∙ ap (λ (y : ℕ). scan_at y) (sym z) }

    pub going_end : n ≤ i → Came n (Ok tt) i x
    going_end h =
        let e : n - i ≡ 0 = omega arith in
        let z : scan_end n 0 ≡ i = sym g.end ∙ rw e in
        record { outcome = sym (sym g.outcome ∙ rw e); end = sym z; here = g.here ∙ ap (λ (y : ℕ). scan_at y) (sym z) }

  first_good : (c d : Verdict) → or_else c d ≡ Ok tt → (c ≡ Ok tt) × (d ≡ Ok tt)
  first_good (Ok _) d e = (refl, e)
  first_good (Err r) d e = let z : ◌≡◌ {A = ℕ} 0 1 = cc in absurd (omega arith)

  pub scan_all : (f i : ℕ) → scan_chk f i ≡ Ok tt → (q : ℕ) → i ≤ q → q < i + f → chk q (scan_at q) ≡ Ok tt
  scan_all zero i e q u v = absurd (omega arith)
  scan_all (suc f) i e q u v =
      let g = first_good (chk i (scan_at i)) (scan_chk f (suc i)) e in
      ⊎_elim (λ z. subst (λ (y : ℕ). chk y (scan_at y) ≡ Ok tt) z g.0) (λ lt. scan_all f (suc i) g.1 q lt (omega arith)) (eq-or-lt_of_le u)

  pub all_scan : (f i : ℕ) → ((q : ℕ) → i ≤ q → q < i + f → chk q (scan_at q) ≡ Ok tt) → scan_chk f i ≡ Ok tt
  all_scan zero i all = refl
  all_scan (suc f) i all = rw (all i (omega arith) (omega arith)) (all_scan f (suc i) (λ q u v. all q (omega arith) (omega arith)))

  pub scan_end_lem : (f i : ℕ) → scan_chk f i ≡ Ok tt → scan_end f i ≡ i + f
  scan_end_lem zero i e = omega arith
  scan_end_lem (suc f) i e =
      let g = first_good (chk i (scan_at i)) (scan_chk f (suc i)) e in
      let r = scan_end_lem f (suc i) g.1 in
      rw g.0 (omega arith)
