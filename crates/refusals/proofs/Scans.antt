-- A fold with checks that stops: at the first index that is refused, and never past its end.
use mathlib.Core.Path.{◌≡◌, sym, ap, ◌∙◌, subst}
use mathlib.Core.Logic.{⊎_elim}
use Prim.Native.Nat.{ℕ, zero, suc, ◌+◌, ◌≤◌, ◌<◌}
use native.Mathlib.Omega.{arith}
use native.Mathlib.Nat.{eq-or-lt_of_le}
use Rattle.refusals.specs.declared.Refusal.{Refusal}
use Rattle.std.specs.Prelude.{Ok, Err}
use Rattle.refusals.specs.Answers.{Verdict}
use Rattle.refusals.specs.Order.{or_else, first_of, passing}
use Rattle.refusals.specs.Scan.{first_end, scan_at, scan_chk, scan_end, all_scan, scan_end_lem}
use Rattle.refusals.proofs.Order.{AllPass, StopsAt, either, all_first, all-passing, stop-first, stop-passing}

module _ {X : Type 0} (chk : ℕ → X → Verdict) (nxt : ℕ → X → X) (x₀ : X) where
  abbrev pub said : ℕ → Verdict
  said q = chk q (scan_at chk nxt x₀ q)

  pub scan_stop : (f i e : ℕ) {r : Refusal} → i ≤ e → e < i + f → ((q : ℕ) → i ≤ q → q < e → said q ≡ Ok tt) → said e ≡ Err r
      → (scan_chk chk nxt x₀ f i ≡ Err r) × (scan_end chk nxt x₀ f i ≡ e)
  scan_stop zero i e h g all c = absurd (omega arith)
  scan_stop (suc f) i e {r} h g all c =
      ⊎_elim
      (λ z. let y : said i ≡ Err r = subst (λ (q : ℕ). said q ≡ Err r) (sym z) c in (ap (λ (v : Verdict). or_else v (scan_chk chk nxt x₀ f (suc i))) y, ap (λ (v : Verdict). first_end v i (scan_end chk nxt x₀ f (suc i))) y ∙ z))
      (λ lt.
      let y : said i ≡ Ok tt = all i (omega arith) lt in
      let t = scan_stop f (suc i) e lt (omega arith) (λ q u v. all q (omega arith) v) c in
      (ap (λ (v : Verdict). or_else v (scan_chk chk nxt x₀ f (suc i))) y ∙ t.0, ap (λ (v : Verdict). first_end v i (scan_end chk nxt x₀ f (suc i))) y ∙ t.1))
      (eq-or-lt_of_le h)

  pub scan_low : (f i : ℕ) → scan_end chk nxt x₀ f i ≤ i + f
  scan_low zero i = omega arith
  scan_low (suc f) i = go (scan_low f (suc i)) (said i)
    where
      go : scan_end chk nxt x₀ f (suc i) ≤ suc i + f → (v : Verdict) → first_end v i (scan_end chk nxt x₀ f (suc i)) ≤ i + suc f
      go h (Ok _) = omega arith
      go h (Err q) = omega arith

-- a walk whose checks do not look at what it has: the first that fails, and its row
module _ {X : Type 0} (f : ℕ → Verdict) (nxt : ℕ → X → X) (x : X) (n : ℕ) where
  abbrev blind : ℕ → X → Verdict
  blind i y = f i

  all_so : AllPass f n → (scan_chk blind nxt x n 0 ≡ first_of f n) × (scan_end blind nxt x n 0 ≡ passing f n)
  all_so all =
      let g = all_scan blind nxt x n 0 (λ q u v. all q (omega arith)) in
      (g ∙ sym (all_first f n all), scan_end_lem blind nxt x n 0 g ∙ (let w : 0 + n ≡ n = omega arith in w) ∙ sym (all-passing f n all))

  stop_so : StopsAt f n → (scan_chk blind nxt x n 0 ≡ first_of f n) × (scan_end blind nxt x n 0 ≡ passing f n)
  stop_so s =
      let h = s.before in
      let t = scan_stop blind nxt x n 0 s.row (omega arith) (omega arith) (λ q u v. s.earlier q v) s.fails in
      (t.0 ∙ sym (stop-first f n s), t.1 ∙ sym (stop-passing f n s))

  pub scan_first : (scan_chk (λ i y. f i) nxt x n 0 ≡ first_of f n) × (scan_end (λ i y. f i) nxt x n 0 ≡ passing f n)
  scan_first = ⊎_elim all_so stop_so (either f n)
