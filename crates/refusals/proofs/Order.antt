-- The first refusal of a list and of rows in turn: it is Good exactly when each is; else some row is the first that is refused.
use Prim.Native.Nat.{ℕ, zero, suc, ◌≤◌, ◌<◌}
use native.Mathlib.Omega.{arith}
use native.Mathlib.Nat.{eq-or-lt_of_le}
use mathlib.Core.Path.{◌≡◌, refl, sym, ap, ◌∙◌, subst}
use mathlib.Core.Logic.{◌⊎◌, inl, inr, ⊎_elim}
use mathlib.Core.Bool.{Bool, true, false}
use mathlib.Core.List.{List, [], ◌∷◌}
use Rattle.refusals.specs.declared.Refusal.{Refusal}
use Rattle.std.specs.Prelude.{Ok, Err}
use Rattle.refusals.specs.declared.Refused.{Refused}
use Rattle.refusals.specs.Answers.{Verdict, Answer, Judged}
use Rattle.refusals.specs.Order.{when, or_else, first, first_of, if_good, passing, row_named, first_in, foremost, FirstAt}

pub refused-good : (r : Refusal) → (let v : Verdict = Err r in v ≡ Ok tt) → ⊥
refused-good r e = let z : ◌≡◌ {A = ℕ} 0 1 = cc in omega arith

pub refused-accepted : (e : Refused) (n : ℕ) → (let a : Answer = Err e in a ≡ Ok n) → ⊥
refused-accepted e n h = let z : ◌≡◌ {A = ℕ} 0 1 = cc in omega arith

-- a verdict that names a row is refused, or good, where the verdict is
pub named-refused : (row : ℕ) (v : Verdict) {e : Refused} → row_named row v ≡ Err e → (v ≡ Err e.why) × (row ≡ e.row)
named-refused row (Ok _) h = let z : ◌≡◌ {A = ℕ} 0 1 = cc in absurd (omega arith)
named-refused row (Err r) {e} h =
    let z : record { why = r; row = row } ≡ e = cc in
    (ap (λ (e : Refused). let v : Verdict = Err e.why in v) z, ap (λ (e : Refused). e.row) z)

pub named-good : (row : ℕ) (v : Verdict) → row_named row v ≡ Ok tt → v ≡ Ok tt
named-good row (Ok _) h = refl
named-good row (Err r) h = let z : ◌≡◌ {A = ℕ} 0 1 = cc in absurd (omega arith)

pub when-good : (t : Bool) (r : Refusal) → when t r ≡ Ok tt → t ≡ false
when-good true r e = absurd (refused-good r e)
when-good false r e = refl

pub good-when : (t : Bool) (r : Refusal) → t ≡ false → when t r ≡ Ok tt
good-when t r e = rw e

pub or_else-good : (v w : Verdict) → or_else v w ≡ Ok tt → (v ≡ Ok tt) × (w ≡ Ok tt)
or_else-good (Ok _) w e = (refl, e)
or_else-good (Err r) w e = absurd (refused-good r e)

pub good-or_else : (v w : Verdict) → v ≡ Ok tt → w ≡ Ok tt → or_else v w ≡ Ok tt
good-or_else v w p q = rw p q

-- ---- a list
pub last_one : (v : Verdict) → first (v ∷ []) ≡ v
last_one (Ok _) = refl
last_one (Err r) = refl

abbrev pub AllGood : List Verdict → Type 0
AllGood [] = Unit {0}
AllGood (v ∷ vs) = (v ≡ Ok tt) × AllGood vs

pub first_good : (vs : List Verdict) → first vs ≡ Ok tt → AllGood vs
first_good [] e = tt
first_good (v ∷ vs) e = let g = or_else-good v (first vs) e in (g.0, first_good vs g.1)

pub good-first : (vs : List Verdict) → AllGood vs → first vs ≡ Ok tt
good-first [] g = refl
good-first (v ∷ vs) g = good-or_else v (first vs) g.0 (good-first vs g.1)

-- ---- rows in turn
-- what holds below i, and of i, holds below i + 1
pub below_suc : (P : ℕ → Type 0) (i : ℕ) → ((k : ℕ) → k < i → P k) → P i → (k : ℕ) → k < suc i → P k
below_suc P i all here k h =
    ⊎_elim (λ e. subst P (sym e) here) (λ l. all k l) (eq-or-lt_of_le (let w : k ≤ i = omega arith in w))

abbrev pub AllPass : (ℕ → Verdict) → ℕ → Type 0
AllPass f n = (q : ℕ) → q < n → f q ≡ Ok tt

pub first-all : (f : ℕ → Verdict) (n : ℕ) → first_of f n ≡ Ok tt → AllPass f n
first-all f zero e = λ q h. absurd (omega arith)
first-all f (suc n) e =
    let g = or_else-good (first_of f n) (f n) e in below_suc (λ k. f k ≡ Ok tt) n (first-all f n g.0) g.1

pub all_first : (f : ℕ → Verdict) (n : ℕ) → AllPass f n → first_of f n ≡ Ok tt
all_first f zero all = refl
all_first f (suc n) all = good-or_else (first_of f n) (f n) (all_first f n (λ q h. all q (omega arith))) (all n (omega arith))

pub all-passing : (f : ℕ → Verdict) (n : ℕ) → AllPass f n → passing f n ≡ n
all-passing f zero all = refl
all-passing f (suc n) all = ap (λ (v : Verdict). if_good v (suc n) (passing f n)) (all_first f (suc n) all)

-- the first row that is refused
pub record StopsAt (f : ℕ → Verdict) (n : ℕ) : Type 0 where
  pub row : ℕ
  pub why : Refusal
  pub before : row < n
  pub fails : f row ≡ Err why
  pub earlier : AllPass f row

pub either : (f : ℕ → Verdict) (n : ℕ) → AllPass f n ⊎ StopsAt f n
either f zero = inl (λ q h. absurd (omega arith))
either f (suc n) =
    ⊎_elim (λ all. go all (f n) refl)
    (λ s. inr (record { row = s.row; why = s.why; before = omega (arith, s.before); fails = s.fails; earlier = s.earlier }))
    (either f n)
  where
    go : AllPass f n → (v : Verdict) → f n ≡ v → AllPass f (suc n) ⊎ StopsAt f (suc n)
    go all (Ok _) e = inl (below_suc (λ k. f k ≡ Ok tt) n all e)
    go all (Err r) e = inr (record { row = n; why = r; before = omega arith; fails = e; earlier = all })

-- a row that stops before n + 1 is n, or stops before n
stop_split : (f : ℕ → Verdict) (n : ℕ) (s : StopsAt f (suc n)) → (s.row ≡ n) ⊎ (s.row < n)
stop_split f n s = eq-or-lt_of_le (let w : s.row ≤ n = let h = s.before in omega arith in w)

abbrev sooner : (f : ℕ → Verdict) (n : ℕ) (s : StopsAt f (suc n)) → s.row < n → StopsAt f n
sooner f n s h = record { row = s.row; why = s.why; before = h; fails = s.fails; earlier = s.earlier }

pub stop-first : (f : ℕ → Verdict) (n : ℕ) (s : StopsAt f n) → first_of f n ≡ Err s.why
stop-first f zero s = absurd (let h = s.before in omega arith)
stop-first f (suc n) s =
    ⊎_elim
    (λ z. rw (all_first f n (λ q h. s.earlier q (omega arith)), subst (λ (y : ℕ). f y ≡ Err s.why) z s.fails) refl)
    (λ l. rw (stop-first f n (sooner f n s l)) refl)
    (stop_split f n s)

pub stop-passing : (f : ℕ → Verdict) (n : ℕ) (s : StopsAt f n) → passing f n ≡ s.row
stop-passing f zero s = absurd (let h = s.before in omega arith)
stop-passing f (suc n) s =
    ap (λ (v : Verdict). if_good v (suc n) (passing f n)) (stop-first f (suc n) s)
    ∙ ⊎_elim (λ z. all-passing f n (λ q h. s.earlier q (omega arith)) ∙ sym z) (λ l. stop-passing f n (sooner f n s l)) (stop_split f n s)

-- ---- the row that a refusal names
pub first-at : (f : ℕ → Verdict) (n : ℕ) {why : Refusal} → (first_in f n).verdict ≡ Err why → FirstAt f n why (first_in f n).row
first-at f n {why} e = ⊎_elim (λ all. absurd (refused-good why (sym e ∙ all_first f n all))) stop (either f n)
  where
    stop : StopsAt f n → FirstAt f n why (passing f n)
    stop s =
        subst (FirstAt f n why) (sym (stop-passing f n s))
        (record { within = s.before; refused = s.fails ∙ sym (stop-first f n s) ∙ e; earlier = s.earlier })

-- it is the first of the list's; without a refusal it is asked on
pub foremost-here : (j : Judged) (js : List Judged) {why : Refusal} → j.verdict ≡ Err why → foremost (j ∷ js) ≡ j
foremost-here j js e = rw e

pub foremost-on : (j : Judged) (js : List Judged) → j.verdict ≡ Ok tt → foremost (j ∷ js) ≡ foremost js
foremost-on j js e = rw e refl
