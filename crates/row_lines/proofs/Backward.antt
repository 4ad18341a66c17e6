-- The last number of a row that is not 0, found from its back.
use mathlib.Core.Path.{◌≡◌, refl, sym, ap, ◌∙◌}
use mathlib.Core.Bool.{Bool, true, false}
use mathlib.Core.List.{List, [], ◌∷◌, ◌++◌}
use Prim.Native.Nat.{ℕ, ◌+◌, ◌≤◌, ◌<◌}
use native.Mathlib.Omega.{arith}
use lib.ListN.{length, take, length-append}
use lib.Seq.{take_all, take-append-le}
use denote.Ref.{Bor}
use denote.Param.Members.{Mut, Called}
use Rattle.std.specs.Prelude.{Option, Some, None, MatchOption, IsSomeAnd}
use Rattle.std.specs.Iterator.{Yields, YieldsThen, FindsPositionBack}
use Rattle.std.specs.List.{FoldsTo}
use Rattle.std.specs.Slice.Iter.{iter_rest, iter_steps_back}
use Rattle.std.proofs.Common.{Iter}
use Rattle.row_lines.specs.RowText.{written}
use Rattle.row_lines.proofs.Writing.{bare_zero, bare-some}

-- ---- one number more at the end of a row
zero_more : (l : List ℕ) → (0 < length l → take 1 l ≡ written l) → take 1 (l ++ 0 ∷ []) ≡ written (l ++ 0 ∷ [])
zero_more [] h = refl
zero_more (k ∷ l) h = h (omega arith) ∙ ap (λ (m : List ℕ). k ∷ m) (sym (bare_zero l))

written_zero : (l : List ℕ) → 0 < length l → written (l ++ 0 ∷ []) ≡ written l
written_zero [] h = absurd (omega arith)
written_zero (k ∷ l) h = ap (λ (m : List ℕ). k ∷ m) (bare_zero l)

pub written-some : (l : List ℕ) (a : ℕ) → (a ≡ 0 → ⊥) → written (l ++ a ∷ []) ≡ l ++ a ∷ []
written-some [] a e = refl
written-some (k ∷ l) a e = ap (λ (m : List ℕ). k ∷ m) (bare-some l a e)

-- ---- the numbers that come from the back, each 0
long : (xs : List (Bor ℕ)) (s t : Iter ℕ) → Yields iter_steps_back s xs t → length (iter_rest s) ≡ length (iter_rest t) + length xs
long [] s t y = rw y (omega arith)
long (x ∷ xs) s t y = omega (arith, ap length y.1, length-append (iter_rest y.0) (x.now ∷ []), long xs y.0 t y.2)

front : (xs : List (Bor ℕ)) (s t : Iter ℕ) → Yields iter_steps_back s xs t → take (length (iter_rest t)) (iter_rest s) ≡ iter_rest t
front [] s t y = rw y (take_all (length (iter_rest t)) (iter_rest t) (omega arith))
front (x ∷ xs) s t y =
    let h : length (iter_rest t) ≤ length (iter_rest y.0) = omega (arith, long xs y.0 t y.2) in
    ap (take (length (iter_rest t))) y.1 ∙ take-append-le (length (iter_rest t)) (iter_rest y.0) (x.now ∷ []) h ∙ front xs y.0 t y.2

module _ {F : Type 0} {g : Mut F (Bor ℕ × Unit {0}) Bool} (no : (p : F) (x : Bor ℕ) (q : F) → Called g p (x, tt) false q → x.now ≡ 0) where
  abbrev Zeros : F → List (Bor ℕ) → F → Type 0
  Zeros = FoldsTo (λ p x q. Called g p (x, tt) false q)

  last_zero : (x : Bor ℕ) (s t : Iter ℕ) (p q : F) → iter_rest s ≡ iter_rest t ++ x.now ∷ [] → Called g p (x, tt) false q → iter_rest s ≡ iter_rest t ++ 0 ∷ []
  last_zero x s t p q e c = e ∙ ap (λ (a : ℕ). iter_rest t ++ a ∷ []) (no p x q c)

  none-left : (xs : List (Bor ℕ)) (s t : Iter ℕ) (p q : F) → Yields iter_steps_back s xs t → Zeros p xs q → length (iter_rest t) ≡ 0 → 0 < length (iter_rest s) → take 1 (iter_rest s) ≡ written (iter_rest s)
  none-left [] s t p q y z e h = absurd (omega (arith, ap (λ (i : Iter ℕ). length (iter_rest i)) y))
  none-left (x ∷ xs) s t p q y z e h =
      let l = last_zero x s y.0 p z.0 y.1 z.1 in
      ap (take 1) l ∙ zero_more (iter_rest y.0) (λ k. none-left xs y.0 t z.0 q y.2 z.2 e k) ∙ sym (ap written l)

  some-left : (xs : List (Bor ℕ)) (s t : Iter ℕ) (p q : F) → Yields iter_steps_back s xs t → Zeros p xs q → 0 < length (iter_rest t) → written (iter_rest s) ≡ written (iter_rest t)
  some-left [] s t p q y z h = ap (λ (i : Iter ℕ). written (iter_rest i)) y
  some-left (x ∷ xs) s t p q y z h =
      let l = last_zero x s y.0 p z.0 y.1 z.1 in
      ap written l ∙ written_zero (iter_rest y.0) (omega (arith, long xs y.0 t y.2)) ∙ some-left xs y.0 t z.0 q y.2 z.2 h

  -- ---- what `rposition` finds
  abbrev Found : Iter ℕ → F → ℕ → Option ℕ → Iter ℕ → Type 0
  Found s f n r u = FindsPositionBack iter_steps_back g s f n r u

  pub nothing-found : (s u : Iter ℕ) (f : F) (n : ℕ) (r : Option ℕ) → Found s f n r u → r ≡ None → 0 < length (iter_rest s) → take 1 (iter_rest s) ≡ written (iter_rest s)
  nothing-found s u f n r w e h = by w.1 w.3 w.5
    where
      by : (o : Option (Bor ℕ)) → YieldsThen iter_steps_back s w.0 o u → MatchOption o (r ≡ None) (λ x. IsSomeAnd r (λ i. i + 1 + length w.0 ≡ n) × ((j : F) × Called g w.2 (x, tt) true j)) → take 1 (iter_rest s) ≡ written (iter_rest s)
      by None y m = none-left w.0 s y.0 f w.2 y.1 w.4 y.2.0 h
      by (Some x) y m = absurd (rw e at m.0)

  pub last-found : (s u : Iter ℕ) (f : F) (n i : ℕ) (r : Option ℕ) → Found s f n r u → r ≡ Some i → n ≡ length (iter_rest s)
      → ((p : F) (x : Bor ℕ) (q : F) → Called g p (x, tt) true q → x.now ≡ 0 → ⊥)
      → (take (i + 1) (iter_rest s) ≡ written (iter_rest s)) × (i + 1 ≤ length (iter_rest s))
  last-found s u f n i r w e k some = by w.1 w.3 w.5
    where
      by : (o : Option (Bor ℕ)) → YieldsThen iter_steps_back s w.0 o u → MatchOption o (r ≡ None) (λ x. IsSomeAnd r (λ a. a + 1 + length w.0 ≡ n) × ((j : F) × Called g w.2 (x, tt) true j))
          → (take (i + 1) (iter_rest s) ≡ written (iter_rest s)) × (i + 1 ≤ length (iter_rest s))
      by None y m = let none : Some i ≡ None = sym e ∙ m in cc
      by (Some x) y m =
          let at : i + 1 + length w.0 ≡ n = rw e at m.0 in
          let end : length (iter_rest y.0) ≡ length (iter_rest u) + 1 = ap length y.2 ∙ length-append (iter_rest u) (x.now ∷ []) in
          let here : i + 1 ≡ length (iter_rest y.0) = omega (arith, at, k, long w.0 s y.0 y.1) in
          let whole : written (iter_rest y.0) ≡ iter_rest y.0 = ap written y.2 ∙ written-some (iter_rest u) x.now (some w.2 x m.1.0 m.1.1) ∙ sym y.2 in (
            ap (λ (a : ℕ). take a (iter_rest s)) here ∙ front w.0 s y.0 y.1 ∙ sym (some-left w.0 s y.0 f w.2 y.1 w.4 (omega (arith, end)) ∙ whole),
            omega (arith, here, long w.0 s y.0 y.1),
          )
