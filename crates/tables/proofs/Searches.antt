-- A comparison comes to what its first bytes come to, once the last ones are the same; a search comes to what the search of the first
-- entries comes to, once the newer ones have another name.
use mathlib.Core.Path.{◌≡◌, refl, ap, ◌∙◌}
use mathlib.Core.Bool.{Bool, true, false, ◌&&◌}
use mathlib.Core.List.{List}
use Prim.Native.Nat.{ℕ, zero, suc, ◌+◌, ◌-◌, ◌*◌, ◌<◌}
use native.Mathlib.Omega.{arith}
use native.Mathlib.Nat.{add-zero}
use lib.Dec.{eqb}
use lib.ListN.{get_or}
use borrow.Author.Tests.{eq-eqb, ne_eqb}
use Rattle.places.specs.Looking.{same_from}
use Rattle.prefixes.proofs.Looking.{pick_true, pick_false}
use Rattle.tables.specs.Tables.{entry_is, lookup}
use Rattle.std.specs.Prelude.{Some}

up : (a k : ℕ) → a + suc k ≡ suc a + k
up a k = omega arith

less : (k : ℕ) → 0 < k → k ≡ suc (k - 1)
less k h = omega arith

-- the last byte of k + 1
last-same : (ns : List ℕ) (k a b : ℕ) → get_or ns (a + k) 0 ≡ get_or ns (b + k) 0 → same_from ns (suc k) a b ≡ same_from ns k a b
last-same ns zero a b e = rw (eq-eqb _ _ (rw (add-zero, add-zero) at e))
last-same ns (suc k) a b e = ap (λ t. eqb (get_or ns a 0) (get_or ns b 0) && t) (last-same ns k (suc a) (suc b) (rw (up a k, up b k) at e))

both_false : (t : Bool) {u : Bool} → u ≡ false → (t && u) ≡ false
both_false true e = e
both_false false e = refl

last-other : (ns : List ℕ) (k a b : ℕ) → (get_or ns (a + k) 0 ≡ get_or ns (b + k) 0 → ⊥) → same_from ns (suc k) a b ≡ false
last-other ns zero a b e = rw (ne_eqb _ _ (rw (add-zero, add-zero) at e))
last-other ns (suc k) a b e = both_false (eqb (get_or ns a 0) (get_or ns b 0)) (last-other ns k (suc a) (suc b) (rw (up a k, up b k) at e))

module _ (ns : List ℕ) (a b k : ℕ) (more : 0 < k) where
  pub same_more : get_or ns (a + (k - 1)) 0 ≡ get_or ns (b + (k - 1)) 0 → same_from ns k a b ≡ same_from ns (k - 1) a b
  same_more e = ap (λ n. same_from ns n a b) (less k more) ∙ last-same ns (k - 1) a b e

  pub same-less : (get_or ns (a + (k - 1)) 0 ≡ get_or ns (b + (k - 1)) 0 → ⊥) → same_from ns k a b ≡ false
  same-less e = ap (λ n. same_from ns n a b) (less k more) ∙ last-other ns (k - 1) a b e

module _ (ns ls : List ℕ) (a b k : ℕ) (more : 0 < k) where
  pub find_hit : entry_is ns ls a b (k - 1) ≡ true → lookup ns ls a b k ≡ Some (get_or ls (3 * (k - 1) + 2) 0)
  find_hit e = ap (lookup ns ls a b) (less k more) ∙ pick_true _ _ _ e

  pub find_more : entry_is ns ls a b (k - 1) ≡ false → lookup ns ls a b k ≡ lookup ns ls a b (k - 1)
  find_more e = ap (lookup ns ls a b) (less k more) ∙ pick_false _ _ _ e
