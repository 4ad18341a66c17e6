-- Where some bits of a word are known, only the lines whose forms are not apart from them are left of the table.
use Prim.Native.Nat.{ℕ}
use mathlib.Core.Path.{◌≡◌, refl, ◌∙◌}
use mathlib.Core.Logic.{◌≢◌}
use mathlib.Core.Bool.{Bool, true, false, cond}
use mathlib.Core.List.{List, [], ◌∷◌}
use lib.Dec.{eqb}
use borrow.Author.Tests.{eq-eqb, eqb-true, eqb-false}
use Rattle.fields.specs.Pack.{Field, fixed, field}
use Rattle.fields.specs.Matching.{matches, apart}
use Rattle.fields.proofs.Matching.{not_both, is_false}
use Rattle.std.specs.Prelude.{None}
use Rattle.known.specs.Table.{Line, first_line, table, known_in}

-- the lines that are left
abbrev pub kept : {A : Type 0} → List Field → List (Line A) → List (Line A)
kept fs [] = []
kept fs (l ∷ ls) = cond (apart fs l.form) (kept fs ls) (l ∷ kept fs ls)

pub narrowed :
    {A : Type 0} (fs : List Field) (other : A) (ls : List (Line A)) (word : ℕ) → matches fs word ≡ true →
    first_line other ls word ≡ first_line other (kept fs ls) word
narrowed fs other [] word m = refl
narrowed {A} fs other (l ∷ ls) word m = go (apart fs l.form) refl (narrowed fs other ls word m)
  where
    go :
        (t : Bool) → apart fs l.form ≡ t → first_line other ls word ≡ first_line other (kept fs ls) word →
        first_line other (l ∷ ls) word ≡ first_line other (cond t (kept fs ls) (l ∷ kept fs ls)) word
    go true a rest = rw (is_false (matches l.form word) (not_both fs l.form word a m)) rest
    go false a rest = rw rest

-- the number k stands in the bits hi:lo
pub within : (hi lo k word : ℕ) → field hi lo word ≡ k → known_in word ≡ first_line None (kept (fixed hi lo k ∷ []) table) word
unfolding known_in
within hi lo k word e = narrowed (fixed hi lo k ∷ []) None table word (rw (eq-eqb _ _ e))

-- one of two numbers stands there, and no form has either
pub none_within :
    (hi lo j k word : ℕ) → kept (fixed hi lo j ∷ []) table ≡ [] → kept (fixed hi lo k ∷ []) table ≡ [] → (field hi lo word ≢ j → field hi lo word ≡ k) →
    known_in word ≡ None
none_within hi lo j k word x y f = go (eqb (field hi lo word) j) refl
  where
    go : (t : Bool) → eqb (field hi lo word) j ≡ t → known_in word ≡ None
    go true e = within hi lo j word (eqb-true _ _ e) ∙ rw x
    go false e = within hi lo k word (f (eqb-false _ _ e)) ∙ rw y
