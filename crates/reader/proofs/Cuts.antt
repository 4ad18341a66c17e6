-- An input is its lines, each followed by byte 10 but perhaps the last.
use mathlib.Core.Path.{◌≡◌, refl, sym, subst}
use mathlib.Core.Bool.{Bool, true, false}
use mathlib.Core.List.{List, [], ◌∷◌, ◌++◌, append_assoc}
use Prim.Native.Nat.{ℕ}
use lib.Dec.{eqb}
use borrow.Author.Tests.{eqb-true}
use Rattle.reader.specs.Lines.{onto, lines}

-- a list without byte 10
abbrev pub Free : List ℕ → Type 0
Free [] = Unit {0}
Free (b ∷ l) = (eqb b 10 ≡ false) × Free l

pub data Lined : List ℕ → Type 0 where
  none : Lined []
  last : (b : ℕ) (l : List ℕ) → Free (b ∷ l) → Lined (b ∷ l)
  more : (l rest : List ℕ) → Free l → Lined rest → Lined (l ++ 10 ∷ rest)

pub lined : (bs : List ℕ) → Lined bs
lined [] = none
lined (b ∷ bs) = byte (eqb b 10) refl (lined bs)
  where
    longer : eqb b 10 ≡ false → {bs : List ℕ} → Lined bs → Lined (b ∷ bs)
    longer e none = last b [] (e, tt)
    longer e (last c l f) = last b (c ∷ l) (e, f)
    longer e (more l rest f r) = more (b ∷ l) rest (e, f) r

    byte : (t : Bool) → eqb b 10 ≡ t → Lined bs → Lined (b ∷ bs)
    byte true e r = subst (λ (z : ℕ). Lined (z ∷ bs)) (sym (eqb-true b 10 e)) (more [] bs tt r)
    byte false e r = longer e r

-- ---- the lines of an input that is cut so
pub lines_more : (l rest : List ℕ) → Free l → lines (l ++ 10 ∷ rest) ≡ l ∷ lines rest
lines_more [] rest f = refl
lines_more (b ∷ l) rest f = rw (f.0, lines_more l rest f.1)

pub lines-last : (b : ℕ) (l : List ℕ) → Free (b ∷ l) → lines (b ∷ l) ≡ (b ∷ l) ∷ []
lines-last b [] f = rw f.0
lines-last b (c ∷ l) f = rw (f.0, lines-last c l f.1)

-- ---- a line whose first bytes are read
abbrev pub prefixed : List ℕ → List (List ℕ) → List (List ℕ)
prefixed cur [] = cur ∷ []
prefixed cur (f ∷ fs) = (cur ++ f) ∷ fs

pub prefixed-byte : (cur : List ℕ) (b : ℕ) (fs : List (List ℕ)) → prefixed cur (onto b fs) ≡ prefixed (cur ++ b ∷ []) fs
prefixed-byte cur b [] = refl
prefixed-byte cur b (f ∷ fs) = rw (append_assoc cur (b ∷ []) f)
