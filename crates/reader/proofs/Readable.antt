-- Which lines can be read: by where the name of their kind stands.
use mathlib.Core.Path.{◌≡◌, refl, ap, ◌∙◌}
use mathlib.Core.Bool.{Bool, true, false, ◌&&◌, cond}
use mathlib.Core.List.{List, [], ◌∷◌, ◌++◌, map}
use mathlib.Core.Logic.{◌⊎◌, inl, inr}
use Prim.Native.Nat.{ℕ, suc, ◌+◌, ◌-◌, ◌≤◌, ◌<◌}
use native.Mathlib.Omega.{arith}
use lib.ListN.{length, take, length-append}
use lib.Seq.{take-append-add, take-append_seam, get_or-append_seam}
use lib.Dec.{leb, eqb}
use borrow.Author.Tests.{le-leb, lt-leb, eq-eqb, ne_eqb}
use Rattle.reader.specs.Lines.{every, value, is_number, Line, numbers, named, unreadable, plain, naming, kind_of, line_of, is_read_line}
use Rattle.std.specs.Prelude.{Option, Some, None, is_some}
use Rattle.reader.specs.Steps.{Early, is_at, name_at, name_of_kind}
use Rattle.reader.proofs.Values.{and_false, every_not}

-- where the name stands in a line that begins with these fields
abbrev pub name_by : List (List ℕ) → ℕ
name_by fs = name_at (kind_of fs)

pub name_by-more : (done fs : List (List ℕ)) → 0 < length done → name_by (done ++ fs) ≡ name_by done
name_by-more [] fs h = absurd (omega arith)
name_by-more (f ∷ done) fs h = refl

pub name_range : (k : ℕ) → ((0 < name_at k) × (name_at k ≤ 2)) ⊎ (name_at k ≡ 17)
unfolding name_at
name_range k = by (eqb k 48) (eqb k 49)
  where
    by : (t u : Bool) → ((0 < cond t 1 (cond u 2 17)) × (cond t 1 (cond u 2 17) ≤ 2)) ⊎ (◌≡◌ {A = ℕ} (cond t 1 (cond u 2 17)) 17)
    by true u = inl (omega arith, omega arith)
    by false true = inl (omega arith, omega arith)
    by false false = inr refl

pub name-later : (k : ℕ) → 0 < name_at k
name-later k = by (name_range k)
  where
    by : ((0 < name_at k) × (name_at k ≤ 2)) ⊎ (name_at k ≡ 17) → 0 < name_at k
    by (inl r) = r.0
    by (inr e) = omega arith

pub name-early : (k : ℕ) → name_at k ≤ 16 → name_at k ≤ 2
name-early k h = by (name_range k)
  where
    by : ((0 < name_at k) × (name_at k ≤ 2)) ⊎ (name_at k ≡ 17) → name_at k ≤ 2
    by (inl r) = r.1
    by (inr e) = omega arith

-- ---- the same as a field, or none
pub kind-early : (k : ℕ) → Early (name_of_kind k)
unfolding name_of_kind
kind-early k = by (eqb k 48) (eqb k 49)
  where
    by : (t u : Bool) → Early (cond t (Some 1) (cond u (Some 2) None))
    by true u = (omega arith, omega arith)
    by false true = (omega arith, omega arith)
    by false false = tt

pub before-name : (k f : ℕ) → f < name_at k → is_at (name_of_kind k) f ≡ false
unfolding name_at name_of_kind
before-name k f = by (eqb k 48) (eqb k 49)
  where
    by : (t u : Bool) → f < cond t 1 (cond u 2 17) → is_at (cond t (Some 1) (cond u (Some 2) None)) f ≡ false
    by true u h = ne_eqb f 1 (λ e. omega arith)
    by false true h = ne_eqb f 2 (λ e. omega arith)
    by false false h = refl

pub name-some : (k n : ℕ) → name_at k ≡ n → n ≤ 16 → name_of_kind k ≡ Some n
unfolding name_at name_of_kind
name-some k n = by (eqb k 48) (eqb k 49)
  where
    by : (t u : Bool) → ◌≡◌ {A = ℕ} (cond t 1 (cond u 2 17)) n → n ≤ 16 → ◌≡◌ {A = Option ℕ} (cond t (Some 1) (cond u (Some 2) None)) (Some n)
    by true u e h = ap Some e
    by false true e h = ap Some e
    by false false e h = absurd (omega arith)

pub name-none : (k : ℕ) → name_at k ≡ 17 → is_some (name_of_kind k) ≡ false
unfolding name_at name_of_kind
name-none k = by (eqb k 48) (eqb k 49)
  where
    by : (t u : Bool) → ◌≡◌ {A = ℕ} (cond t 1 (cond u 2 17)) 17 → is_some {T = ℕ} (cond t (Some 1) (cond u (Some 2) None)) ≡ false
    by true u e = absurd (omega arith)
    by false true e = absurd (omega arith)
    by false false e = refl

pub name_given : (k : ℕ) → (name_at k ≡ 17 → ⊥) → is_some (name_of_kind k) ≡ true
unfolding name_at name_of_kind
name_given k = by (eqb k 48) (eqb k 49)
  where
    by : (t u : Bool) → (◌≡◌ {A = ℕ} (cond t 1 (cond u 2 17)) 17 → ⊥) → is_some {T = ℕ} (cond t (Some 1) (cond u (Some 2) None)) ≡ true
    by true u e = refl
    by false true e = refl
    by false false e = absurd (e refl)

line-by : (fs : List (List ℕ)) → line_of fs ≡ cond (eqb (name_by fs) 17) (plain fs) (naming (name_by fs) fs)
unfolding line_of name_at
line-by fs = by (eqb (kind_of fs) 48) (eqb (kind_of fs) 49)
  where
    by : (t u : Bool) → cond t (naming 1 fs) (cond u (naming 2 fs) (plain fs)) ≡ cond (eqb (cond t 1 (cond u 2 17)) 17) (plain fs) (naming (cond t 1 (cond u 2 17)) fs)
    by true u = refl
    by false true = refl
    by false false = refl

plain_by : (fs : List (List ℕ)) → name_by fs ≡ 17 → line_of fs ≡ plain fs
plain_by fs e = line-by fs ∙ rw (eq-eqb (name_by fs) 17 e)

naming-by : (fs : List (List ℕ)) → name_by fs ≤ 2 → line_of fs ≡ naming (name_by fs) fs
naming-by fs h = line-by fs ∙ rw (ne_eqb (name_by fs) 17 (λ e. omega arith))

-- ---- lines that cannot be read
no_line : (t : Bool) (l : Line) → t ≡ false → is_read_line (cond t l unreadable) ≡ false
no_line t l e = rw e

unread-plain : (fs : List (List ℕ)) → name_by fs ≡ 17 → (leb (length fs) 17 && every is_number fs) ≡ false → is_read_line (line_of fs) ≡ false
unfolding plain
unread-plain fs e f = rw (plain_by fs e) (no_line _ _ f)

unread-naming : (fs : List (List ℕ)) → name_by fs ≤ 2 → (eqb (length fs) (name_by fs + 1) && every is_number (take (name_by fs) fs)) ≡ false → is_read_line (line_of fs) ≡ false
unfolding naming
unread-naming fs h f = rw (naming-by fs h) (no_line _ _ f)

-- a kind with a name, and another number of fields
pub not_so_many : (fs : List (List ℕ)) → name_by fs ≤ 2 → (length fs ≡ name_by fs + 1 → ⊥) → is_read_line (line_of fs) ≡ false
not_so_many fs h k = unread-naming fs h (rw (ne_eqb (length fs) (name_by fs + 1) k))

pub too_many : (fs : List (List ℕ)) → 17 < length fs → is_read_line (line_of fs) ≡ false
too_many fs h = by (name_range (kind_of fs))
  where
    by : ((0 < name_by fs) × (name_by fs ≤ 2)) ⊎ (name_by fs ≡ 17) → is_read_line (line_of fs) ≡ false
    by (inl k) = not_so_many fs k.1 (λ e. omega arith)
    by (inr e) = unread-plain fs e (rw (lt-leb (length fs) 17 h))

-- a field before the name that is no number
take_past : (done : List (List ℕ)) (f : List ℕ) (fs : List (List ℕ)) (n : ℕ) → length done < n → take n (done ++ f ∷ fs) ≡ done ++ f ∷ take (n - suc (length done)) fs
take_past done f fs n h =
    let e : n ≡ length done + suc (n - suc (length done)) = omega arith in
    ap (λ (k : ℕ). take k (done ++ f ∷ fs)) e ∙ take-append-add done (f ∷ fs) (suc (n - suc (length done)))

pub not_a_number : (done : List (List ℕ)) (f : List ℕ) (fs : List (List ℕ)) → length done < name_by (done ++ f ∷ fs) → is_number f ≡ false → is_read_line (line_of (done ++ f ∷ fs)) ≡ false
not_a_number done f fs h e = by (name_range (kind_of (done ++ f ∷ fs)))
  where
    ls : List (List ℕ)
    ls = done ++ f ∷ fs

    before : every is_number (take (name_by ls) ls) ≡ false
    before = rw (take_past done f fs (name_by ls) h) (every_not is_number done f (take (name_by ls - suc (length done)) fs) e)

    by : ((0 < name_by ls) × (name_by ls ≤ 2)) ⊎ (name_by ls ≡ 17) → is_read_line (line_of ls) ≡ false
    by (inl k) = unread-naming ls k.1 (rw before (and_false (eqb (length ls) (name_by ls + 1))))
    by (inr k) = unread-plain ls k (rw (every_not is_number done f fs e) (and_false (leb (length ls) 17)))

-- ---- lines that can
pub read_plain : (fs : List (List ℕ)) → name_by fs ≡ 17 → length fs ≤ 17 → every is_number fs ≡ true → line_of fs ≡ numbers (map value fs)
unfolding plain
read_plain fs e h f = plain_by fs e ∙ rw (le-leb (length fs) 17 h, f)

pub read_named : (done : List (List ℕ)) (name : List ℕ) → name_by (done ++ name ∷ []) ≡ length done → length done ≤ 2 → every is_number done ≡ true → line_of (done ++ name ∷ []) ≡ named (map value done) name
unfolding naming
read_named done name e h f =
    naming-by (done ++ name ∷ []) (rw e h)
    ∙ rw (e, eq-eqb (length (done ++ name ∷ [])) (length done + 1) (length-append done (name ∷ [])), take-append_seam done (name ∷ []), f, get_or-append_seam done name [] [])
