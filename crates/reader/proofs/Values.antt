-- A number is read digit by digit: a digit more makes it no smaller.
use mathlib.Core.Path.{◌≡◌, refl, ap, ◌∙◌}
use mathlib.Core.Bool.{Bool, true, false, ◌&&◌}
use mathlib.Core.List.{List, [], ◌∷◌, ◌++◌}
use Prim.Native.Nat.{ℕ, ◌+◌, ◌-◌, ◌*◌, ◌≤◌, ◌<◌, ◌^◌}
use native.Mathlib.Omega.{arith}
use native.Mathlib.Nat.{le_trans}
use lib.ListN.{length, length-append}
use lib.Dec.{ltb}
use borrow.Author.Tests.{lt-ltb, le-ltb, ltb-false}
use Rattle.std.specs.Prelude.{Option, Some, None}
use Rattle.reader.specs.Lines.{is_digit, every, value_from, value, is_number}
use Rattle.reader.specs.Steps.{value_so_far, with_digit}

pub and_false : (t : Bool) → (t && false) ≡ false
and_false true = refl
and_false false = refl

module _ {A : Type 0} (test : A → Bool) where
  pub every_append : (l m : List A) → every test (l ++ m) ≡ (every test l && every test m)
  every_append [] m = refl
  every_append (a ∷ l) m = ap (λ (t : Bool). test a && t) (every_append l m) ∙ and_assoc (test a)
    where
      and_assoc : (t : Bool) → (t && (every test l && every test m)) ≡ (t && every test l && every test m)
      and_assoc true = refl
      and_assoc false = refl

  -- one that fails, wherever it stands
  pub every_not : (l : List A) (a : A) (m : List A) → test a ≡ false → every test (l ++ a ∷ m) ≡ false
  every_not l a m e = rw (every_append l (a ∷ m), e) (and_false (every test l))

  pub every_one_more : (l : List A) (a : A) → every test l ≡ true → test a ≡ true → every test (l ++ a ∷ []) ≡ true
  every_one_more l a e f = rw (every_append l (a ∷ []), e, f)

value-append : (v : ℕ) (l m : List ℕ) → value_from v (l ++ m) ≡ value_from (value_from v l) m
value-append v [] m = refl
value-append v (b ∷ l) m = value-append (v * 10 + (b - 48)) l m

value_grows : (v : ℕ) (m : List ℕ) → v ≤ value_from v m
value_grows v [] = omega arith
value_grows v (b ∷ m) = le_trans (omega arith) (value_grows (v * 10 + (b - 48)) m)

pub value_one_more : (l : List ℕ) (b : ℕ) → value (l ++ b ∷ []) ≡ value l * 10 + (b - 48)
value_one_more l b = value-append 0 l (b ∷ [])

-- ---- which fields are numbers
pub number-yes : (f : List ℕ) → 0 < length f → every is_digit f ≡ true → value f < 2 ^ 32 → is_number f ≡ true
unfolding is_number
number-yes f h e k = rw (lt-ltb 0 (length f) h, e, lt-ltb (value f) (2 ^ 32) k)

pub number-empty : (f : List ℕ) → ltb 0 (length f) ≡ false → is_number f ≡ false
unfolding is_number
number-empty f e = rw e

pub number-letter : (l : List ℕ) (b : ℕ) (m : List ℕ) → is_digit b ≡ false → is_number (l ++ b ∷ m) ≡ false
unfolding is_number
number-letter l b m e = rw (every_not is_digit l b m e) (and_false (ltb 0 (length (l ++ b ∷ m))))

pub number_large : (l : List ℕ) (b : ℕ) (m : List ℕ) → 2 ^ 32 ≤ value l * 10 + (b - 48) → is_number (l ++ b ∷ m) ≡ false
unfolding is_number
number_large l b m h =
    let k : 2 ^ 32 ≤ value (l ++ b ∷ m) = rw (value-append 0 l (b ∷ m)) (le_trans h (value_grows (value l * 10 + (b - 48)) m)) in
    rw (le-ltb (value (l ++ b ∷ m)) (2 ^ 32) k, and_false (every is_digit (l ++ b ∷ m))) (and_false (ltb 0 (length (l ++ b ∷ m))))

-- ---- the value of digits, once there is one
abbrev pub so_far : List ℕ → Option ℕ
so_far [] = None
so_far (b ∷ bs) = Some (value (b ∷ bs))

pub some_so_far : (cur : List ℕ) → 0 < length cur → so_far cur ≡ Some (value cur)
some_so_far [] h = absurd (omega arith)
some_so_far (b ∷ cur) h = refl

pub none_so_far : (cur : List ℕ) → ltb 0 (length cur) ≡ false → so_far cur ≡ None
none_so_far [] e = refl
none_so_far (b ∷ cur) e = absurd (omega (arith, ltb-false 0 (length (b ∷ cur)) e))

value-so-far : (cur : List ℕ) → value_so_far (so_far cur) ≡ value cur
value-so-far [] = refl
value-so-far (b ∷ cur) = refl

pub more_so_far : (cur : List ℕ) (b : ℕ) → so_far (cur ++ b ∷ []) ≡ Some (value (cur ++ b ∷ []))
more_so_far cur b = some_so_far (cur ++ b ∷ []) (rw (length-append cur (b ∷ [])) (omega arith))

-- a byte more: a digit, none, or one too many
pub digit-more : (cur : List ℕ) (b : ℕ) → is_digit b ≡ true → value cur * 10 + (b - 48) < 2 ^ 32 → with_digit (so_far cur) b ≡ Some (value (cur ++ b ∷ []))
unfolding with_digit
digit-more cur b e h =
    rw (value-so-far cur, e, lt-ltb (value cur * 10 + (b - 48)) (2 ^ 32) h, value_one_more cur b)

pub no-digit : (v : Option ℕ) (b : ℕ) → is_digit b ≡ false → with_digit v b ≡ None
unfolding with_digit
no-digit v b e = rw e

pub digit-past : (cur : List ℕ) (b : ℕ) → is_digit b ≡ true → 2 ^ 32 ≤ value cur * 10 + (b - 48) → with_digit (so_far cur) b ≡ None
unfolding with_digit
digit-past cur b e h = rw (value-so-far cur, e, le-ltb (value cur * 10 + (b - 48)) (2 ^ 32) h)
