-- A test that came out one way leaves that branch, also where the test is a field that stands in the branches too.
use mathlib.Core.Path.{◌≡◌, refl, ap, sym, ◌∙◌}
use mathlib.Core.Bool.{Bool, true, false, ◌&&◌, cond}
use mathlib.Core.List.{List}
use Prim.Native.Nat.{ℕ, ◌<◌, ◌≤◌}
use lib.Dec.{leb}
use borrow.Author.Tests.{le-leb, lt-leb}
use Rattle.reader.specs.declared.Place.{Place}
use Rattle.reader.specs.declared.Unread.{Unread}
use Rattle.reader.specs.Lines.{is_digit}
use Rattle.std.specs.Prelude.{Result}
use Rattle.reader.specs.Steps.{With, with, mem, mem_in_rows, in_names}

pub yes : {A : Type 0} (t : Bool) {r a : A} (b : A) → t ≡ true → r ≡ a → r ≡ cond t a b
yes t {a = a} b e f = f ∙ sym (ap (λ (z : Bool). cond z a b) e)

pub no : {A : Type 0} (t : Bool) (a : A) {r b : A} → t ≡ false → r ≡ b → r ≡ cond t a b
no t a {b = b} e f = f ∙ sym (ap (λ (z : Bool). cond z a b) e)

-- what holds of both branches
pub cond_keeps : {A : Type 0} (P : A → Type 0) (t : Bool) (a b : A) → (t ≡ true → P a) → (t ≡ false → P b) → P (cond t a b)
cond_keeps P true a b f g = f refl
cond_keeps P false a b f g = g refl

-- which bytes are digits
pub digit-yes : (b : ℕ) → 48 ≤ b → b ≤ 57 → is_digit b ≡ true
digit-yes b h k = rw (le-leb 48 b h, le-leb b 57 k)

pub digit_low : (b : ℕ) → b < 48 → is_digit b ≡ false
digit_low b h = rw (lt-leb 48 b h)

pub digit-high : (b : ℕ) → 57 < b → is_digit b ≡ false
digit-high b h = rw (lt-leb b 57 h, and_false (leb 48 b))
  where
    and_false : (t : Bool) → (t && false) ≡ false
    and_false true = refl
    and_false false = refl

-- a buffer and the place that its writer came to, beside the other buffer
pub in_rows : (names : List ℕ) {s : Result Place Unread} {rows : List ℕ} {w : With} → with s rows ≡ w → mem s rows names ≡ mem_in_rows w names
in_rows names e = ap (λ (w : With). mem_in_rows w names) e

pub in_names_lem : (rows : List ℕ) {s : Result Place Unread} {names : List ℕ} {w : With} → with s names ≡ w → mem s rows names ≡ in_names w rows
in_names_lem rows e = ap (λ (w : With). in_names w rows) e
