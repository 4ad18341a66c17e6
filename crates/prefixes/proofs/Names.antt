-- Two ranges of the names are the same name exactly when the lengths and the bytes are; a label bears a name when its range is that name.
use Prim.Native.Nat.{ℕ, zero, suc, ◌+◌, ◌*◌, ◌≤◌, ◌<◌}
use native.Mathlib.Omega.{arith}
use mathlib.Core.Path.{◌≡◌, refl, sym, ap, ◌∙◌}
use mathlib.Core.Bool.{true, ◌&&◌}
use mathlib.Core.List.{List, ◌∷◌}
use lib.ListN.{length, get_or, take, drop, length-take, length-drop}
use lib.Seq.{drop-cons}
use lib.Dec.{eqb}
use borrow.Author.Tests.{eqb-true, eq-eqb}
use Rattle.items.specs.declared.Condition.{Condition}
use Rattle.items.specs.declared.Item.TheVariants.{Instruction, Label, Jump, LoopBegin, LoopEnd}
use Rattle.std.specs.Prelude.{Ok, Err}
use Rattle.coded.specs.Coded.{Coded}
use Rattle.rows.specs.Rows.{row_width}
use Rattle.coded.specs.Fine.{CodedFine}
use Rattle.coded.proofs.Fine.{coded-fine, label-named, jump-named}
use Rattle.places.specs.Items.{Kernel, kernel_of, row_at}
use Rattle.places.specs.Looking.{same_from, bears}
use Rattle.prefixes.proofs.Tests.{true_false, and_both}

-- ---- bytes
pub same_eq : (names : List ℕ) (n a c : ℕ) → a + n ≤ length names → c + n ≤ length names → same_from names n a c ≡ true → take n (drop a names) ≡ take n (drop c names)
same_eq names zero a c h k e = refl
same_eq names (suc n) a c h k e =
    let x = and_both _ _ e in
    let p : get_or names a 0 ≡ get_or names c 0 = eqb-true _ _ x.0 in
    let q = same_eq names n (suc a) (suc c) (omega arith) (omega arith) x.1 in
    let ha : a < length names = omega arith in
    let hc : c < length names = omega arith in
    rw (drop-cons names a 0, drop-cons names c 0) (λ i. p i ∷ q i)

pub eq_same : (names : List ℕ) (n a c : ℕ) → a + n ≤ length names → c + n ≤ length names → take n (drop a names) ≡ take n (drop c names) → same_from names n a c ≡ true
eq_same names zero a c h k e = refl
eq_same names (suc n) a c h k e =
    let ha : a < length names = omega arith in
    let hc : c < length names = omega arith in
    let e' : get_or names a 0 ∷ take n (drop (suc a) names) ≡ get_or names c 0 ∷ take n (drop (suc c) names) = rw (drop-cons names a 0, drop-cons names c 0) at e in
    let p : get_or names a 0 ≡ get_or names c 0 = cc in
    let q : take n (drop (suc a) names) ≡ take n (drop (suc c) names) = cc in
    rw (eq-eqb _ _ p) (eq_same names n (suc a) (suc c) (omega arith) (omega arith) q)

part_length : (names : List ℕ) (n a : ℕ) → a + n ≤ length names → length (take n (drop a names)) ≡ n
part_length names n a h = simp (length-take, length-drop) (omega arith)

-- ---- the name at a of length b, and a label's at c of length d
module _ (names : List ℕ) (a b c d : ℕ) (h : a + b ≤ length names) (g : c + d ≤ length names) where
  pub test-name : (eqb d b && same_from names b c a) ≡ true → take d (drop c names) ≡ take b (drop a names)
  test-name e =
      let x = and_both _ _ e in
      let p = eqb-true d b x.0 in
      rw p (same_eq names b c a (omega arith) h x.1)

  pub name-test : take d (drop c names) ≡ take b (drop a names) → (eqb d b && same_from names b c a) ≡ true
  name-test e =
      let p : d ≡ b = sym (part_length names d c g) ∙ ap length e ∙ part_length names b a h in
      let q : take b (drop c names) ≡ take b (drop a names) = rw p at e in
      rw (eq-eqb _ _ p) (eq_same names b c a (omega arith) h q)

-- ---- an item that bears the name
module _ (names : List ℕ) (a b : ℕ) (h : a + b ≤ length names) where
  -- its own name
  pub record Bears (x : Coded) : Type 0 where
    pub start : ℕ
    pub len : ℕ
    pub label : x ≡ Ok (Label start len)
    pub name : take len (drop start names) ≡ take b (drop a names)

  pub bears-label : (x : Coded) → ((c d : ℕ) → x ≡ Ok (Label c d) → c + d ≤ length names) → bears names a b x ≡ true → Bears x
  bears-label (Ok (Instruction v)) f e = absurd (true_false e refl)
  bears-label (Ok (Label c d)) f e = record { start = c; len = d; label = refl; name = test-name names a b c d h (f c d refl) e }
  bears-label (Ok (Jump q c d)) f e = absurd (true_false e refl)
  bears-label (Ok (LoopBegin c m)) f e = absurd (true_false e refl)
  bears-label (Ok LoopEnd) f e = absurd (true_false e refl)
  bears-label (Err r) f e = absurd (true_false e refl)

  pub label-bears : (x : Coded) (c d : ℕ) → c + d ≤ length names → x ≡ Ok (Label c d) → take d (drop c names) ≡ take b (drop a names) → bears names a b x ≡ true
  label-bears x c d g e s = rw e (name-test names a b c d h g s)

-- ---- the names of a kernel's labels and jumps lie in its names
pub record Named (k : Kernel) : Type 0 where
  pub label : (i a b : ℕ) → k.it i ≡ Ok (Label a b) → a + b ≤ length k.names
  pub jump : (i : ℕ) (c : Condition) (a b : ℕ) → k.it i ≡ Ok (Jump c a b) → a + b ≤ length k.names

pub row_fine : (rows names : List ℕ) (i : ℕ) → CodedFine (length names) (row_at rows names i)
row_fine rows names i = coded-fine (take row_width (drop (i * row_width) rows)) (length names)

pub rows_named : (rows names : List ℕ) → Named (kernel_of rows names)
rows_named rows names =
    record {
      label = λ i a b e. label-named (length names) (row_at rows names i) (row_fine rows names i) a b e;
      jump = λ i c a b e. jump-named (length names) (row_at rows names i) (row_fine rows names i) c a b e;
    }
