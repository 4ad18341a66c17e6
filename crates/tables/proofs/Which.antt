-- Which rows are labels and jumps: each count of an item is 0, or the item is of that kind; and the row of each number.
use mathlib.Core.Path.{◌≡◌, refl, sym, ap}
use mathlib.Core.Logic.{◌⊎◌, inl, inr, ⊎_elim}
use Prim.Native.Nat.{ℕ, zero, suc, ◌≤◌, ◌<◌}
use native.Mathlib.Omega.{arith}
use native.Mathlib.Nat.{eq-or-lt_of_le}
use Rattle.items.specs.declared.Condition.{Condition}
use Rattle.items.specs.declared.Item.TheVariants.{Instruction, Label, Jump, LoopBegin, LoopEnd}
use Rattle.std.specs.Prelude.{Ok, Err}
use Rattle.coded.specs.Coded.{Coded}
use Rattle.places.specs.Items.{is_label, is_jump, total}

pub record IsLabel (x : Coded) : Type 0 where
  pub start : ℕ
  pub len : ℕ
  pub label : x ≡ Ok (Label start len)

pub label_or_not : (x : Coded) → (is_label x ≡ 0) ⊎ IsLabel x
label_or_not (Ok (Instruction v)) = inl refl
label_or_not (Ok (Label a b)) = inr (record { start = a; len = b; label = refl })
label_or_not (Ok (Jump c a b)) = inl refl
label_or_not (Ok (LoopBegin c m)) = inl refl
label_or_not (Ok LoopEnd) = inl refl
label_or_not (Err why) = inl refl

pub record IsJump (x : Coded) : Type 0 where
  pub condition : Condition
  pub start : ℕ
  pub len : ℕ
  pub jump : x ≡ Ok (Jump condition start len)

pub jump_or_not : (x : Coded) → (is_jump x ≡ 0) ⊎ IsJump x
jump_or_not (Ok (Instruction v)) = inl refl
jump_or_not (Ok (Label a b)) = inl refl
jump_or_not (Ok (Jump c a b)) = inr (record { condition = c; start = a; len = b; jump = refl })
jump_or_not (Ok (LoopBegin c m)) = inl refl
jump_or_not (Ok LoopEnd) = inl refl
jump_or_not (Err why) = inl refl

-- ---- the row of number k among the items of a kind
pub record RowOf (counts : Coded → ℕ) (Is : Coded → Type 0) (it : ℕ → Coded) (n k : ℕ) : Type 0 where
  pub row : ℕ
  pub before : row < n
  pub number : total counts it row ≡ k
  pub is : Is (it row)

module _ (counts : Coded → ℕ) (Is : Coded → Type 0) (one : (x : Coded) → Is x → counts x ≡ 1) (or-not : (x : Coded) → (counts x ≡ 0) ⊎ Is x) (it : ℕ → Coded) where
  row_of : (n k : ℕ) → k < total counts it n → RowOf counts Is it n k
  row_of zero k h = absurd (omega arith)
  row_of (suc n) k h =
      ⊎_elim (λ z. later (row_of n k (omega arith)))
      (λ y.
      let c = one (it n) y in
      ⊎_elim (λ z. record { row = n; before = omega arith; number = sym z; is = y }) (λ lt. later (row_of n k lt)) (eq-or-lt_of_le (let w : k ≤ total counts it n = omega arith in w)))
      (or-not (it n))
    where
      later : RowOf counts Is it n k → RowOf counts Is it (suc n) k
      later r = record { row = r.row; before = omega (arith, r.before); number = r.number; is = r.is }

pub label-row : (it : ℕ → Coded) (n k : ℕ) → k < total is_label it n → RowOf is_label IsLabel it n k
label-row = row_of is_label IsLabel (λ x y. ap is_label y.label) label_or_not

pub jump-row : (it : ℕ → Coded) (n k : ℕ) → k < total is_jump it n → RowOf is_jump IsJump it n k
jump-row = row_of is_jump IsJump (λ x y. ap is_jump y.jump) jump_or_not
