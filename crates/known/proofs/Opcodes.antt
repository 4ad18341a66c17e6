-- The compute of 23 bits by its unit and opcode: the lines of single computes as one table.
use Prim.Native.Nat.{ℕ, ◌+◌, ◌*◌, ◌/◌, ◌%◌, ◌<◌}
use native.Mathlib.Omega.{arith}
use mathlib.Core.Path.{◌≡◌, refl, sym, ◌∙◌}
use mathlib.Core.Bool.{Bool, true, false, ◌&&◌}
use mathlib.Core.List.{List, [], ◌∷◌}
use lib.Dec.{eqb, ltb}
use borrow.Author.Tests.{eq-eqb, eqb-true, eqb-false}
use Rattle.fields.specs.Pack.{field}
use Rattle.encode.specs.Layouts.{layout_of}
use Rattle.bounds.specs.Tables.{lookup}
use Rattle.bounds.specs.Bounds.{fields}
use Rattle.rows.specs.Fields.{instruction_of, scalars}
use Rattle.rows.specs.Fields as rows
use Rattle.std.specs.Prelude.{Option, Some, None}
use Rattle.known.specs.Table.{Held, held_if, first_line, multi_line, compute_lines, compute_at}

-- the parts of the number in bits 22:12
top : (n : ℕ) → n / 0x40_0000 % 2 ≡ n / 0x1000 % 0x800 / 1024
top n = omega arith

middle : (n : ℕ) → n / 0x10_0000 % 4 ≡ n / 0x1000 % 0x800 / 256 % 4
middle n = omega arith

low : (n : ℕ) → n / 0x1000 % 256 ≡ n / 0x1000 % 0x800 % 256
low n = omega arith

parted : (k unit opcode : ℕ) → unit < 4 → opcode < 256 → k ≡ unit * 256 + opcode → (k / 1024 ≡ 0) × (k / 256 % 4 ≡ unit) × (k % 256 ≡ opcode)
parted k unit opcode u o e = omega arith

joined : (k unit opcode : ℕ) → k / 1024 ≡ 0 → k / 256 % 4 ≡ unit → k % 256 ≡ opcode → k ≡ unit * 256 + opcode
joined k unit opcode x y z = omega arith

-- the tests of a single compute's three constant fields are one test of those bits
one-test :
    (k unit opcode : ℕ) → unit < 4 → opcode < 256 → (eqb (k / 1024) 0 && (eqb (k / 256 % 4) unit && (eqb (k % 256) opcode && true))) ≡ eqb k (unit * 256 + opcode)
one-test k unit opcode u o = go (eqb k (unit * 256 + opcode)) refl (eqb (k / 1024) 0) (eqb (k / 256 % 4) unit) (eqb (k % 256) opcode) refl refl refl
  where
    go :
        (t : Bool) → eqb k (unit * 256 + opcode) ≡ t → (x y z : Bool) → eqb (k / 1024) 0 ≡ x → eqb (k / 256 % 4) unit ≡ y → eqb (k % 256) opcode ≡ z →
        (x && (y && (z && true))) ≡ t
    go true e x y z a b c = let p = parted k unit opcode u o (eqb-true _ _ e) in rw (sym a ∙ eq-eqb _ _ p.0, sym b ∙ eq-eqb _ _ p.1, sym c ∙ eq-eqb _ _ p.2)
    go false e true true true a b c = absurd (eqb-false _ _ e (joined k unit opcode (eqb-true _ _ a) (eqb-true _ _ b) (eqb-true _ _ c)))
    go false e true true false a b c = refl
    go false e true false z a b c = refl
    go false e false y z a b c = refl

single-test :
    (n unit opcode : ℕ) → unit < 4 → opcode < 256 →
    (eqb (n / 0x40_0000 % 2) 0 && (eqb (n / 0x10_0000 % 4) unit && (eqb (n / 0x1000 % 256) opcode && true))) ≡ eqb (n / 0x1000 % 0x800) (unit * 256 + opcode)
single-test n unit opcode u o = rw (top n, middle n, low n) (one-test (n / 0x1000 % 0x800) unit opcode u o)

-- a single compute of a kind, whose third field is below a limit; and the comparison, which writes nothing
abbrev single : ℕ → ℕ → ℕ → Option Held
single n kind limit = held_if (ltb (field 3 0 n) limit) (1 ∷ kind ∷ field 11 8 n ∷ field 7 4 n ∷ field 3 0 n ∷ 0 ∷ 0 ∷ 0 ∷ []) (Some (field 11 8 n)) None

abbrev compare : ℕ → Option Held
compare n = held_if (ltb (field 11 8 n) 1) (1 ∷ 27 ∷ field 7 4 n ∷ field 3 0 n ∷ field 11 8 n ∷ 0 ∷ 0 ∷ 0 ∷ []) None None

abbrev pub singles : ℕ → List (ℕ × Option Held)
singles n =
    (0x081, single n 0 16) ∷ (0x082, single n 1 16) ∷ (0x130, single n 2 16) ∷ (0x0e1, single n 3 16) ∷ (0x0e2, single n 4 16) ∷ (0x0a2, single n 5 1)
    ∷ (0x0b0, single n 6 1) ∷ (0x002, single n 7 16) ∷ (0x0a1, single n 8 1) ∷ (0x02a, single n 25 1) ∷ (0x021, single n 26 1) ∷ (0x00b, compare n) ∷ []

abbrev pub multis : ℕ → Option Held
multis n = first_line None (multi_line 0 0x18 ∷ multi_line 1 0x19 ∷ []) n

pub by-opcode : (n : ℕ) → compute_at n ≡ lookup (n / 0x1000 % 0x800) (singles n) (multis n)
unfolding compute_at compute_lines layout_of instruction_of scalars rows.others fields
by-opcode n =
    rw (
      single-test n 0 0x81 (omega arith) (omega arith),
      single-test n 0 0x82 (omega arith) (omega arith),
      single-test n 1 0x30 (omega arith) (omega arith),
      single-test n 0 0xe1 (omega arith) (omega arith),
      single-test n 0 0xe2 (omega arith) (omega arith),
      single-test n 0 0xa2 (omega arith) (omega arith),
      single-test n 0 0xb0 (omega arith) (omega arith),
      single-test n 0 0x02 (omega arith) (omega arith),
      single-test n 0 0xa1 (omega arith) (omega arith),
      single-test n 0 0x2a (omega arith) (omega arith),
      single-test n 0 0x21 (omega arith) (omega arith),
      single-test n 0 0x0b (omega arith) (omega arith),
    )
