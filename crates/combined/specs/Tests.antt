-- Instruments of the short way: the tests of a row that holds a compute, added up, and the word of its compute.
use Rattle.std.specs.Prelude.{ℕ, ◌+◌, ◌*◌, ◌/◌, ◌%◌, ◌^◌, Bool, false, not, cond, ◌&&◌, ◌||◌, List, [], ◌∷◌, eqb, ltb, leb, Option, Some, None, option_map, option_and_then}
use Rattle.std.specs.Option.{option_or}
use Rattle.std.specs.Bool.{then_some}
use Rattle.fields.specs.Pack.{pack}
use Rattle.words.specs.Forms.{bit_of}
use Rattle.computes.specs.Compute.{multi}
use Rattle.encode.specs.Registers.{in_dag}
use Rattle.bounds.specs.Tables.{lookup, at}
use Rattle.combined.specs.Single.{third_of, single_word}

-- 1 where a number is over the most, and where it is not the one that it should be
abbrev pub over : ℕ → ℕ → ℕ
over most v = bit_of (ltb most v)

abbrev pub unlike : ℕ → ℕ → ℕ
unlike v w = bit_of (not (eqb v w))

abbrev pub four : ℕ → ℕ → ℕ → ℕ → ℕ
four a b c d = a + b + c + d

-- the places of a single compute after its kind, whose third field holds that at most; and its word where they are fine
abbrev pub single_faults : ℕ → ℕ → ℕ → ℕ → ℕ → ℕ → ℕ → ℕ
single_faults most a b c d e f = over 15 a + over 15 b + over most c + four d e f 0

unfoldable pub single_of : ℕ → ℕ → ℕ → ℕ → ℕ → ℕ → ℕ → Option ℕ
single_of kind a b c d e f =
    option_and_then (λ most. cond (eqb (single_faults most a b c d e f) 0) (single_word kind a b c) None) (third_of kind)

-- those of a multifunction
abbrev pub input_faults : ℕ → ℕ → ℕ → ℕ → ℕ
input_faults mx my ax ay = unlike (mx / 4) 0 + unlike (my / 4) 1 + unlike (ax / 4) 2 + unlike (ay / 4) 3

abbrev pub output_faults : ℕ → ℕ → ℕ → ℕ
output_faults p op d = over 15 p + over 1 op + over 15 d + bit_of (eqb p d)

abbrev pub multi_field : ℕ → ℕ → ℕ → ℕ → ℕ → ℕ → ℕ → ℕ
multi_field p mx my op d ax ay =
    pack (multi (0x18 + op % 256 % 2) (p % 256) (d % 256) (mx % 256 % 4) (my % 256 % 4) (ax % 256 % 4) (ay % 256 % 4))

unfoldable pub multi_of : ℕ → ℕ → ℕ → ℕ → ℕ → ℕ → ℕ → Option ℕ
multi_of p mx my op d ax ay =
    cond (eqb (input_faults mx my ax ay + output_faults p op d) 0) (Some (0x13e * 2 ^ 32 + multi_field p mx my op d ax ay)) None

-- the word of a row's compute: nothing where its places are not fine, and where there is none
unfoldable pub word_of : List ℕ → Option ℕ
word_of row =
    lookup (at row 1)
    ((1, single_of (at row 2) (at row 3) (at row 4) (at row 5) (at row 6) (at row 7) (at row 8)) ∷
    (2, multi_of (at row 2) (at row 3) (at row 4) (at row 5) (at row 6) (at row 7) (at row 8)) ∷ [])
    None

-- the eight places say that there is none
unfoldable pub none_of : List ℕ → Bool
none_of row = eqb (four (at row 1) (at row 2) (at row 3) (at row 4) + four (at row 5) (at row 6) (at row 7) (at row 8)) 0

-- beside a move: the low bits of the word of a compute that is fine, and 0 where there is none
unfoldable pub bits_beside : List ℕ → Option ℕ
bits_beside row = option_or (option_map (λ word. word % 2 ^ 32) (word_of row)) (then_some (none_of row) 0)

-- the destinations: a multifunction has two, a comparison none
unfoldable pub written : List ℕ → ℕ → Bool
written row register =
    lookup (at row 1) ((0, false) ∷ (2, eqb (at row 2) register || eqb (at row 6) register) ∷ [])
    (not (eqb (at row 2) 27) && eqb (at row 3) register)

-- a load of a register that the compute writes
unfoldable pub clash_of : List ℕ → ℕ → ℕ → Bool
clash_of row direction register = eqb direction 0 && written row register

-- the two accesses of a dual move, which do not load one register
abbrev pub dm_faults : ℕ → ℕ → ℕ → ℕ → ℕ
dm_faults a b c d = over 1 a + over 15 b + over 7 c + over 7 d

abbrev pub pm_faults : ℕ → ℕ → ℕ → ℕ → ℕ
pm_faults e f g h = over 1 e + over 15 f + unlike (g / 8) 1 + unlike (h / 8) 1

unfoldable pub dual_fits : ℕ → ℕ → ℕ → ℕ → ℕ → ℕ → ℕ → ℕ → Bool
dual_fits a b c d e f g h =
    eqb (dm_faults a b c d + pm_faults e f g h + bit_of (eqb (four a e 0 0 + unlike b f) 0)) 0

-- the access of a memory move, and the spare places after it
abbrev pub access_faults : ℕ → ℕ → ℕ → ℕ → ℕ → ℕ
access_faults a b c d e = over 1 a + over 95 b + over 15 c + over 15 d + over 1 e

unfoldable pub memory_fits : ℕ → ℕ → ℕ → ℕ → ℕ → ℕ → ℕ → ℕ → Bool
memory_fits a b c d e f g h = eqb (access_faults a b c d e + unlike (c / 8) (d / 8) + four f g h 0) 0

-- a post-modify access or a store of a register of the DAG that addresses it
unfoldable pub own_dag : ℕ → ℕ → ℕ → ℕ → Bool
own_dag direction code index update = not (eqb (bit_of (eqb update 0) + bit_of (eqb direction 1)) 0) && in_dag (code % 256) (leb 8 index)
