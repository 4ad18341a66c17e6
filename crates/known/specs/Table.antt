-- The reader's table, an instrument: the forms that the build can emit, each with the row that its numbers stand for, and when they do.
use Rattle.std.specs.Prelude.{ℕ, ◌+◌, ◌-◌, ◌*◌, ◌^◌, Bool, true, false, not, cond, ◌&&◌, ◌||◌, List, [], ◌∷◌, ◌++◌, eqb, leb, ltb, replicate, Option, Some, None, is_some}
use Rattle.std.specs.Bool.{then_some}
use Rattle.std.specs.Option.{unwrap_or, option_eq}
use Rattle.fields.specs.Pack.{Field}
use Rattle.fields.specs.Matching.{matches, found, raised}
use Rattle.computes.specs.Compute.{multi}
use Rattle.words.specs.Forms.{type2a, whole, long17a, move5a, modify19a, offset15a, jump8a, call25a, store16a, mode18a, dual1a, memory3a, loop12a, register_loop12a, nop21a, transfer5b, modify3b, offset15b, modify3c, nop21c}
use Rattle.encode.specs.Registers.{in_dag}
use Rattle.bounds.specs.Tables.{lookup, at}
use Rattle.bounds.specs.Bounds.{never, filled, fields}
use Rattle.rows.specs.Rows.{single_fields}
use Rattle.known.specs.declared.Known.{Known}
use Rattle.known.specs.declared.Held as declared

-- a form, and what the numbers at its operands' places make
pub record Line (A : Type 0) : Type 0 where
  pub form : List Field
  pub made : List ℕ → A

-- what the first line makes whose form a word is of
abbrev pub first_line : {A : Type 0} → A → List (Line A) → ℕ → A
first_line other [] word = other
first_line other (l ∷ ls) word = cond (matches l.form word) (l.made (found l.form word)) (first_line other ls word)

-- ---- computes: their eight places and what they write, where a row may hold them
abbrev pub Held : Type 0
Held = declared.Held

abbrev pub held : List ℕ → Option ℕ → Option ℕ → Held
held places first second = record { places = places; first = first; second = second }

abbrev pub held_if : Bool → List ℕ → Option ℕ → Option ℕ → Option Held
held_if fine places first second = then_some fine (held places first second)

-- a single compute of a kind, with its fields; the third is 0 where the kind has two
abbrev pub single_held : ℕ → ℕ → ℕ → ℕ → Option ℕ → Option Held
single_held kind a b c destination = held_if (ltb c (at (filled 3 (lookup kind fields (never ∷ []))) 2)) (1 ∷ kind ∷ a ∷ b ∷ c ∷ 0 ∷ 0 ∷ 0 ∷ []) destination None

abbrev pub single_line : ℕ → Line (Option Held)
single_line kind = record { form = single_fields kind 0 0 0; made = λ ns. single_held kind (at ns 0) (at ns 1) (at ns 2) (Some (at ns 0)) }

-- IntegerCompareUnsigned writes nothing: its fields are the inputs
abbrev pub compare_line : Line (Option Held)
compare_line = record { form = single_fields 27 0 0 0; made = λ ns. single_held 27 (at ns 1) (at ns 2) (at ns 0) None }

abbrev pub multi_line : ℕ → ℕ → Line (Option Held)
multi_line op opcode = record {
  form = multi opcode 0 0 0 0 0 0;
  made = λ ns.
      held_if (not (eqb (at ns 0) (at ns 1))) (2 ∷ at ns 0 ∷ at ns 2 ∷ (at ns 3 + 4) ∷ op ∷ at ns 1 ∷ (at ns 4 + 8) ∷ (at ns 5 + 12) ∷ []) (Some (at ns 0)) (Some (at ns 1));
}

unfoldable pub compute_lines : List (Line (Option Held))
compute_lines =
    single_line 0 ∷ single_line 1 ∷ single_line 2 ∷ single_line 3 ∷ single_line 4 ∷ single_line 5 ∷ single_line 6 ∷ single_line 7 ∷ single_line 8 ∷ single_line 25
    ∷ single_line 26 ∷ compare_line ∷ multi_line 0 0x18 ∷ multi_line 1 0x19 ∷ []

-- no compute beside a move
abbrev pub nothing_held : Held
nothing_held = held (replicate 8 0) None None

-- the compute of 23 bits, if they are one; and of the 23 bits beside a move, where 0 is none
unfoldable pub compute_at : ℕ → Option Held
compute_at n = first_line None compute_lines n

unfoldable pub beside_at : ℕ → Option Held
beside_at n = cond (eqb n 0) (Some nothing_held) (compute_at n)

abbrev pub places_of : Option Held → List ℕ
places_of None = replicate 8 0
places_of (Some h) = h.places

abbrev pub writes_to : Held → ℕ → Bool
writes_to h number = option_eq eqb h.first (Some number) || option_eq eqb h.second (Some number)

-- ---- rows
abbrev pub known : ℕ → List ℕ → Known
known n row = record { parcels = n; row = row }

abbrev pub known_if : Bool → ℕ → List ℕ → Option Known
known_if fine n row = then_some fine (known n row)

-- a row of three fields
abbrev pub line : ℕ → ℕ → ℕ → ℕ → List ℕ
line kind a b c = kind ∷ a ∷ b ∷ c ∷ replicate 13 0

-- the place of a row that a field of 2 * half numbers came from
abbrev pub widened : ℕ → ℕ → ℕ
widened half n = cond (ltb n half) n (n + (2 ^ 32 - 2 * half))

-- the condition of a code, if it has one
abbrev pub condition_at : ℕ → Option ℕ
condition_at n = lookup n ((0, Some 0) ∷ (16, Some 1) ∷ (7, Some 2) ∷ (8, Some 3) ∷ (23, Some 4) ∷ (31, Some 5) ∷ (18, Some 6) ∷ []) None

-- a universal code, which a store through DAG1 takes from elsewhere
abbrev pub code_fine : ℕ → ℕ → Bool
code_fine code store = ltb code 0x60 && not (eqb store 1 && in_dag code false)

-- a loop's offset
abbrev pub loop_fine : ℕ → Bool
loop_fine offset = leb 3 offset && leb offset 0x3f_ffff

-- a source parted over three fields
abbrev pub source : ℕ → ℕ → ℕ → ℕ
source a b c = a * 4 + b * 2 + c

-- ---- the forms: so many parcels, the form, whether its numbers stand for a row, and which
abbrev pub entry : ℕ → List Field → (List ℕ → Bool) → (List ℕ → List ℕ) → Line (Option Known)
entry n form fine row = record { form = raised (48 - 16 * n) form; made = λ ns. known_if (fine ns) n (row ns) }

abbrev pub always : List ℕ → Bool
always ns = true

-- 3b first: its words look like 3a's, but for the compute that 3a would have
abbrev pub line3b : Line (Option Known)
line3b = entry 2 (modify3b 0 0 0 0) (λ ns. code_fine (at ns 3) (at ns 2)) (λ ns. line (21 + at ns 2) (at ns 3) (at ns 0) (at ns 1))

-- three parcels: transfers and a jump; then the others
abbrev pub transfers : List (Line (Option Known))
transfers =
    entry 3 (long17a 0x0f 0 0) (λ ns. ltb (at ns 0) 0x60) (λ ns. line 17 (at ns 0) (at ns 1) 0)
    ∷ entry 3 (long17a 0x10 0 0) (λ ns. ltb (at ns 0) 16) (λ ns. line 11 (at ns 0) (at ns 1) 0)
    ∷ entry 3 (long17a 0x11 0 0) (λ ns. ltb (at ns 0) 16) (λ ns. line 12 (at ns 0) (at ns 1) 0)
    ∷ entry 3 (move5a 0 0) (λ ns. ltb (at ns 3) 16 && ltb (source (at ns 0) (at ns 1) (at ns 2)) 16) (λ ns. line 10 (at ns 3) (source (at ns 0) (at ns 1) (at ns 2)) 0)
    ∷ entry 3 (modify19a 0 0) always (λ ns. line 18 (at ns 0 * 8 + at ns 1) (at ns 2) 0)
    ∷ entry 3 (offset15a 0 0 0 0) (λ ns. code_fine (at ns 2) (at ns 1) && (leb 64 (at ns 3) && ltb (at ns 3) 0xffff_ffc0)) (λ ns. line (23 + at ns 1) (at ns 2) (at ns 0) (at ns 3))
    ∷ entry 3 (jump8a 0 0 0) (λ ns. is_some (condition_at (at ns 0))) (λ ns. line 28 (unwrap_or (condition_at (at ns 0)) 0) (widened 0x80_0000 (at ns 2)) (at ns 1))
    ∷ []

abbrev pub others : List (Line (Option Known))
others =
    entry 3 (call25a 0) always (λ ns. line 29 (at ns 0) 0 0)
    ∷ entry 3 (store16a 0 0 0 0) always (λ ns. line 35 (at ns 0 + 8 * at ns 2) (at ns 1 + 8 * at ns 2) (at ns 3))
    ∷ entry 3 (mode18a 0 0) always (λ ns. line 36 (at ns 0) 0 0)
    ∷ entry 3 (mode18a 1 0) always (λ ns. line 37 (at ns 0) 0 0)
    ∷ entry 3 nop21a always (λ ns. line 39 0 0 0)
    ∷ entry 3 (loop12a 0 0 0) (λ ns. not (eqb (at ns 0) 0) && loop_fine (at ns 2)) (λ ns. line 50 0 (at ns 0) (at ns 1))
    ∷ entry 3 (register_loop12a 0 0 0) (λ ns. ltb (at ns 0) 0x60 && loop_fine (at ns 2)) (λ ns. line 50 1 (at ns 0) (at ns 1))
    ∷ []

-- one or two parcels
abbrev pub few_parcels : List (Line (Option Known))
few_parcels =
    entry 2 (transfer5b 0 0) (λ ns. ltb (at ns 3) 0x60 && ltb (source (at ns 0) (at ns 1) (at ns 2)) 0x60) (λ ns. line 16 (at ns 3) (source (at ns 0) (at ns 1) (at ns 2)) 0)
    ∷ entry 2 (offset15b 0 0 0 0) (λ ns. code_fine (at ns 2) (at ns 1)) (λ ns. line (23 + at ns 1) (at ns 2) (at ns 0) (widened 64 (at ns 3)))
    ∷ entry 1 (modify3c 0 0 0 0) always (λ ns. line (19 + at ns 2) (at ns 3) (at ns 0) (at ns 1))
    ∷ entry 1 nop21c always (λ ns. line 38 0 0 0)
    ∷ []

-- a load into a register that the compute, or the other load, writes
abbrev pub dual_fine : Option Held → ℕ → ℕ → ℕ → ℕ → Bool
dual_fine None dmd dmdreg pmd pmdreg = false
dual_fine (Some h) dmd dmdreg pmd pmdreg =
    not (eqb dmd 0 && writes_to h dmdreg) && not (eqb pmd 0 && (writes_to h pmdreg || (eqb dmd 0 && eqb dmdreg pmdreg)))

-- a post-modify access (u 1) or a store (d 1) of a register of the DAG that addresses it (g 1: DAG2), and a load into what the compute writes
abbrev pub memory_fine : Option Held → ℕ → ℕ → ℕ → ℕ → Bool
memory_fine None u g d code = false
memory_fine (Some h) u g d code =
    ltb code 0x60 && (not ((eqb u 1 || eqb d 1) && in_dag code (eqb g 1)) && not (eqb d 0 && (ltb code 16 && writes_to h code)))

-- three parcels with a compute
abbrev pub computing : List (Line (Option Known))
computing =
    entry 3 (type2a (whole 0)) (λ ns. is_some (compute_at (at ns 0))) (λ ns. 32 ∷ (places_of (compute_at (at ns 0)) ++ replicate 8 0))
    ∷ entry 3 (dual1a 0 0 0 0 0 0 0 0 (whole 0)) (λ ns. dual_fine (beside_at (at ns 8)) (at ns 0) (at ns 4) (at ns 3) (at ns 7))
    (λ ns. 33 ∷ (places_of (beside_at (at ns 8)) ++ (at ns 0 ∷ at ns 4 ∷ at ns 1 ∷ at ns 2 ∷ at ns 3 ∷ at ns 7 ∷ (at ns 5 + 8) ∷ (at ns 6 + 8) ∷ [])))
    ∷ entry 3 (memory3a 0 0 0 0 0 0 (whole 0)) (λ ns. memory_fine (beside_at (at ns 6)) (at ns 0) (at ns 3) (at ns 4) (at ns 5))
    (λ ns. 34 ∷ (places_of (beside_at (at ns 6)) ++ (at ns 4 ∷ at ns 5 ∷ (at ns 1 + 8 * at ns 3) ∷ (at ns 2 + 8 * at ns 3) ∷ (1 - at ns 0) ∷ 0 ∷ 0 ∷ 0 ∷ [])))
    ∷ []

-- what a word of 48 bits stands for at its front, if it starts a known form
unfoldable pub table : List (Line (Option Known))
table = line3b ∷ (transfers ++ (others ++ (few_parcels ++ computing)))

unfoldable pub known_in : ℕ → Option Known
known_in word = first_line None table word
