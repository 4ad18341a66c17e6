-- A byte keeps a reader fine.
use mathlib.Core.List.{List, [], ◌∷◌}
use Prim.Native.Nat.{ℕ, ◌+◌, ◌≤◌}
use native.Mathlib.Nat.{pow-suc}
use native.Mathlib.Numerals.{add-one}
use native.Mathlib.Omega.{arith}
use lib.Dec.{ltb, eqb}
use borrow.Author.Tests.{ltb-true}
use Rattle.std.specs.Prelude.{Option, Some, None, Result, Ok, Err}
use Rattle.reader.specs.declared.Unread.{Unread}
use Rattle.reader.specs.Steps.{with_digit}
use Rattle.reader.proofs.Conds.{cond_keeps}
use Rattle.hex_lines.specs.declared.Part.{Part}
use Rattle.hex_lines.specs.declared.Part.TheVariants.{Digits, LetterO, Word, Count}
use Rattle.hex_lines.specs.declared.Place.{Place}
use Rattle.hex_lines.specs.declared.Reader.{Reader}
use Rattle.hex_lines.specs.Parcels.{hex_value, is_hex}
use Rattle.hex_lines.specs.Steps.{Small, Fine, FineIn, line_start, with_part, failed, is_begun, digit_of, begin_of, word_of, count_in, byte_in, end_in, turn_at, turn_in, turn_of, run, ended_in, ended}

fail_fine : (s : Place) → Fine s → FineIn (failed s)
fail_fine s f = omega (arith, f.passed, f.parcels)

pub start_fine : (p k : ℕ) → p ≤ 1 → k ≤ 3072 → Fine (line_start p k)
start_fine p k h j = record { passed = h; parcels = j; small = (omega arith, omega arith) }

part_fine : (s : Place) (part : Part) → Small part → Fine s → Fine (with_part s part)
part_fine s part h f = record { passed = f.passed; parcels = f.parcels; small = h }

digit-fine : (s : Place) (n v b : ℕ) → Small (Digits n v) → Fine s → FineIn (digit_of s n v b)
unfolding digit_of
digit-fine s n v b h f =
    cond_keeps FineIn (is_hex b) _ _
    (λ e. cond_keeps FineIn (ltb n 4) _ _
    (λ k. part_fine s _ (omega (arith, ltb-true n 4 k), rw (add-one, pow-suc) (omega (arith, h.1, ltb-true (hex_value b) 16 e))) f)
    (λ _. fail_fine s f))
    (λ _. fail_fine s f)

count-fine : (s : Place) (c : Option ℕ) → Fine s → FineIn (count_in s c)
count-fine s None f = fail_fine s f
count-fine s (Some v) f = part_fine s (Count (Some v)) tt f

byte-fine : (s : Place) (b : ℕ) (part : Part) → Small part → Fine s → FineIn (byte_in s b part)
unfolding byte_in begin_of word_of
byte-fine s b (Digits n v) h f =
    cond_keeps FineIn (eqb b 111) _ _
    (λ _. cond_keeps FineIn (eqb (s.passed + s.parcels + n) 0) _ _ (λ _. part_fine s LetterO tt f) (λ _. fail_fine s f))
    (λ _. digit-fine s n v b h f)
byte-fine s b LetterO h f = cond_keeps FineIn (eqb b 107) _ _ (λ _. part_fine s Word tt f) (λ _. fail_fine s f)
byte-fine s b Word h f = cond_keeps FineIn (eqb b 9) _ _ (λ _. part_fine s (Count None) tt f) (λ _. fail_fine s f)
byte-fine s b (Count c) h f = count-fine s (with_digit c b) f

abbrev FineMem : Reader → Type 0
FineMem m = FineIn m.place

end-fine : (s : Place) (l : List ℕ) (part : Part) → Fine s → FineMem (end_in s l part)
unfolding end_in
end-fine s l (Digits n v) f =
    cond_keeps FineMem (eqb n 4) _ _
    (λ _. cond_keeps FineMem (ltb s.parcels 3072) _ _ (λ h. start_fine s.passed (s.parcels + 1) f.passed (omega (arith, ltb-true s.parcels 3072 h))) (λ _. fail_fine s f))
    (λ _. fail_fine s f)
end-fine s l LetterO f = fail_fine s f
end-fine s l Word f = fail_fine s f
end-fine s l (Count None) f = fail_fine s f
end-fine s l (Count (Some v)) f = start_fine 1 s.parcels (omega arith) f.parcels

at-fine : (s : Place) (l : List ℕ) (b : ℕ) → Fine s → FineMem (turn_at s l b)
unfolding turn_at
at-fine s l b f = cond_keeps FineMem (eqb b 10) _ _ (λ _. end-fine s l s.part f) (λ _. byte-fine s b s.part f.small f)

turns-fine : (p : Result Place Unread) (l : List ℕ) (b : ℕ) → FineIn p → FineMem (turn_in p l b)
turns-fine (Ok s) l b f = at-fine s l b f
turns-fine (Err e) l b f = f

pub turn-fine : (m : Reader) (b : ℕ) → FineIn m.place → FineIn (turn_of m b).place
unfolding turn_of
turn-fine m b f = turns-fine m.place m.parcels b f

pub run-fine : (m : Reader) (q : List ℕ) → FineIn m.place → FineIn (run m q).place
run-fine m [] f = f
run-fine m (b ∷ q) f = run-fine (turn_of m b) q (turn-fine m b f)

ends-fine : (p : Result Place Unread) (l : List ℕ) → FineIn p → FineMem (ended_in p l)
ends-fine (Ok s) l f = cond_keeps FineMem (is_begun s.part) _ _ (λ _. at-fine s l 10 f) (λ _. f)
ends-fine (Err e) l f = f

pub ended-fine : (m : Reader) → FineIn m.place → FineIn (ended m).place
unfolding ended
ended-fine m f = ends-fine m.place m.parcels f
