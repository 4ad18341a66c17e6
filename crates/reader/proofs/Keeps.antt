-- A byte keeps a reader fine.
use mathlib.Core.List.{List, [], ◌∷◌}
use Prim.Native.Nat.{ℕ, ◌+◌, ◌≤◌, ◌<◌}
use native.Mathlib.Omega.{arith}
use lib.Dec.{ltb, leb, eqb}
use borrow.Author.Tests.{ltb-true, leb-false}
use Rattle.std.specs.Prelude.{Option, Some, None, is_some, Result, Ok, Err}
use Rattle.reader.specs.declared.Place.{Place}
use Rattle.reader.specs.declared.Reader.{Reader}
use Rattle.reader.specs.declared.Unread.{Unread}
use Rattle.reader.specs.Steps.{Early, Fine, FineIn, line_start, failed, is_begun, in_name, with_digit, digit_in, digit_of, With, letter_of, name_of_kind, name_after, tab_in, end_in, end_of, turn_at, turn_in, turn_of, run, ended_in, ended}
use Rattle.reader.proofs.Conds.{cond_keeps}
use Rattle.reader.proofs.Readable.{kind-early}

-- ---- fine
fail_fine : (s : Place) → Fine s → FineIn (failed s)
fail_fine s f = omega (arith, f.items)

digit-fine : (s : Place) (b : ℕ) → Fine s → FineIn (digit_of s b)
digit-fine s b f = by (with_digit s.value b)
  where
    by : (v : Option ℕ) → FineIn (digit_in s v)
    by None = fail_fine s f
    by (Some v) = record { items = f.items; field = f.field; name = f.name; names = f.names }

abbrev FineWith : With → Type 0
FineWith w = FineIn w.place

letter-fine : (s : Place) (b : ℕ) (l : List ℕ) → Fine s → FineWith (letter_of s b l)
unfolding letter_of
letter-fine s b l f =
    cond_keeps FineWith (ltb (s.start + s.bytes) 2048) _ _
    (λ e. record { items = f.items; field = f.field; name = f.name; names = omega (arith, ltb-true (s.start + s.bytes) 2048 e) })
    (λ _. fail_fine s f)

name-fine : (s : Place) (v : ℕ) → Fine s → Early (name_after s v)
name-fine s v f = cond_keeps Early (eqb s.field 0) (name_of_kind v) s.name (λ _. kind-early v) (λ _. f.name)

tab_fine : (s : Place) (l : List ℕ) (v : Option ℕ) → Fine s → FineWith (tab_in s l v)
unfolding tab_in
tab_fine s l None f = fail_fine s f
tab_fine s l (Some v) f =
    cond_keeps FineWith (ltb s.field 16) _ _ (λ e. record { items = f.items; field = omega (arith, ltb-true s.field 16 e); name = name-fine s v f; names = f.names }) (λ _. fail_fine s f)

pub start_fine : (i start : ℕ) → i ≤ 512 → start ≤ 2048 → Fine (line_start i start)
start_fine i start h k = record { items = h; field = omega arith; name = tt; names = omega arith }

end-fine : (s : Place) (l : List ℕ) → Fine s → s.items < 512 → FineWith (end_of s l)
unfolding end_of
end-fine s l f h = cond_keeps FineWith (in_name s) _ _ (λ _. next) (λ _. by s.value)
  where
    next : Fine (line_start (s.items + 1) (s.start + s.bytes))
    next = start_fine _ _ (omega arith) f.names

    by : (v : Option ℕ) → FineWith (end_in s l v)
    by None = fail_fine s f
    by (Some v) = cond_keeps FineWith (is_some (name_after s v)) _ _ (λ _. fail_fine s f) (λ _. next)

abbrev FineMem : Reader → Type 0
FineMem m = FineIn m.place

at-fine : (s : Place) (rs ns : List ℕ) (b : ℕ) → Fine s → FineMem (turn_at s rs ns b)
unfolding turn_at
at-fine s rs ns b f =
    cond_keeps FineMem (leb 512 s.items) _ _ (λ _. fail_fine s f)
    (λ h. cond_keeps FineMem (eqb b 10) _ _ (λ _. end-fine s rs f (leb-false 512 s.items h))
    (λ _. cond_keeps FineMem (eqb b 9) _ _ (λ _. tab_fine s rs s.value f)
    (λ _. cond_keeps FineMem (in_name s) _ _ (λ _. letter-fine s b ns f) (λ _. digit-fine s b f))))

turns-fine : (p : Result Place Unread) (rs ns : List ℕ) (b : ℕ) → FineIn p → FineMem (turn_in p rs ns b)
turns-fine (Ok s) rs ns b f = at-fine s rs ns b f
turns-fine (Err e) rs ns b f = f

pub turn-fine : (m : Reader) (b : ℕ) → FineIn m.place → FineIn (turn_of m b).place
unfolding turn_of
turn-fine m b f = turns-fine m.place m.rows m.names b f

pub run-fine : (m : Reader) (q : List ℕ) → FineIn m.place → FineIn (run m q).place
run-fine m [] f = f
run-fine m (b ∷ q) f = run-fine (turn_of m b) q (turn-fine m b f)

ends-fine : (p : Result Place Unread) (rs ns : List ℕ) → FineIn p → FineMem (ended_in p rs ns)
ends-fine (Ok s) rs ns f = cond_keeps FineMem (is_begun s) _ _ (λ _. at-fine s rs ns 10 f) (λ _. f)
ends-fine (Err e) rs ns f = f

pub ended-fine : (m : Reader) → FineIn m.place → FineIn (ended m).place
unfolding ended
ended-fine m f = ends-fine m.place m.rows m.names f
