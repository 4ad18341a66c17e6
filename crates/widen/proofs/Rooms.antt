-- No more rows are changed than there are.
use mathlib.Core.Bool.{Bool, true, false, cond}
use mathlib.Core.List.{List}
use Prim.Native.Nat.{ℕ, zero, suc, ◌≤◌}
use native.Mathlib.Omega.{arith}
use Rattle.std.specs.Prelude.{Ok, Err}
use Rattle.refusals.specs.Answers.{Verdict}
use Rattle.places.specs.Items.{row_count, kernel_of}
use Rattle.widening.specs.declared.ToldWidened.{ToldWidened}
use Rattle.widening.specs.Widening.{how_many, changes, changed, pairs, widen_judged, widened_in, told_widened, Widens}

one_or_none : (t : Bool) → cond t 1 0 ≤ 1
one_or_none true = omega arith
one_or_none false = omega arith

pub how_few : (t : ℕ → Bool) (n : ℕ) → how_many t n ≤ n
how_few t zero = omega arith
how_few t (suc n) = omega (arith, how_few t n, one_or_none (t n))

told-few : (row : ℕ) (v : Verdict) (n : ℕ) (paired : Bool) → (told_widened (widened_in row v n paired)).changes ≤ n
told-few row (Ok _) n paired = omega arith
told-few row (Err r) n paired = omega arith

pub changes-few : {rs names copy list : List ℕ} {t : ToldWidened} {copy' list' : List ℕ} → Widens rs names copy list t copy' list' → t.changes ≤ row_count rs
changes-few {rs} {names} {copy} {list} w =
    let j = widen_judged rs names copy list in
    rw w.answer (omega (arith, told-few j.row j.verdict (changed rs names) (pairs (kernel_of rs names)), how_few (changes rs names) (row_count rs)))
