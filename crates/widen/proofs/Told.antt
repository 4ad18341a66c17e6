-- The rooms are as large as any list that is read, and a list that is read is whole rows: of refusals only those of a row are told, never 1 or 36.
use mathlib.Core.Path.{◌≡◌, refl, sym, ap, subst, ◌∙◌}
use mathlib.Core.Bool.{Bool, true, not}
use mathlib.Core.List.{List, ◌∷◌}
use Prim.Native.Nat.{ℕ, ◌*◌, ◌%◌, ◌≤◌}
use native.Mathlib.Omega.{arith}
use lib.ListN.{length, replicate, length-replicate}
use borrow.Author.Tests.{le-ltb, le-leb, eq-eqb}
use Rattle.std.specs.Prelude.{Ok, Err}
use Rattle.refusals.specs.Answers.{Verdict}
use Rattle.refusals.specs.declared.Refusal.TheVariants.{RowSlice}
use Rattle.refusals.specs.Numbers.{among}
use Rattle.refusals.specs.Calls.{reading}
use Rattle.refusals.specs.Order.{when, or_else, first_of}
use Rattle.refusals.proofs.Within.{Tells, tells-or_else, tells-first_of}
use Rattle.rows.specs.Rows.{row_width, most_rows, well_formed}
use Rattle.coded.specs.Coded.{read_verdict}
use Rattle.places.specs.Items.{row_at, row_count, kernel_of}
use Rattle.counts.specs.Counts.{list_judged}
use Rattle.counts.proofs.Numbers.{listed-verdict, read-tells}
use Rattle.widening.specs.declared.ToldWidened.{ToldWidened}
use Rattle.widening.specs.Widening.{changes, changed, pairs, copy_room, list_room, widen_judged, widened_in, told_widened, Widens}
use Rattle.reader.specs.Lines.{rows, said}
use Rattle.item_lines.proofs.Turned.{turn-long, said_in_turn}
use Rattle.widen.proofs.Rooms.{how_few}
use Rattle.widen.specs.Printed.{refusal_in}

told-tells : (row : ℕ) (v : Verdict) (n : ℕ) (paired : Bool) → Tells reading v → among (0 ∷ reading) (refusal_in (told_widened (widened_in row v n paired))).number ≡ true
told-tells row (Ok _) n paired h = refl
told-tells row (Err r) n paired h = h

module _ (rs names : List ℕ) (n : ℕ) (long : length rs ≡ n * 17) (few : n ≤ 512) where
  whole : well_formed (length rs) ≡ true
  whole =
      let z : length rs % row_width ≡ 0 = omega arith in
      let k : length rs ≤ most_rows * row_width = omega arith in
      rw (eq-eqb (length rs % row_width) 0 z, le-leb (length rs) (most_rows * row_width) k)

  rows_tell : Tells reading (list_judged read_verdict rs names).verdict
  rows_tell =
      subst (Tells reading) (sym (listed-verdict read_verdict rs names ∙ ap (λ (b : Bool). or_else (when (not b) RowSlice) (first_of (λ i. read_verdict (row_at rs names i)) (row_count rs))) whole))
      (tells-first_of reading (λ i. read_verdict (row_at rs names i)) (row_count rs) (λ i. read-tells rs names i reading refl))

  judged-tells : Tells reading (widen_judged rs names (replicate 8704 0) (replicate 1024 0)).verdict
  judged-tells =
      let copy = length-replicate {A = ℕ} 8704 0 in
      let list = length-replicate {A = ℕ} 1024 0 in
      let a = le-ltb (copy_room (replicate 8704 0)) (row_count rs) (omega (arith, copy)) in
      let b = le-ltb (list_room (replicate 1024 0)) (changed rs names) (omega (arith, list, how_few (changes rs names) (row_count rs))) in
      tells-or_else reading (list_judged read_verdict rs names).verdict _ rows_tell (rw (a, b) refl)

pub only-rows : (input : List ℕ) {rs names : List ℕ} → said input ≡ rows rs names → {t : ToldWidened} {copy list : List ℕ} → Widens rs names (replicate 8704 0) (replicate 1024 0) t copy list
    → among (0 ∷ reading) (refusal_in t).number ≡ true
only-rows input {rs} {names} i w =
    let s = said_in_turn input i in
    let j = widen_judged rs names (replicate 8704 0) (replicate 1024 0) in
    rw w.answer (told-tells j.row j.verdict (changed rs names) (pairs (kernel_of rs names)) (judged-tells rs names s.n (turn-long s.turn) s.few))
