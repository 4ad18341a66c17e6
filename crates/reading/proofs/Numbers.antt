-- What reading back tells: 0 with rows that fit the lent slices, or 35 or 36; no second detail and no row.
use mathlib.Core.Path.{◌≡◌, refl, ap, ◌∙◌}
use mathlib.Core.List.{List}
use Prim.Native.Nat.{ℕ, ◌+◌, ◌*◌, ◌≤◌}
use native.Mathlib.Omega.{arith}
use lib.ListN.{length, length-append}
use lib.IntN.{pos}
use Rattle.std.specs.Prelude.{Ok, Err}
use Rattle.refusals.specs.Answers.{Verdict}
use Rattle.refusals.specs.Calls.{reads_back, Listed}
use Rattle.rows.specs.Rows.{row_width}
use Rattle.reading.specs.declared.ToldRows.{ToldRows}
use Rattle.reading.specs.Back.{Goes, ended, strange, full, next, told_rows, ReadsBack}
use Rattle.reading.proofs.Walked.{front-whole}

-- ---- of every way to go
module _ {room : ℕ} where
  -- the verdict is told by 0, 35 or 36, and by one detail at most
  goes-tells : {place done : ℕ} {ps rows places : List ℕ} {v : Verdict} → Goes room place done ps rows places v → (n : ℕ) →
      Listed reads_back (told_rows v n).number × ((told_rows v n).second ≡ pos 0) × ((told_rows v n).third ≡ pos 0)
  goes-tells ended n = (refl, refl, refl)
  goes-tells (strange f) n = (refl, refl, refl)
  goes-tells (full f h) n = (refl, refl, refl)
  goes-tells (next f h rest) n = goes-tells rest n

  -- 0 is told of good verdicts alone
  pub good_zero : {place done : ℕ} {ps rows places : List ℕ} {v : Verdict} → Goes room place done ps rows places v → (n : ℕ) → (told_rows v n).number ≡ 0 → v ≡ Ok tt
  good_zero ended n e = refl
  good_zero (strange f) n e = absurd (omega arith)
  good_zero (full f h) n e = absurd (omega arith)
  good_zero (next f h rest) n e = good_zero rest n e

  -- what is read fits the room
  goes-fits : {place done : ℕ} {ps rows places : List ℕ} {v : Verdict} → Goes room place done ps rows places v → done ≤ room → done + length places ≤ room
  goes-fits ended fits = omega arith
  goes-fits (strange f) fits = omega arith
  goes-fits (full f h) fits = omega arith
  goes-fits (next f h rest) fits = let r = goes-fits rest (omega arith) in omega arith

  -- it is a whole row for each place
  pub goes-whole : {place done : ℕ} {ps rows places : List ℕ} {v : Verdict} → Goes room place done ps rows places v → length rows ≡ length places * row_width
  goes-whole ended = refl
  goes-whole (strange f) = refl
  goes-whole (full f h) = refl
  goes-whole (next f h rest) = let whole = front-whole f in let r = goes-whole rest in simp length-append (omega arith)

-- a refusal counts no rows
counts-most : (v : Verdict) (n : ℕ) → (told_rows v n).rows ≤ n
counts-most (Ok _) n = omega arith
counts-most (Err r) n = omega arith

-- ---- of the answer
module _ {parcels rows places : List ℕ} {t : ToldRows} {r p : List ℕ} (x : ReadsBack parcels rows places t r p) where
  pub read-numbers : Listed reads_back t.number
  read-numbers = rw x.answer (goes-tells x.goes (length x.new_places)).0

  pub read-second : t.second ≡ pos 0
  read-second = ap (λ (t : ToldRows). t.second) x.answer ∙ (goes-tells x.goes _).1

  -- no row is named
  pub read_no_row : t.third ≡ pos 0
  read_no_row = ap (λ (t : ToldRows). t.third) x.answer ∙ (goes-tells x.goes _).2

  -- the rows counted, and their places, lie in the lent slices
  pub read_count : (t.rows * row_width ≤ length rows) × (t.rows ≤ length places)
  read_count =
      let most = counts-most x.verdict (length x.new_places) in
      let fits = goes-fits x.goes (omega arith) in
      rw x.answer (omega arith)
