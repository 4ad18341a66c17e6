-- The lines in turn: after each the reader stands at the start of the next, with the parcels so far, or is unread for good.
use mathlib.Core.Path.{◌≡◌, refl, ap, ◌∙◌}
use mathlib.Core.Bool.{Bool, true, false, ◌&&◌, cond}
use mathlib.Core.List.{List, [], ◌∷◌, ◌++◌}
use Prim.Native.Nat.{ℕ, ◌+◌, ◌<◌}
use native.Mathlib.Omega.{arith}
use lib.ListN.{length, set, replicate, length-append, length-replicate}
use lib.Dec.{ltb}
use borrow.Author.Tests.{ltb-true}
use Rattle.reader.specs.Lines.{lines}
use Rattle.reader.proofs.Buffers.{over, over-more, over-front}
use Rattle.reader.proofs.Cuts.{Free, Lined, none, last, more, lined, lines_more, lines-last}
use Rattle.std.specs.Prelude.{Result, Ok, Err}
use Rattle.std.specs.Borrow.{Bor}
use Rattle.reader.specs.declared.Unread.{Unread}
use Rattle.hex_lines.specs.declared.Place.{Place}
use Rattle.hex_lines.specs.declared.Reader.{Reader}
use Rattle.hex_lines.specs.Parcels.{is_parcel, parcel_of, is_head, Said, parcels, unread, said_from, said_lines, said}
use Rattle.hex_lines.specs.Steps.{line_start, mem, turn_of, run, ended, ReadsIn, Reads, Tells}
use Rattle.hex_lines.proofs.Turns.{run-append, stays-unread, Ends}
use Rattle.hex_lines.proofs.InLine.{ParcelEnds, filed, digits-read, FirstEnds, first_read}
use Rattle.hex_lines.proofs.AtHand.{ended-last, ended-unread}

abbrev zeros : List ℕ
zeros = replicate 3072 0

-- the start of a line, after so many lines passed over and these parcels
abbrev here : ℕ → List ℕ → Reader
here p ps = mem (Ok (line_start p (length ps))) (over zeros ps)

abbrev Told : Said → Reader → Type 0
Told s m = (r : Result (Bor (List ℕ)) Unread) → Reads m r → Tells s r

read_here : (p : ℕ) (ps : List ℕ) → Told (parcels ps) (here p ps)
read_here p ps (Ok r) h = h ∙ over-front zeros ps
read_here p ps (Err e) h = h

unread-here : (i : ℕ) (m : Reader) → m.place ≡ Err (record { line = i + 1 }) → Told (unread (i + 1)) m
unread-here i m e r h = by m.place e r h
  where
    by : (p : Result Place Unread) → p ≡ Err (record { line = i + 1 }) → (r : Result (Bor (List ℕ)) Unread) → ReadsIn p m.parcels r → Tells (unread (i + 1)) r
    by (Ok s) e r h = absurd (cc e)
    by (Err u) e (Ok r) h = h
    by (Err u) e (Err f) h = let k : u ≡ record { line = i + 1 } = cc in ap (λ (u : Unread). u.line) (h ∙ k)

one_more : (p : ℕ) (ps : List ℕ) (v : ℕ) → length ps < 3072 → mem (Ok (line_start p (length ps + 1))) (set (over zeros ps) (length ps) v) ≡ here p (ps ++ v ∷ [])
one_more p ps v h = rw (over-more zeros ps v (rw (length-replicate {A = ℕ} 3072 0) h), length-append ps (v ∷ []))

-- ---- a line, and whatever comes after it, which leaves an unread line alone
abbrev Stays : (Reader → Reader) → Type 0
Stays rest = (m : Reader) (u : Unread) → m.place ≡ Err u → rest m ≡ m

module _ (p : ℕ) (ps q : List ℕ) (rest : Reader → Reader) (stays : Stays rest) (ls : List (List ℕ)) where
  next : List ℕ
  next = ps ++ parcel_of q ∷ []

  parcel_line_lem : (length ps < 3072 → Told (said_from (p + length ps + 1) next ls) (rest (here p next))) → (m : Reader) → ParcelEnds p (length ps) (over zeros ps) q m → Told (said_from (p + length ps) ps (q ∷ ls)) (rest m)
  unfolding next
  parcel_line_lem then m = by (is_parcel q) (ltb (length ps) 3072) refl
    where
      by : (t u : Bool) → ltb (length ps) 3072 ≡ u → Ends (t && u) (filed p (length ps) (over zeros ps) q) (p + length ps) m → Told (cond (t && u) (said_from (p + length ps + 1) next ls) (unread (p + length ps + 1))) (rest m)
      by true true e a = let h = ltb-true (length ps) 3072 e in rw (a, one_more p ps (parcel_of q) h) (then h)
      by true false e a = rw (stays m _ a) (unread-here (p + length ps) m a)
      by false u e a = rw (stays m _ a) (unread-here (p + length ps) m a)

-- what follows a line
after : List ℕ → Reader → Reader
after bs m = ended (run m bs)

after-stays : (bs : List ℕ) → Stays (after bs)
unfolding after
after-stays bs m u e = ap ended (stays-unread m u bs e) ∙ ended-unread m u e

-- ---- the lines after the first
later : {bs : List ℕ} → Lined bs → (p : ℕ) (ps : List ℕ) → 0 < p + length ps → Told (said_from (p + length ps) ps (lines bs)) (ended (run (here p ps) bs))
unfolding ended after next
later none p ps h = read_here p ps
later (last b q free) p ps h =
    rw (lines-last b q free, ended-last (here p ps) b q free)
    (parcel_line_lem p ps (b ∷ q) (λ m. m) (λ m u e. refl) [] (λ _. read_here p _) _ (digits-read p (length ps) (over zeros ps) (b ∷ q) free [] (omega arith) refl (omega arith)))
later (more q rest free r) p ps h =
    rw (lines_more q rest free, run-append (here p ps) q (10 ∷ rest))
    (parcel_line_lem p ps q (after rest) (after-stays rest) (lines rest) (λ _. rw longer at (later r p (ps ++ parcel_of q ∷ []) (omega (arith, longer)))) _ (digits-read p (length ps) (over zeros ps) q free [] (omega arith) refl (omega arith)))
  where
    longer : p + length (ps ++ parcel_of q ∷ []) ≡ p + length ps + 1
    longer = omega (arith, length-append ps (parcel_of q ∷ []))

-- ---- the first line
first-line : (q : List ℕ) → Free q → (rest : Reader → Reader) → Stays rest → (ls : List (List ℕ)) → ((p : ℕ) (ps : List ℕ) → 0 < p + length ps → Told (said_from (p + length ps) ps ls) (rest (here p ps)))
    → Told (said_lines (q ∷ ls)) (rest (turn_of (run (here 0 []) q) 10))
unfolding next
first-line q free rest stays ls then = by (is_head q) _ (first_read zeros q free)
  where
    by : (t : Bool) (m : Reader) → FirstEnds t q zeros m → Told (cond t (said_from 1 [] ls) (said_from 0 [] (q ∷ ls))) (rest m)
    by true m a = rw a (then 1 [] (omega arith))
    by false m a = parcel_line_lem 0 [] q rest stays ls (λ _. then 0 (parcel_of q ∷ []) (omega arith)) m a

all_lines : {bs : List ℕ} → Lined bs → Told (said_lines (lines bs)) (ended (run (here 0 []) bs))
unfolding ended after
all_lines none = read_here 0 []
all_lines (last b q free) = rw (lines-last b q free, ended-last (here 0 []) b q free) (first-line (b ∷ q) free (λ m. m) (λ m u e. refl) [] (λ p ps _. read_here p ps))
all_lines (more q rest free r) = rw (lines_more q rest free, run-append (here 0 []) q (10 ∷ rest)) (first-line q free (after rest) (after-stays rest) (lines rest) (λ p ps h. later r p ps h))

pub told : (input : List ℕ) (r : Result (Bor (List ℕ)) Unread) → Reads (ended (run (mem (Ok (line_start 0 0)) (replicate 3072 0)) input)) r → Tells (said input) r
told input = all_lines (lined input)
