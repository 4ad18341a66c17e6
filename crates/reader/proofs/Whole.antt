-- The lines in turn: after each the reader stands at the start of the next, with the rows and names so far, or is unread for good.
use mathlib.Core.Path.{◌≡◌, refl, ap, ◌∙◌}
use mathlib.Core.Bool.{Bool, true, false, ◌&&◌, false≢true, cond}
use mathlib.Core.List.{List, [], ◌∷◌, ◌++◌, map}
use Prim.Native.Nat.{ℕ, ◌+◌, ◌-◌, ◌*◌, ◌≤◌, ◌<◌}
use native.Mathlib.Omega.{arith}
use lib.ListN.{length, take, replicate, length-append, length-replicate, length-map, length-take}
use lib.Dec.{ltb, leb, eqb}
use borrow.Author.Tests.{le-leb, ltb-true, ltb-false, leb-true}
use Rattle.std.specs.Prelude.{Result, Ok, Err}
use Rattle.reader.specs.declared.Place.{Place}
use Rattle.reader.specs.declared.Reader.{Reader}
use Rattle.reader.specs.declared.Unread.{Unread}
use Rattle.reader.specs.declared.Read.{Read}
use Rattle.reader.specs.Lines.{lines, fields, every, value, is_number, Line, numbers, named, unreadable, plain, naming, kind_of, line_of, is_read_line, name_in, row_in, fits, Said, rows, unread, said_from, said}
use Rattle.reader.specs.Steps.{line_start, unread_line, failed, mem, turn_at, turn_of, run, ended, ReadsIn, Reads, Tells}
use Rattle.reader.proofs.Conds.{yes, cond_keeps}
use Rattle.reader.proofs.Buffers.{over, over-front}
use Rattle.reader.proofs.Cuts.{Free, Lined, none, last, more, lined, lines_more, lines-last}
use Rattle.reader.proofs.Turns.{run-append, turn-unread, run-unread, stays-unread}
use Rattle.reader.proofs.InLine.{zeros}
use Rattle.reader.proofs.OneLine.{After, line_read}
use Rattle.reader.proofs.Keeps.{start_fine}
use Rattle.reader.proofs.AtHand.{run_at_hand, ended_at_hand, ended-unread}

-- ---- a row is seventeen numbers
abbrev Short : Line → Type 0
Short (numbers ns) = length ns ≤ 17
Short (named ns name) = length ns ≤ 15
Short unreadable = Unit {0}

plain-short : (fs : List (List ℕ)) → Short (plain fs)
unfolding plain
plain-short fs = by (leb (length fs) 17) refl (every is_number fs)
  where
    by : (t : Bool) → leb (length fs) 17 ≡ t → (u : Bool) → Short (cond (t && u) (numbers (map value fs)) unreadable)
    by true e true = rw (length-map fs value) (leb-true (length fs) 17 e)
    by true e false = tt
    by false e u = tt

naming-short : (n : ℕ) (fs : List (List ℕ)) → n ≤ 15 → Short (naming n fs)
unfolding naming
naming-short n fs h = cond_keeps Short (eqb (length fs) (n + 1) && every is_number (take n fs)) _ _ (λ _. rw (length-map (take n fs) value, length-take n fs) (omega arith)) (λ _. tt)

line-short : (fs : List (List ℕ)) → Short (line_of fs)
unfolding line_of
line-short fs =
    cond_keeps Short (eqb (kind_of fs) 48) _ _ (λ _. naming-short 1 fs (omega arith))
    (λ _. cond_keeps Short (eqb (kind_of fs) 49) _ _ (λ _. naming-short 2 fs (omega arith)) (λ _. plain-short fs))

filled-long : (ns : List ℕ) → length ns ≤ 17 → length (ns ++ replicate (17 - length ns) 0) ≡ 17
filled-long ns h = rw (length-append ns (replicate (17 - length ns) 0), length-replicate {A = ℕ} (17 - length ns) 0) (omega arith)

row-long : (start : ℕ) (l : Line) → Short l → is_read_line l ≡ true → length (row_in start l) ≡ 17
row-long start (numbers ns) h e = filled-long ns h
row-long start (named ns name) h e = filled-long (ns ++ start ∷ length name ∷ []) (rw (length-append ns (start ∷ length name ∷ [])) (omega arith))
row-long start unreadable h e = absurd (false≢true e)

-- ---- a line that fits
record Fitting (i : ℕ) (names : List ℕ) (l : Line) : Type 0 where
  read : is_read_line l ≡ true
  small : i < 512
  few : length names + length (name_in l) ≤ 2048

fitting : (i : ℕ) (names : List ℕ) (l : Line) → fits i names l ≡ true → Fitting i names l
unfolding fits
fitting i names l e = by (is_read_line l) refl (ltb i 512) refl (leb (length names + length (name_in l)) 2048) refl e
  where
    by : (t : Bool) → is_read_line l ≡ t → (u : Bool) → ltb i 512 ≡ u → (v : Bool) → leb (length names + length (name_in l)) 2048 ≡ v → (t && (u && v)) ≡ true → Fitting i names l
    by true e true f true g z = record { read = e; small = ltb-true i 512 f; few = leb-true (length names + length (name_in l)) 2048 g }
    by true e true f false g z = absurd (false≢true z)
    by true e false f v g z = absurd (false≢true z)
    by false e u f v g z = absurd (false≢true z)

misfitting : (names : List ℕ) (l : Line) → fits 512 names l ≡ false
unfolding fits
misfitting names l = by (is_read_line l)
  where
    by : (t : Bool) → (t && false) ≡ false
    by true = refl
    by false = refl

-- ---- the lines in turn
module _ (lent : List ℕ) (long : length lent ≡ 2048) where
  abbrev here : ℕ → List ℕ → List ℕ → Reader
  here i rs names = mem (Ok (line_start i (length names))) (over zeros rs) (over lent names)

  -- past the last item any byte is unread
  past : (s : Place) (rs ns : List ℕ) (b : ℕ) → s.items ≡ 512 → mem (failed s) rs ns ≡ turn_of (mem (Ok s) rs ns) b
  unfolding turn_of turn_at
  past s rs ns b e = yes _ _ (le-leb 512 s.items (omega arith)) refl

  past-line : (rs names : List ℕ) (q : List ℕ) (l : Line) → After lent 512 rs names l (fits 512 names l) (turn_of (run (here 512 rs names) q) 10)
  past-line rs names [] l = rw (misfitting names l, ← past (line_start 512 (length names)) (over zeros rs) (over lent names) 10 refl) refl
  past-line rs names (b ∷ q) l =
      let e = unread_line (line_start 512 (length names)) in
      rw (misfitting names l, ← past (line_start 512 (length names)) (over zeros rs) (over lent names) b refl, run-unread e (over zeros rs) (over lent names) q, turn-unread e (over zeros rs) (over lent names) 10) refl

  any_line : (i : ℕ) (rs names q : List ℕ) → length rs ≡ i * 17 → i ≤ 512 → length names ≤ 2048 → Free q
      → After lent i rs names (line_of (fields q)) (fits i names (line_of (fields q))) (turn_of (run (here i rs names) q) 10)
  any_line i rs names q whole h few free = by (ltb i 512) refl
    where
      by : (t : Bool) → ltb i 512 ≡ t → After lent i rs names (line_of (fields q)) (fits i names (line_of (fields q))) (turn_of (run (here i rs names) q) 10)
      by true e = line_read lent long i rs names whole (ltb-true i 512 e) few q free
      by false e = let z : i ≡ 512 = omega (arith, ltb-false i 512 e) in rw z (past-line rs names q (line_of (fields q)))

  -- ---- what the reader comes to
  abbrev Told : Said → Reader → Type 0
  Told s m = (r : Result Read Unread) → Reads m r → Tells s r

  read_here : (i : ℕ) (rs names : List ℕ) → length rs ≡ i * 17 → Told (rows rs names) (here i rs names)
  read_here i rs names whole (Ok r) h = (h.0 ∙ rw (← whole) (over-front zeros rs), h.1 ∙ over-front lent names)
  read_here i rs names whole (Err e) h = h

  unread-here : (i : ℕ) (m : Reader) → m.place ≡ Err (record { line = i + 1 }) → Told (unread (i + 1)) m
  unread-here i m e r h = by m.place e r h
    where
      by : (p : Result Place Unread) → p ≡ Err (record { line = i + 1 }) → (r : Result Read Unread) → ReadsIn p m.rows m.names r → Tells (unread (i + 1)) r
      by (Ok s) e r h = absurd (cc e)
      by (Err u) e (Ok r) h = h
      by (Err u) e (Err f) h = let k : u ≡ record { line = i + 1 } = cc in ap (λ (u : Unread). u.line) (h ∙ k)

  -- a line, and whatever comes after it, which leaves an unread line alone
  module _ (i : ℕ) (rs names q : List ℕ) (whole : length rs ≡ i * 17) (h : i ≤ 512) (few : length names ≤ 2048) (free : Free q) where
    l : Line
    l = line_of (fields q)

    next-line : (rest : Reader → Reader) (ls : List (List ℕ)) → ((m : Reader) (u : Unread) → m.place ≡ Err u → rest m ≡ m)
        → (length (rs ++ row_in (length names) l) ≡ (i + 1) * 17 → i + 1 ≤ 512 → length (names ++ name_in l) ≤ 2048 → Told (said_from (i + 1) (rs ++ row_in (length names) l) (names ++ name_in l) ls) (rest (here (i + 1) (rs ++ row_in (length names) l) (names ++ name_in l))))
        → Told (said_from i rs names (q ∷ ls)) (rest (turn_of (run (here i rs names) q) 10))
    unfolding l
    next-line rest ls stays next = by (fits i names l) refl _ (any_line i rs names q whole h few free)
      where
        by : (t : Bool) → fits i names l ≡ t → (m : Reader) → After lent i rs names l t m → Told (cond t (said_from (i + 1) (rs ++ row_in (length names) l) (names ++ name_in l) ls) (unread (i + 1))) (rest m)
        by true e m a =
            let f = fitting i names l e in
            rw a
            (next (length-append rs (row_in (length names) l) ∙ rw (row-long (length names) l (line-short (fields q)) f.read, whole) (omega arith)) (omega (arith, f.small)) (rw (length-append names (name_in l)) f.few))
        by false e m a = rw (stays m _ a) (unread-here i m a)

  whole_input : {bs : List ℕ} → Lined bs → (i : ℕ) (rs names : List ℕ) → length rs ≡ i * 17 → i ≤ 512 → length names ≤ 2048 → Told (said_from i rs names (lines bs)) (ended (run (here i rs names) bs))
  unfolding ended
  whole_input none i rs names whole h few = read_here i rs names whole
  whole_input (last b q free) i rs names whole h few =
      rw (lines-last b q free, ended_at_hand (run (here i rs names) (b ∷ q)) (run_at_hand (here i rs names) b q (start_fine i (length names) h few) free))
      (next-line i rs names (b ∷ q) whole h few free (λ m. m) [] (λ m u e. refl) (λ w k f. read_here (i + 1) _ _ w))
  whole_input (more q rest free r) i rs names whole h few =
      rw (lines_more q rest free, run-append (here i rs names) q (10 ∷ rest))
      (next-line i rs names q whole h few free (λ m. ended (run m rest)) (lines rest) (λ m u e. ap ended (stays-unread m u rest e) ∙ ended-unread m u e) (λ w k f. whole_input r (i + 1) _ _ w k f))

  pub told : (input : List ℕ) → Told (said input) (ended (run (here 0 [] []) input))
  told input = whole_input (lined input) 0 [] [] refl (omega arith) (omega arith)
