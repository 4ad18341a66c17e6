-- One line: the digits of a parcel, or `ok`, a tab and the digits of a count.
use mathlib.Core.Path.{◌≡◌, refl, sym, ap, ◌∙◌}
use mathlib.Core.Bool.{Bool, true, false, ◌&&◌, cond, true≢false}
use mathlib.Core.List.{List, [], ◌∷◌, ◌++◌, append-nil, append_assoc}
use Prim.Native.Nat.{ℕ, ◌+◌, ◌-◌, ◌*◌, ◌^◌, ◌≤◌, ◌<◌}
use native.Mathlib.Omega.{arith}
use lib.ListN.{length, set, length-append}
use lib.Dec.{ltb, eqb}
use borrow.Author.Tests.{lt-ltb, le-ltb, eq-eqb, ne_eqb, ltb-true, ltb-false, eqb-true}
use Rattle.reader.specs.Lines.{is_digit, every, value, is_number}
use Rattle.reader.proofs.Cuts.{Free}
use Rattle.reader.proofs.Values.{so_far, more_so_far, digit-more, no-digit, digit-past, and_false, every_not, every_one_more, value_one_more, number-yes, number-empty, number-letter, number_large}
use Rattle.std.specs.Prelude.{None, Ok}
use Rattle.hex_lines.specs.declared.Part.{Part}
use Rattle.hex_lines.specs.declared.Part.TheVariants.{Digits, LetterO, Word, Count}
use Rattle.hex_lines.specs.declared.Place.{Place}
use Rattle.hex_lines.specs.declared.Reader.{Reader}
use Rattle.hex_lines.specs.Parcels.{hex_value, is_hex, is_parcel, parcel_from, parcel_of, is_count, is_head}
use Rattle.hex_lines.specs.Steps.{line_start, failed, digit_of, begin_of, word_of, count_of, byte_in, byte_of, mem, end_in, end_of, turn_of, run}
use Rattle.hex_lines.proofs.Turns.{turn_end, turn_byte, Ends, lost, lost-end}

-- ---- which lines are parcels
pub no_parcel : (l : List ℕ) (b : ℕ) (m : List ℕ) → is_hex b ≡ false → is_parcel (l ++ b ∷ m) ≡ false
unfolding is_parcel
no_parcel l b m e = rw (every_not is_hex l b m e) (and_false (eqb (length (l ++ b ∷ m)) 4))

not_four : (l : List ℕ) → (length l ≡ 4 → ⊥) → is_parcel l ≡ false
unfolding is_parcel
not_four l h = rw (ne_eqb (length l) 4 h)

four : (l : List ℕ) → length l ≡ 4 → every is_hex l ≡ true → is_parcel l ≡ true
unfolding is_parcel
four l h e = rw (eq-eqb (length l) 4 h, e)

parcel_append : (v : ℕ) (l m : List ℕ) → parcel_from v (l ++ m) ≡ parcel_from (parcel_from v l) m
parcel_append v [] m = refl
parcel_append v (b ∷ l) m = parcel_append (v * 16 + hex_value b) l m

-- `o` is no hex digit
pub o_no_hex : is_hex 111 ≡ false
unfolding hex_value
o_no_hex = refl

hex_not_o : (b : ℕ) → is_hex b ≡ true → eqb b 111 ≡ false
hex_not_o b e = by (eqb b 111) refl
  where
    by : (t : Bool) → eqb b 111 ≡ t → t ≡ false
    by true f = absurd (true≢false (sym e ∙ ap is_hex (eqb-true b 111 f) ∙ o_no_hex))
    by false f = refl

one-longer : (l : List ℕ) (b : ℕ) → length (l ++ b ∷ []) ≡ length l + 1
one-longer l b = length-append l (b ∷ [])

module _ (p k : ℕ) (ps : List ℕ) where
  -- ---- where the reader stands in a line that has these digits; that has `o` or `ok`; that has these digits of a count
  abbrev pub at_part : Part → Place
  at_part part = record { passed = p; parcels = k; part = part }

  abbrev pub digits_at : List ℕ → Place
  digits_at cur = at_part (Digits (length cur) (parcel_of cur))

  abbrev count_at : List ℕ → Place
  count_at cur = at_part (Count (so_far cur))

  -- ---- the digits of a parcel
  pub digit-next : (cur : List ℕ) (b : ℕ) → is_hex b ≡ true → length cur < 4 → byte_of (digits_at cur) b ≡ Ok (digits_at (cur ++ b ∷ []))
  unfolding byte_in digit_of
  digit-next cur b e h = rw (hex_not_o b e, e, lt-ltb (length cur) 4 h, one-longer cur b, parcel_append 0 cur (b ∷ []))

  digit-full : (cur : List ℕ) (b : ℕ) → is_hex b ≡ true → length cur ≡ 4 → byte_of (digits_at cur) b ≡ failed (digits_at cur)
  unfolding byte_in digit_of
  digit-full cur b e h = rw (hex_not_o b e, e, le-ltb (length cur) 4 (omega arith))

  pub digit-none : (cur : List ℕ) (b : ℕ) → is_hex b ≡ false → length cur ≤ 4 → (eqb b 111 ≡ true → 0 < p + k + length cur) → byte_of (digits_at cur) b ≡ failed (digits_at cur)
  unfolding byte_in digit_of begin_of
  digit-none cur b e h later = rw e (by (eqb b 111) refl)
    where
      by : (t : Bool) → eqb b 111 ≡ t → cond t (begin_of (digits_at cur) (length cur)) (failed (digits_at cur)) ≡ failed (digits_at cur)
      by true f = let j = later f in rw (ne_eqb (p + k + length cur) 0 (λ z. omega arith))
      by false f = refl

  -- the end of a parcel's line
  abbrev pub fits : List ℕ → Bool
  fits l = is_parcel l && ltb k 3072

  abbrev pub filed : List ℕ → Reader
  filed l = mem (Ok (line_start p (k + 1))) (set ps k (parcel_of l))

  abbrev pub ParcelEnds : List ℕ → Reader → Type 0
  ParcelEnds l m = Ends (fits l) (filed l) (p + k) m

  short-end : (cur : List ℕ) → length cur < 4 → end_of (digits_at cur) ps ≡ mem (failed (digits_at cur)) ps
  unfolding end_in
  short-end cur h = rw (ne_eqb (length cur) 4 (λ z. omega arith))

  full-end : (cur : List ℕ) → length cur ≡ 4 → every is_hex cur ≡ true → ParcelEnds cur (end_of (digits_at cur) ps)
  unfolding end_in
  full-end cur h e = rw (four cur h e, eq-eqb (length cur) 4 h) (by (ltb k 3072))
    where
      by : (t : Bool) → Ends t (filed cur) (p + k) (cond t (filed cur) (mem (failed (digits_at cur)) ps))
      by true = refl
      by false = refl

  pub digits-end : (cur : List ℕ) → length cur ≤ 4 → every is_hex cur ≡ true → ParcelEnds cur (turn_of (mem (Ok (digits_at cur)) ps) 10)
  digits-end cur h e = rw (turn_end (digits_at cur) ps) (by (ltb (length cur) 4) refl)
    where
      by : (t : Bool) → ltb (length cur) 4 ≡ t → ParcelEnds cur (end_of (digits_at cur) ps)
      by true f = let j = ltb-true (length cur) 4 f in lost-end (fits cur) (filed cur) (digits_at cur) ps (rw (not_four cur (λ z. omega arith))) (short-end cur j)
      by false f = full-end cur (omega (arith, ltb-false (length cur) 4 f)) e

  pub digits-read : (q : List ℕ) → Free q → (cur : List ℕ) → length cur ≤ 4 → every is_hex cur ≡ true → 0 < p + k + length cur
      → ParcelEnds (cur ++ q) (turn_of (run (mem (Ok (digits_at cur)) ps) q) 10)
  digits-read [] free cur h e later = rw (append-nil cur) (digits-end cur h e)
  digits-read (b ∷ q) free cur h e later =
      rw (turn_byte (digits_at cur) ps b free.0) (by (is_hex b) refl (ltb (length cur) 4) refl (digits-read q free.1 (cur ++ b ∷ [])))
    where
      by : (t : Bool) → is_hex b ≡ t → (u : Bool) → ltb (length cur) 4 ≡ u
          → (length (cur ++ b ∷ []) ≤ 4 → every is_hex (cur ++ b ∷ []) ≡ true → 0 < p + k + length (cur ++ b ∷ []) → ParcelEnds ((cur ++ b ∷ []) ++ q) (turn_of (run (mem (Ok (digits_at (cur ++ b ∷ []))) ps) q) 10))
          → ParcelEnds (cur ++ b ∷ q) (turn_of (run (mem (byte_of (digits_at cur) b) ps) q) 10)
      by false f u g next = rw (digit-none cur b f h (λ _. later)) (lost (fits (cur ++ b ∷ q)) (filed (cur ++ b ∷ q)) (digits_at cur) ps q (rw (no_parcel cur b q f)))
      by true f false g next =
          let j = ltb-false (length cur) 4 g in
          rw (digit-full cur b f (omega arith))
          (lost (fits (cur ++ b ∷ q)) (filed (cur ++ b ∷ q)) (digits_at cur) ps q (rw (not_four (cur ++ b ∷ q) (λ z. omega (arith, length-append cur (b ∷ q))))))
      by true f true g next =
          let j = ltb-true (length cur) 4 g in
          rw (digit-next cur b f j, ← append_assoc cur (b ∷ []) q)
          (next (omega (arith, one-longer cur b)) (every_one_more is_hex cur b e f) (omega (arith, one-longer cur b)))

  -- ---- the digits of a count
  abbrev pub headed : Reader
  headed = mem (Ok (line_start 1 k)) ps

  abbrev pub CountEnds : Bool → Reader → Type 0
  CountEnds t m = Ends t headed (p + k) m

  count-end : (cur : List ℕ) → every is_digit cur ≡ true → value cur < 2 ^ 32 → CountEnds (is_number cur) (turn_of (mem (Ok (count_at cur)) ps) 10)
  unfolding end_in
  count-end [] e h = rw (turn_end (count_at []) ps, number-empty [] refl) refl
  count-end (b ∷ cur) e h = rw (turn_end (count_at (b ∷ cur)) ps, number-yes (b ∷ cur) (omega arith) e h) refl

  count-byte : (cur : List ℕ) (b : ℕ) → byte_of (count_at cur) b ≡ count_of (count_at cur) (so_far cur) b
  unfolding byte_in
  count-byte cur b = refl

  count_next : (cur : List ℕ) (b : ℕ) → is_digit b ≡ true → value cur * 10 + (b - 48) < 2 ^ 32 → count_of (count_at cur) (so_far cur) b ≡ Ok (count_at (cur ++ b ∷ []))
  count_next cur b e h = rw (more_so_far cur b, digit-more cur b e h)

  count-letter : (cur : List ℕ) (b : ℕ) → is_digit b ≡ false → count_of (count_at cur) (so_far cur) b ≡ failed (count_at cur)
  count-letter cur b e = rw (no-digit (so_far cur) b e)

  count_large : (cur : List ℕ) (b : ℕ) → is_digit b ≡ true → 2 ^ 32 ≤ value cur * 10 + (b - 48) → count_of (count_at cur) (so_far cur) b ≡ failed (count_at cur)
  count_large cur b e h = rw (digit-past cur b e h)

  count-read : (q : List ℕ) → Free q → (cur : List ℕ) → every is_digit cur ≡ true → value cur < 2 ^ 32 → CountEnds (is_number (cur ++ q)) (turn_of (run (mem (Ok (count_at cur)) ps) q) 10)
  count-read [] free cur e h = rw (append-nil cur) (count-end cur e h)
  count-read (b ∷ q) free cur e h =
      rw (turn_byte (count_at cur) ps b free.0, count-byte cur b) (by (is_digit b) refl (ltb (value cur * 10 + (b - 48)) (2 ^ 32)) refl (count-read q free.1 (cur ++ b ∷ [])))
    where
      by : (t : Bool) → is_digit b ≡ t → (u : Bool) → ltb (value cur * 10 + (b - 48)) (2 ^ 32) ≡ u
          → (every is_digit (cur ++ b ∷ []) ≡ true → value (cur ++ b ∷ []) < 2 ^ 32 → CountEnds (is_number ((cur ++ b ∷ []) ++ q)) (turn_of (run (mem (Ok (count_at (cur ++ b ∷ []))) ps) q) 10))
          → CountEnds (is_number (cur ++ b ∷ q)) (turn_of (run (mem (count_of (count_at cur) (so_far cur) b) ps) q) 10)
      by false f u g next = rw (count-letter cur b f) (lost (is_number (cur ++ b ∷ q)) headed (count_at cur) ps q (number-letter cur b q f))
      by true f false g next =
          let j = ltb-false (value cur * 10 + (b - 48)) (2 ^ 32) g in
          rw (count_large cur b f j) (lost (is_number (cur ++ b ∷ q)) headed (count_at cur) ps q (number_large cur b q j))
      by true f true g next =
          let j = ltb-true (value cur * 10 + (b - 48)) (2 ^ 32) g in
          rw (count_next cur b f j, ← append_assoc cur (b ∷ []) q) (next (every_one_more is_digit cur b e f) (rw (value_one_more cur b) j))

  -- ---- a byte of the word before it
  word_read : (part : Part) (wanted : ℕ) (next : Part) (ws : List ℕ) → end_of (at_part part) ps ≡ mem (failed (at_part part)) ps → ((b : ℕ) → byte_of (at_part part) b ≡ word_of (at_part part) b wanted next)
      → ((q : List ℕ) → Free q → CountEnds (is_count ws q) (turn_of (run (mem (Ok (at_part next)) ps) q) 10))
      → (q : List ℕ) → Free q → CountEnds (is_count (wanted ∷ ws) q) (turn_of (run (mem (Ok (at_part part)) ps) q) 10)
  unfolding word_of
  word_read part wanted next ws fails goes rest [] free = rw (turn_end (at_part part) ps) (lost-end false headed (at_part part) ps refl fails)
  word_read part wanted next ws fails goes rest (b ∷ q) free = rw (turn_byte (at_part part) ps b free.0, goes b) (by (eqb b wanted))
    where
      by : (t : Bool) → CountEnds (t && is_count ws q) (turn_of (run (mem (cond t (Ok (at_part next)) (failed (at_part part))) ps) q) 10)
      by true = rest q free.1
      by false = lost false headed (at_part part) ps q refl

  pub after-o : (q : List ℕ) → Free q → CountEnds (is_count (107 ∷ 9 ∷ []) q) (turn_of (run (mem (Ok (at_part LetterO)) ps) q) 10)
  unfolding end_in byte_in
  after-o = word_read LetterO 107 Word (9 ∷ []) refl (λ b. refl) (word_read Word 9 (Count None) [] refl (λ b. refl) (λ q free. count-read q free [] refl (omega arith)))

-- ---- the first line of all
abbrev pub FirstEnds : Bool → List ℕ → List ℕ → Reader → Type 0
FirstEnds true l ps m = m ≡ headed 0 0 ps
FirstEnds false l ps m = ParcelEnds 0 0 ps l m

with-o : (t : Bool) (l ps : List ℕ) (m : Reader) → is_parcel l ≡ false → CountEnds 0 0 ps t m → FirstEnds t l ps m
with-o true l ps m e c = c
with-o false l ps m e c = rw e c

begins : (b : ℕ) → eqb b 111 ≡ true → byte_of (line_start 0 0) b ≡ Ok (at_part 0 0 [] LetterO)
unfolding byte_in begin_of
begins b e = rw e

pub first_read : (ps q : List ℕ) → Free q → FirstEnds (is_head q) q ps (turn_of (run (mem (Ok (line_start 0 0)) ps) q) 10)
unfolding is_head
first_read ps [] free = digits-end 0 0 ps [] (omega arith) refl
first_read ps (b ∷ q) free = rw (turn_byte (line_start 0 0) ps b free.0) (by (eqb b 111) refl (is_hex b) refl)
  where
    by : (t : Bool) → eqb b 111 ≡ t → (u : Bool) → is_hex b ≡ u → FirstEnds (t && is_count (107 ∷ 9 ∷ []) q) (b ∷ q) ps (turn_of (run (mem (byte_of (line_start 0 0) b) ps) q) 10)
    by true e u f = rw (begins b e) (with-o (is_count (107 ∷ 9 ∷ []) q) (b ∷ q) ps _ (no_parcel [] b q (ap is_hex (eqb-true b 111 e) ∙ o_no_hex)) (after-o 0 0 ps q free.1))
    by false e true f = rw (digit-next 0 0 ps [] b f (omega arith)) (digits-read 0 0 ps q free.1 (b ∷ []) (omega arith) (rw f) (omega arith))
    by false e false f =
        rw (digit-none 0 0 ps [] b f (omega arith) (λ z. absurd (true≢false (sym z ∙ e))))
        (lost (fits 0 0 ps (b ∷ q)) (filed 0 0 ps (b ∷ q)) (line_start 0 0) ps q (rw (no_parcel [] b q f)))
