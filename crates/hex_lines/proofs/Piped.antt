-- What the bench program prints of an accepted list is read as the parcels that it printed.
use mathlib.Core.Path.{◌≡◌, refl, sym, ap, ◌∙◌}
use mathlib.Core.Bool.{Bool, true, false, cond}
use mathlib.Core.List.{List, [], ◌∷◌, ◌++◌, append-nil, append_assoc}
use Prim.Native.Nat.{ℕ, zero, suc, ◌+◌, ◌-◌, ◌/◌, ◌%◌, ◌^◌, ◌≤◌, ◌<◌}
use native.Mathlib.Nat.{pow-suc}
use native.Mathlib.Omega.{arith}
use lib.ListN.{length, length-append}
use lib.Dec.{ltb, eqb}
use borrow.Author.Tests.{lt-ltb, ne_eqb, ltb-true, ltb-false}
use Rattle.io.specs.Digits.{hex_digit_ascii, last_digits}
use Rattle.text.specs.Text.{decimal_below, decimal, parcel_line, each, ok, ok_text}
use Rattle.reader.specs.Lines.{lines, is_digit, every, value}
use Rattle.reader.proofs.Conds.{cond_keeps, digit-yes}
use Rattle.reader.proofs.Cuts.{Free, lines_more}
use Rattle.reader.proofs.Values.{every_one_more, value_one_more, number-yes}
use Rattle.hex_lines.specs.Parcels.{hex_value, is_hex, is_parcel, parcel_of, is_head, parcels, said_from, said_lines, said}
use Rattle.hex_lines.proofs.Ranges.{inside, above, hex}

-- ---- a decimal is a number
low_glyph : (d : ℕ) → d < 10 → hex_digit_ascii d ≡ 48 + d
low_glyph d h = rw (lt-ltb d 10 h)

digit_glyph : (d : ℕ) → d < 10 → is_digit (hex_digit_ascii d) ≡ true
digit_glyph d h = rw (low_glyph d h) (digit-yes (48 + d) (omega arith) (omega arith))

glyph_value : (d : ℕ) → d < 10 → hex_digit_ascii d - 48 ≡ d
glyph_value d h = rw (low_glyph d h) (omega arith)

pub record Number (l : List ℕ) (n : ℕ) : Type 0 where
  pub some : 0 < length l
  pub all : every is_digit l ≡ true
  pub same : value l ≡ n

decimal-number : (k n : ℕ) → n < 10 ^ k → 0 < k → Number (decimal_below k n) n
decimal-number zero n h p = absurd (omega arith)
decimal-number (suc k) n h p = by (ltb n 10) refl (decimal-number k (n / 10) (omega (arith, h, pow-suc 10 k)))
  where
    few : (k : ℕ) → n < 10 ^ suc k → 10 ≤ n → 0 < k
    few zero h j = absurd (omega arith)
    few (suc k) h j = omega arith

    by : (t : Bool) → ltb n 10 ≡ t → (0 < k → Number (decimal_below k (n / 10)) (n / 10)) → Number (cond t (hex_digit_ascii n ∷ []) (decimal_below k (n / 10) ++ hex_digit_ascii (n % 10) ∷ [])) n
    by true e more = let j = ltb-true n 10 e in record { some = omega arith; all = rw (digit_glyph n j); same = value_one_more [] (hex_digit_ascii n) ∙ rw (glyph_value n j) (omega arith) }
    by false e more =
        let m = more (few k h (ltb-false n 10 e)) in
        record {
          some = rw (length-append (decimal_below k (n / 10)) (hex_digit_ascii (n % 10) ∷ [])) (omega arith);
          all = every_one_more is_digit (decimal_below k (n / 10)) (hex_digit_ascii (n % 10)) m.all (digit_glyph (n % 10) (omega arith));
          same = value_one_more (decimal_below k (n / 10)) (hex_digit_ascii (n % 10)) ∙ rw (m.same, glyph_value (n % 10) (omega arith)) (omega arith);
        }

pub number-decimal : (n : ℕ) → n < 2 ^ 32 → Number (decimal n) n
unfolding decimal
number-decimal n h = decimal-number 20 n (omega arith) (omega arith)

head_line : (n : ℕ) → n < 2 ^ 32 → is_head (ok ++ decimal n) ≡ true
unfolding is_head
head_line n h = let m = number-decimal n h in number-yes (decimal n) m.some m.all (rw m.same h)

-- ---- four hex digits are a parcel
hex_glyph : (d : ℕ) → d < 16 → hex_value (hex_digit_ascii d) ≡ d
unfolding hex_value
hex_glyph d h = by (ltb d 10) refl
  where
    by : (t : Bool) → ltb d 10 ≡ t → hex_value (cond t (48 + d) (87 + d)) ≡ d
    by true e = let j = ltb-true d 10 e in rw (inside 48 57 (48 + d) (omega arith) (omega arith)) (omega arith)
    by false e =
        let j = ltb-false d 10 e in
        rw (above 48 57 (87 + d) (omega arith), above 65 70 (87 + d) (omega arith), inside 97 102 (87 + d) (omega arith) (omega arith)) (omega arith)

is-hex : (d : ℕ) → d < 16 → is_hex (hex_digit_ascii d) ≡ true
is-hex d h = hex (hex_digit_ascii d) (sym (hex_glyph d h)) h

parcel_line_lem : (p : ℕ) → is_parcel (last_digits 16 4 p) ≡ true
unfolding is_parcel
parcel_line_lem p =
    rw (is-hex (p / 16 / 16 / 16 % 16) (omega arith), is-hex (p / 16 / 16 % 16) (omega arith), is-hex (p / 16 % 16) (omega arith), is-hex (p % 16) (omega arith))

parcel_value : (p : ℕ) → p < 2 ^ 16 → parcel_of (last_digits 16 4 p) ≡ p
parcel_value p h =
    rw (hex_glyph (p / 16 / 16 / 16 % 16) (omega arith), hex_glyph (p / 16 / 16 % 16) (omega arith), hex_glyph (p / 16 % 16) (omega arith), hex_glyph (p % 16) (omega arith))
    (omega arith)

-- ---- neither holds byte 10
later : (b : ℕ) → 10 < b → eqb b 10 ≡ false
later b h = ne_eqb b 10 (λ e. omega arith)

glyph_later : (d : ℕ) → eqb (hex_digit_ascii d) 10 ≡ false
glyph_later d = cond_keeps (λ (b : ℕ). eqb b 10 ≡ false) (ltb d 10) (48 + d) (87 + d) (λ _. later (48 + d) (omega arith)) (λ _. later (87 + d) (omega arith))

free-append : (l m : List ℕ) → Free l → Free m → Free (l ++ m)
free-append [] m f g = g
free-append (b ∷ l) m f g = (f.0, free-append l m f.1 g)

decimal-free : (k n : ℕ) → Free (decimal_below k n)
decimal-free zero n = tt
decimal-free (suc k) n =
    cond_keeps Free (ltb n 10) (hex_digit_ascii n ∷ []) (decimal_below k (n / 10) ++ hex_digit_ascii (n % 10) ∷ []) (λ _. (glyph_later n, tt))
    (λ _. free-append (decimal_below k (n / 10)) (hex_digit_ascii (n % 10) ∷ []) (decimal-free k (n / 10)) (glyph_later (n % 10), tt))

head_free : (n : ℕ) → Free (ok ++ decimal n)
unfolding decimal
head_free n = free-append ok (decimal n) (refl, (refl, (refl, tt))) (decimal-free 20 n)

parcel_free : (p : ℕ) → Free (last_digits 16 4 p)
parcel_free p = (glyph_later (p / 16 / 16 / 16 % 16), (glyph_later (p / 16 / 16 % 16), (glyph_later (p / 16 % 16), (glyph_later (p % 16), tt))))

-- ---- the lines in turn
abbrev pub Parcels : List ℕ → Type 0
Parcels [] = Unit {0}
Parcels (p ∷ ps) = (p < 2 ^ 16) × Parcels ps

filed : (l : List ℕ) (p : ℕ) (ls : List (List ℕ)) (i : ℕ) (done : List ℕ) → is_parcel l ≡ true → parcel_of l ≡ p → length done < 3072 → said_from i done (l ∷ ls) ≡ said_from (i + 1) (done ++ p ∷ []) ls
filed l p ls i done e f h = rw (e, f, lt-ltb (length done) 3072 h)

passed_over : (l : List ℕ) (ls : List (List ℕ)) → is_head l ≡ true → said_lines (l ∷ ls) ≡ said_from 1 [] ls
passed_over l ls e = rw e

read-on : (i : ℕ) (done ps : List ℕ) → Parcels ps → length done + length ps ≤ 3072 → said_from i done (lines (each parcel_line ps)) ≡ parcels (done ++ ps)
unfolding parcel_line
read-on i done [] f h = rw (append-nil done)
read-on i done (p ∷ ps) f h =
    ap (said_from i done) (lines_more (last_digits 16 4 p) (each parcel_line ps) (parcel_free p))
    ∙ filed (last_digits 16 4 p) p (lines (each parcel_line ps)) i done (parcel_line_lem p) (parcel_value p f.0) (omega arith)
    ∙ read-on (i + 1) (done ++ p ∷ []) ps f.1 (rw (length-append done (p ∷ [])) (omega arith))
    ∙ ap parcels (append_assoc done (p ∷ []) ps)

pub piped : (n : ℕ) (ps : List ℕ) → n < 2 ^ 32 → Parcels ps → length ps ≤ 3072 → said (ok_text n ps) ≡ parcels ps
piped n ps h f k =
    ap said (append_assoc (ok ++ decimal n) (10 ∷ []) (each parcel_line ps))
    ∙ ap said_lines (lines_more (ok ++ decimal n) (each parcel_line ps) (head_free n))
    ∙ passed_over (ok ++ decimal n) (lines (each parcel_line ps)) (head_line n h)
    ∙ read-on 1 [] ps f (omega arith)
