-- The fields of a printed line are the numbers, and the name, that it was printed of.
use mathlib.Core.Path.{◌≡◌, refl, ap, ap₂, ◌∙◌}
use mathlib.Core.Bool.{true, false}
use mathlib.Core.List.{List, [], ◌∷◌, ◌++◌, map, append-nil, append_assoc}
use Prim.Native.Nat.{ℕ, zero, suc, ◌+◌, ◌/◌, ◌%◌, ◌^◌, ◌≤◌, ◌<◌}
use native.Mathlib.Omega.{arith}
use lib.ListN.{length, length-map}
use lib.Dec.{ltb, eqb}
use borrow.Author.Tests.{ne_eqb}
use Rattle.io.specs.Digits.{hex_digit_ascii}
use Rattle.text.specs.Text.{decimal_below, decimal, each}
use Rattle.reader.specs.Lines.{fields, every, value, is_number, numbers, named, line_of}
use Rattle.reader.specs.Steps.{name_at}
use Rattle.reader.proofs.Conds.{cond_keeps}
use Rattle.reader.proofs.Cuts.{Free}
use Rattle.reader.proofs.Values.{number-yes}
use Rattle.reader.proofs.Readable.{read_plain, read_named}
use Rattle.hex_lines.proofs.Piped.{number-decimal}
use Rattle.row_lines.specs.RowText.{field}
use Rattle.item_lines.specs.ItemText.{parted}

-- ---- bytes among which one is not
abbrev pub Without : ℕ → List ℕ → Type 0
Without c [] = Unit {0}
Without c (b ∷ l) = (eqb b c ≡ false) × Without c l

pub without_append : (c : ℕ) (l m : List ℕ) → Without c l → Without c m → Without c (l ++ m)
without_append c [] m f g = g
without_append c (b ∷ l) m f g = (f.0, without_append c l m f.1 g)

pub free : (l : List ℕ) → Without 10 l → Free l
free [] f = tt
free (b ∷ l) f = (f.0, free l f.1)

module _ (c : ℕ) (low : c < 48) where
  glyph_apart : (d : ℕ) → eqb (hex_digit_ascii d) c ≡ false
  glyph_apart d = cond_keeps (λ (b : ℕ). eqb b c ≡ false) (ltb d 10) (48 + d) (87 + d) (λ _. ne_eqb (48 + d) c (λ e. omega arith)) (λ _. ne_eqb (87 + d) c (λ e. omega arith))

  below_without : (k n : ℕ) → Without c (decimal_below k n)
  below_without zero n = tt
  below_without (suc k) n =
      cond_keeps (Without c) (ltb n 10) (hex_digit_ascii n ∷ []) (decimal_below k (n / 10) ++ hex_digit_ascii (n % 10) ∷ []) (λ _. (glyph_apart n, tt))
      (λ _. without_append c (decimal_below k (n / 10)) (hex_digit_ascii (n % 10) ∷ []) (below_without k (n / 10)) (glyph_apart (n % 10), tt))

  pub decimal_without : (n : ℕ) → Without c (decimal n)
  unfolding decimal
  decimal_without n = below_without 20 n

each_line : (ns : List ℕ) → Without 10 (each field ns)
each_line [] = tt
each_line (n ∷ ns) = without_append 10 (field n) (each field ns) (refl, decimal_without 10 (omega arith) n) (each_line ns)

pub parted-line : (ns : List ℕ) → Without 10 (parted ns)
parted-line [] = tt
parted-line (n ∷ ns) = without_append 10 (decimal n) (each field ns) (decimal_without 10 (omega arith) n) (each_line ns)

-- ---- fields parted by tabs
pub fields-last : (f : List ℕ) → Without 9 f → fields f ≡ f ∷ []
fields-last [] w = refl
fields-last (b ∷ f) w = rw (w.0, fields-last f w.1)

pub fields-more : (f rest : List ℕ) → Without 9 f → fields (f ++ 9 ∷ rest) ≡ f ∷ fields rest
fields-more [] rest w = refl
fields-more (b ∷ f) rest w = rw (w.0, fields-more f rest w.1)

no_tab : (n : ℕ) → Without 9 (decimal n)
no_tab n = decimal_without 9 (omega arith) n

fields-parted : (n : ℕ) (ns : List ℕ) → fields (parted (n ∷ ns)) ≡ map decimal (n ∷ ns)
fields-parted n [] = ap fields (append-nil (decimal n)) ∙ fields-last (decimal n) (no_tab n)
fields-parted n (m ∷ ns) = fields-more (decimal n) (parted (m ∷ ns)) (no_tab n) ∙ ap (λ (fs : List (List ℕ)). decimal n ∷ fs) (fields-parted m ns)

fields-named : (n : ℕ) (ns name : List ℕ) → Without 9 name → fields (parted (n ∷ ns) ++ 9 ∷ name) ≡ map decimal (n ∷ ns) ++ name ∷ []
fields-named n [] name w = ap (λ (l : List ℕ). fields (l ++ 9 ∷ name)) (append-nil (decimal n)) ∙ fields-more (decimal n) name (no_tab n) ∙ ap (λ (fs : List (List ℕ)). decimal n ∷ fs) (fields-last name w)
fields-named n (m ∷ ns) name w =
    ap fields (append_assoc (decimal n) (9 ∷ parted (m ∷ ns)) (9 ∷ name)) ∙ fields-more (decimal n) (parted (m ∷ ns) ++ 9 ∷ name) (no_tab n)
    ∙ ap (λ (fs : List (List ℕ)). decimal n ∷ fs) (fields-named m ns name w)

-- ---- numbers below 2^32
abbrev pub Numbers : List ℕ → Type 0
Numbers [] = Unit {0}
Numbers (n ∷ ns) = (n < 2 ^ 32) × Numbers ns

is-number : (n : ℕ) → n < 2 ^ 32 → is_number (decimal n) ≡ true
is-number n h = let m = number-decimal n h in number-yes (decimal n) m.some m.all (rw m.same h)

are_numbers : (ns : List ℕ) → Numbers ns → every is_number (map decimal ns) ≡ true
are_numbers [] h = refl
are_numbers (n ∷ ns) h = rw (is-number n h.0, are_numbers ns h.1)

values : (ns : List ℕ) → Numbers ns → map value (map decimal ns) ≡ ns
values [] h = refl
values (n ∷ ns) h = ap₂ (λ (a : ℕ) (l : List ℕ). a ∷ l) (number-decimal n h.0).same (values ns h.1)

-- ---- what the reader takes a line for
no_name : (k : ℕ) → (k ≡ 48 → ⊥) → (k ≡ 49 → ⊥) → name_at k ≡ 17
unfolding name_at
no_name k e f = rw (ne_eqb k 48 e, ne_eqb k 49 f)

pub plain-read : (k : ℕ) (ns : List ℕ) → Numbers (k ∷ ns) → (k ≡ 48 → ⊥) → (k ≡ 49 → ⊥) → length ns ≤ 16 → line_of (fields (parted (k ∷ ns))) ≡ numbers (k ∷ ns)
plain-read k ns h e f few =
    ap line_of (fields-parted k ns)
    ∙ read_plain (map decimal (k ∷ ns)) (rw (number-decimal k h.0).same (no_name k e f)) (rw (length-map (k ∷ ns) decimal) (omega arith)) (are_numbers (k ∷ ns) h)
    ∙ ap numbers (values (k ∷ ns) h)

pub named-read : (k : ℕ) (ns name : List ℕ) → Numbers (k ∷ ns) → name_at k ≡ length (k ∷ ns) → length ns ≤ 1 → Without 9 name → line_of (fields (parted (k ∷ ns) ++ 9 ∷ name)) ≡ named (k ∷ ns) name
named-read k ns name h e few w =
    ap line_of (fields-named k ns name w)
    ∙ read_named (map decimal (k ∷ ns)) name (rw ((number-decimal k h.0).same, length-map (k ∷ ns) decimal) e) (rw (length-map (k ∷ ns) decimal) (omega arith)) (are_numbers (k ∷ ns) h)
    ∙ ap (λ (l : List ℕ). named l name) (values (k ∷ ns) h)
