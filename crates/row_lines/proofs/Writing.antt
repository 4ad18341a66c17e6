-- The numbers of a row that are written, and lines put one after the other.
use mathlib.Core.Path.{◌≡◌, refl, sym, ap, ◌∙◌}
use mathlib.Core.Bool.{Bool, true, false, cond}
use mathlib.Core.List.{List, [], ◌∷◌, ◌++◌, append-nil, append_assoc}
use Prim.Native.Nat.{ℕ, suc, ◌+◌, ◌-◌, ◌*◌, ◌≤◌, ◌<◌}
use native.Mathlib.Omega.{arith}
use native.Mathlib.Numerals.{add-one}
use lib.ListN.{length, get_or, take, drop, length-append, length-take, length-drop}
use lib.Seq.{take-suc, take_all, length-take-le, drop-drop}
use lib.Dec.{eqb}
use borrow.Author.Tests.{ne_eqb}
use Rattle.text.specs.declared.Text.{Text}
use Rattle.text.specs.Text.{decimal, each, ok, Puts}
use Rattle.text.proofs.Decimals.{decimal-short}
use Rattle.text.proofs.Putting.{puts_none, puts_then, Putting}
use Rattle.row_lines.specs.RowText.{before, bare, written, field, row_line, row_lines, rows_text, Prints}

-- ---- one number more at the end
pub bare_zero : (l : List ℕ) → bare (l ++ 0 ∷ []) ≡ bare l
bare_zero [] = refl
bare_zero (n ∷ l) = ap (before n) (bare_zero l)

before-some : (n : ℕ) (l : List ℕ) (a : ℕ) → before n (l ++ a ∷ []) ≡ n ∷ l ++ a ∷ []
before-some n [] a = refl
before-some n (m ∷ l) a = refl

pub bare-some : (l : List ℕ) (a : ℕ) → (a ≡ 0 → ⊥) → bare (l ++ a ∷ []) ≡ l ++ a ∷ []
bare-some [] a h = rw (ne_eqb a 0 h)
bare-some (n ∷ l) a h = ap (before n) (bare-some l a h) ∙ before-some n l a

-- ---- how long their text is
pub field-short : (n : ℕ) → length (field n) ≤ 21
field-short n = omega (arith, decimal-short n)

pub fields-short : (ns : List ℕ) → length (each field ns) ≤ 21 * length ns
fields-short [] = omega arith
fields-short (n ∷ ns) = omega (arith, length-append (field n) (each field ns), field-short n, fields-short ns)

pub fields-place : {t u : Text} {ns : List ℕ} {i : ℕ} → Putting field t ns i u → u.at ≤ t.at + 21 * i
fields-place {ns = ns} {i = i} g = omega (arith, g.here.after, fields-short (take i ns), length-take-le i ns g.within)

pub line-short : (p : ℕ) (row : List ℕ) → length (written row) ≤ 17 → length (row_line p row) ≤ 378
unfolding row_line
line-short p row h = omega (arith, length-append (decimal p ++ each field (written row)) (10 ∷ []), length-append (decimal p) (each field (written row)), decimal-short p, fields-short (written row))

bare-short : (ns : List ℕ) → length (bare ns) ≤ length ns
bare-short [] = omega arith
bare-short (n ∷ ns) = by (bare ns) (bare-short ns)
  where
    zero_or : (t : Bool) → length (cond t [] (n ∷ [])) ≤ 1
    zero_or true = omega arith
    zero_or false = omega arith

    by : (l : List ℕ) → length l ≤ length ns → length (before n l) ≤ suc (length ns)
    by [] h = omega (arith, zero_or (eqb n 0))
    by (m ∷ l) h = omega arith

pub written-short : (row : List ℕ) → length (written row) ≤ length row
written-short [] = omega arith
written-short (k ∷ ns) = omega (arith, bare-short ns)

-- ---- the loop that puts the lines
-- a row is the part of the rows between its ends
pub width : (i : ℕ) → 17 * i + 17 - 17 * i ≡ 17
width i = omega arith

pub row-long : (rows : List ℕ) (i : ℕ) → 17 * i + 17 ≤ length rows → length (take (17 * i + 17 - 17 * i) (drop (17 * i) rows)) ≡ 17
row-long rows i h = rw (width i) (length-take-le 17 (drop (17 * i) rows) (omega (arith, length-drop (17 * i) rows)))

lines-append : (ps qs rows : List ℕ) → row_lines (ps ++ qs) rows ≡ row_lines ps rows ++ row_lines qs (drop (17 * length ps) rows)
lines-append [] qs rows = refl
lines-append (p ∷ ps) qs rows =
    ap (λ (l : List ℕ). row_line p (take 17 rows) ++ l) (lines-append ps qs (drop 17 rows) ∙ ap (λ (l : List ℕ). row_lines ps (drop 17 rows) ++ row_lines qs l) further)
    ∙ sym (append_assoc (row_line p (take 17 rows)) (row_lines ps (drop 17 rows)) (row_lines qs (drop (17 * suc (length ps)) rows)))
  where
    further : drop (17 * length ps) (drop 17 rows) ≡ drop (17 * suc (length ps)) rows
    further = let e : 17 + 17 * length ps ≡ 17 * suc (length ps) = omega arith in drop-drop (17 * length ps) 17 rows ∙ ap (λ (k : ℕ). drop k rows) e

lines-short : (ps rows : List ℕ) → length (row_lines ps rows) ≤ 378 * length ps
lines-short [] rows = omega arith
lines-short (p ∷ ps) rows =
    omega (
      arith,
      length-append (row_line p (take 17 rows)) (row_lines ps (drop 17 rows)),
      line-short p (take 17 rows) (omega (arith, written-short (take 17 rows), length-take 17 rows)),
      lines-short ps (drop 17 rows),
    )

-- the lines of the first i places
pub record Lining (t : Text) (places rows : List ℕ) (i : ℕ) (u : Text) : Type 0 where
  pub within : i ≤ length places
  pub here : Puts t (row_lines (take i places) rows) u

module _ (t : Text) (places rows : List ℕ) where
  pub lining_start : Lining t places rows 0 t
  lining_start = record { within = omega arith; here = puts_none t }

  pub lining_next : (i : ℕ) {u : Text} → Lining t places rows i u → i < length places
      → {v : Text} → Puts u (row_line (get_or places i 0) (take 17 (drop (17 * i) rows))) v → Lining t places rows (i + 1) v
  lining_next i g h p =
      record {
        within = omega arith;
        here = rw (add-one, take-suc places i 0 h, lines-append (take i places) (get_or places i 0 ∷ []) rows, length-take-le i places g.within, append-nil (row_line (get_or places i 0) (take 17 (drop (17 * i) rows)))) (puts_then g.here p);
      }

  pub lining_end : (i : ℕ) {u : Text} → Lining t places rows i u → length places ≤ i → Puts t (row_lines places rows) u
  lining_end i g h = rw (take_all i places h) at g.here

  pub lining_place : (i : ℕ) {u : Text} → Lining t places rows i u → u.at ≤ t.at + 378 * i
  lining_place i g = omega (arith, g.here.after, lines-short (take i places) rows, length-take-le i places g.within)

pub rows_short : (n : ℕ) (places rows : List ℕ) → length (rows_text n places rows) ≤ 24 + 378 * length places
rows_short n places rows =
    omega (
      arith,
      length-append (ok ++ decimal n ++ 10 ∷ []) (row_lines places rows),
      length-append (ok ++ decimal n) (10 ∷ []),
      decimal-short n,
      lines-short places rows,
    )

-- at the front of a buffer nothing stands before it
pub prints : {t u : Text} {text : List ℕ} → Puts t text u → t.at ≡ 0 → length text ≤ length t.out.now → Prints text u.out.now u.at
prints p z h = record { front = p.front ∙ rw z; within = omega (arith, p.after, p.long) }

pub ruleset shorts = (fields-short, written-short, length-take)
