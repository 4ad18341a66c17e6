-- Rows whose names stand in turn are read again from their lines, with the same names.
use mathlib.Core.Path.{◌≡◌, refl, sym, ap, ap₂, ◌∙◌}
use mathlib.Core.Bool.{Bool, true, false, cond}
use mathlib.Core.List.{List, [], ◌∷◌, ◌++◌, append-nil, append_assoc}
use Prim.Native.Nat.{ℕ, suc, ◌+◌, ◌^◌, ◌≤◌, ◌<◌}
use native.Mathlib.Omega.{arith}
use lib.ListN.{length, take, drop, length-append, take-append-drop}
use lib.Seq.{take-append_seam, drop-append_seam}
use lib.Dec.{eqb}
use borrow.Author.Tests.{lt-ltb, le-leb}
use Rattle.reader.specs.Lines.{lines, fields, Line, numbers, named, line_of, is_read_line, name_in, filled, row_in, fits, rows, said_from}
use Rattle.reader.specs.Steps.{name_at}
use Rattle.reader.proofs.Cuts.{lines_more}
use Rattle.row_lines.specs.RowText.{before, bare}
use Rattle.row_lines.proofs.Writing.{written-short}
use Rattle.row_lines.proofs.Again.{written-filled}
use Rattle.item_lines.specs.ItemText.{parted, item_line, item_lines}
use Rattle.item_lines.proofs.Lining.{label-line, jump-line, other-line}
use Rattle.item_lines.proofs.Parts.{Without, without_append, free, parted-line, Numbers, plain-read, named-read}

-- ---- a row, and its name, which stands after those before
pub data Item (past : List ℕ) : List ℕ → List ℕ → Type 0 where
  other : (k : ℕ) (ns : List ℕ) → length ns ≡ 16 → Numbers (k ∷ ns) → (k ≡ 48 → ⊥) → (k ≡ 49 → ⊥) → Item past (k ∷ ns) []
  label : (name : List ℕ) → Without 9 name → Without 10 name → Item past (filled (48 ∷ length past ∷ length name ∷ [])) name
  jump : (c : ℕ) (name : List ℕ) → c < 2 ^ 32 → Without 9 name → Without 10 name → Item past (filled (49 ∷ c ∷ length past ∷ length name ∷ [])) name

-- what its line is, and what the reader takes this for
record Shown (names past row name : List ℕ) : Type 0 where
  text : List ℕ
  here : item_line names row ≡ text ++ 10 ∷ []
  line : Without 10 text
  told : Line
  read : line_of (fields text) ≡ told
  good : is_read_line told ≡ true
  whole : row_in (length past) told ≡ row
  bytes : name_in told ≡ name

numbers-bare : (ns : List ℕ) → Numbers ns → Numbers (bare ns)
numbers-bare [] h = tt
numbers-bare (n ∷ ns) h = by (bare ns) (numbers-bare ns h.1)
  where
    one : (t : Bool) → Numbers (cond t [] (n ∷ []))
    one true = tt
    one false = (h.0, tt)

    by : (l : List ℕ) → Numbers l → Numbers (before n l)
    by [] g = one (eqb n 0)
    by (m ∷ l) g = (h.0, g)

other-shown : (names past : List ℕ) (k : ℕ) (ns : List ℕ) → length ns ≡ 16 → Numbers (k ∷ ns) → (k ≡ 48 → ⊥) → (k ≡ 49 → ⊥) → Shown names past (k ∷ ns) []
other-shown names past k ns e h f g =
    record {
      text = parted (k ∷ bare ns);
      here = sym (other-line names (k ∷ ns) f g);
      line = parted-line (k ∷ bare ns);
      told = numbers (k ∷ bare ns);
      read = plain-read k (bare ns) (h.0, numbers-bare ns h.1) f g (omega (arith, written-short (k ∷ ns), e));
      good = refl;
      whole = let z : length (k ∷ ns) ≡ 17 = omega (arith, e) in rw z at (written-filled (k ∷ ns));
      bytes = refl;
    }

module _ (past name more : List ℕ) where
  taken : take (length name) (drop (length past) (past ++ (name ++ more))) ≡ name
  taken = ap (take (length name)) (drop-append_seam past (name ++ more)) ∙ take-append_seam name more

  named-text : (ns : List ℕ) → parted ns ++ 9 ∷ [] ++ take (length name) (drop (length past) (past ++ (name ++ more))) ++ 10 ∷ [] ≡ (parted ns ++ 9 ∷ name) ++ 10 ∷ []
  named-text ns = ap (λ (l : List ℕ). l ++ 10 ∷ []) (ap (λ (l : List ℕ). parted ns ++ 9 ∷ [] ++ l) taken ∙ append_assoc (parted ns) (9 ∷ []) name)

  named-line : (ns : List ℕ) → Without 10 name → Without 10 (parted ns ++ 9 ∷ name)
  named-line ns w = without_append 10 (parted ns) (9 ∷ name) (parted-line ns) (refl, w)

  label-shown : Without 9 name → Without 10 name → Shown (past ++ (name ++ more)) past (filled (48 ∷ length past ∷ length name ∷ [])) name
  unfolding name_at
  label-shown v w =
      record {
        text = parted (48 ∷ []) ++ 9 ∷ name;
        here = sym (label-line (past ++ (name ++ more)) (filled (48 ∷ length past ∷ length name ∷ [])) refl) ∙ named-text (48 ∷ []);
        line = named-line (48 ∷ []) w;
        told = named (48 ∷ []) name;
        read = named-read 48 [] name (omega arith, tt) refl (omega arith) v;
        good = refl;
        whole = refl;
        bytes = refl;
      }

  jump-shown : (c : ℕ) → c < 2 ^ 32 → Without 9 name → Without 10 name → Shown (past ++ (name ++ more)) past (filled (49 ∷ c ∷ length past ∷ length name ∷ [])) name
  unfolding name_at
  jump-shown c h v w =
      record {
        text = parted (49 ∷ c ∷ []) ++ 9 ∷ name;
        here = sym (jump-line (past ++ (name ++ more)) (filled (49 ∷ c ∷ length past ∷ length name ∷ [])) (λ e. omega arith) refl) ∙ named-text (49 ∷ c ∷ []);
        line = named-line (49 ∷ c ∷ []) w;
        told = named (49 ∷ c ∷ []) name;
        read = named-read 49 (c ∷ []) name (omega arith, (h, tt)) refl (omega arith) v;
        good = refl;
        whole = refl;
        bytes = refl;
      }

shown : (past more : List ℕ) {row name : List ℕ} → Item past row name → Shown (past ++ (name ++ more)) past row name
shown past more (other k ns e h f g) = other-shown (past ++ more) past k ns e h f g
shown past more (label name v w) = label-shown past name more v w
shown past more (jump c name h v w) = jump-shown past name more c h v w

-- ---- n rows, whose names in turn are `rest` after those before
pub data InTurn : ℕ → List ℕ → List ℕ → List ℕ → Type 0 where
  none : (past : List ℕ) → InTurn 0 [] past []
  next : (n : ℕ) (rs past name more : List ℕ) → Item past (take 17 rs) name → InTurn n (drop 17 rs) (past ++ name) more → InTurn (suc n) rs past (name ++ more)

fitting : (i : ℕ) (past : List ℕ) (l : Line) → is_read_line l ≡ true → i < 512 → length past + length (name_in l) ≤ 2048 → fits i past l ≡ true
unfolding fits
fitting i past l e h k = rw (e, lt-ltb i 512 h, le-leb (length past + length (name_in l)) 2048 k)

one_line : (i : ℕ) (done past text : List ℕ) (ls : List (List ℕ)) (l : Line) → line_of (fields text) ≡ l → fits i past l ≡ true → said_from i done past (text ∷ ls) ≡ said_from (i + 1) (done ++ row_in (length past) l) (past ++ name_in l) ls
one_line i done past text ls l e f = rw (e, f)

pub read_again : {n : ℕ} {rs past rest : List ℕ} → InTurn n rs past rest → (i : ℕ) (done : List ℕ) → i + n ≤ 512 → length (past ++ rest) ≤ 2048
    → said_from i done past (lines (item_lines (past ++ rest) n rs)) ≡ rows (done ++ rs) (past ++ rest)
read_again (none past) i done h k = rw (append-nil done, append-nil past)
read_again (next n rs past name more item turn) i done h k =
    let s = shown past more item in
    let names = past ++ (name ++ more) in
    let long : length names ≡ length past + (length name + length more) = length-append past (name ++ more) ∙ ap (λ (j : ℕ). length past + j) (length-append name more) in
    let f : fits i past s.told ≡ true = fitting i past s.told s.good (omega arith) (rw s.bytes (omega (arith, long))) in
    ap (said_from i done past) (ap lines (ap (λ (l : List ℕ). l ++ item_lines names n (drop 17 rs)) s.here ∙ append_assoc s.text (10 ∷ []) (item_lines names n (drop 17 rs))) ∙ lines_more s.text (item_lines names n (drop 17 rs)) (free s.text s.line))
    ∙ one_line i done past s.text (lines (item_lines names n (drop 17 rs))) s.told s.read f
    ∙ ap₂ (λ (r b : List ℕ). said_from (i + 1) (done ++ r) (past ++ b) (lines (item_lines names n (drop 17 rs)))) s.whole s.bytes
    ∙ ap (λ (l : List ℕ). said_from (i + 1) (done ++ take 17 rs) (past ++ name) (lines (item_lines l n (drop 17 rs)))) (sym (append_assoc past name more))
    ∙ read_again turn (i + 1) (done ++ take 17 rs) (omega arith) (rw (append_assoc past name more) k)
    ∙ ap₂ rows (append_assoc done (take 17 rs) (drop 17 rs) ∙ ap (λ (l : List ℕ). done ++ l) (take-append-drop 17 rs)) (append_assoc past name more)
