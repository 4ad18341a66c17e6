-- The numbers and the name of a line, and lines put one after the other.
use mathlib.Core.Path.{◌≡◌, refl, sym, ap, ◌∙◌}
use mathlib.Core.Bool.{cond}
use mathlib.Core.List.{List, [], ◌∷◌, ◌++◌, append-nil, append_assoc}
use Prim.Native.Nat.{ℕ, zero, suc, ◌+◌, ◌*◌, ◌≤◌, ◌<◌}
use native.Mathlib.Omega.{arith}
use native.Mathlib.Nat.{zero-mul, suc-mul}
use lib.ListN.{length, get_or, take, drop, length-append, length-take, length-drop}
use lib.Seq.{drop-drop, take-take, take_at, drop_at, length-take-le}
use lib.Dec.{eqb}
use borrow.Author.Tests.{eq-eqb, ne_eqb}
use denote.Ref.{Bor}
use Rattle.std.specs.Prelude.{Some}
use Rattle.std.specs.declared.slice.ChunksExact.{ChunksExact}
use Rattle.std.specs.Slice.Iter.{chunks_exact_rest, chunks_exact_size, chunks_exact_steps}
use Rattle.std.proofs.lemmas.List.{drop-take}
use Rattle.text.specs.declared.Text.{Text}
use Rattle.text.specs.Text.{decimal, each, Puts}
use Rattle.text.proofs.Decimals.{decimal-short}
use Rattle.text.proofs.Putting.{puts_none, puts_then}
use Rattle.reader.proofs.Conds.{cond_keeps}
use Rattle.row_lines.specs.RowText.{written, field, Prints}
use Rattle.row_lines.proofs.Writing.{fields-short, written-short, prints}
use Rattle.item_lines.specs.ItemText.{parted, plain_line, named_line, item_line, lines_of, item_lines}

-- ---- a line's numbers
pub parted-short : (ns : List ℕ) → length (parted ns) ≤ 21 * length ns
parted-short [] = omega arith
parted-short (n ∷ ns) = omega (arith, length-append (decimal n) (each field ns), decimal-short n, fields-short ns)

-- ---- a name, as far as the names hold it
pub name-short : (names : List ℕ) (start size : ℕ) → length (take size (drop start names)) ≤ length names
name-short names start size = omega (arith, length-take size (drop start names), length-drop start names)

-- ---- how long a line is
named-short : (n : ℕ) (names row : List ℕ) → n ≤ 2 → length (named_line n names row) ≤ 44 + length names
named-short n names row h =
    let name = take (get_or row (n + 1) 0) (drop (get_or row n 0) names) in
    omega (
      arith,
      length-append (parted (take n row) ++ 9 ∷ [] ++ name) (10 ∷ []),
      length-append (parted (take n row) ++ 9 ∷ []) name,
      length-append (parted (take n row)) (9 ∷ []),
      parted-short (take n row),
      length-take n row,
      name-short names (get_or row n 0) (get_or row (n + 1) 0),
    )

plain-short : (row : List ℕ) → length row ≤ 17 → length (plain_line row) ≤ 358
plain-short row h = omega (arith, length-append (parted (written row)) (10 ∷ []), parted-short (written row), written-short row)

abbrev Short : List ℕ → Type 0
Short l = length l ≤ 2406

pub item-short : (names : List ℕ) → length names ≤ 2048 → (row : List ℕ) → length row ≤ 17 → length (item_line names row) ≤ 2406
unfolding item_line
item-short names k row h =
    cond_keeps Short (eqb (get_or row 0 0) 48) (named_line 1 names row) (cond (eqb (get_or row 0 0) 49) (named_line 2 names row) (plain_line row)) (λ _. omega (arith, named-short 1 names row (omega arith)))
    (λ _. cond_keeps Short (eqb (get_or row 0 0) 49) (named_line 2 names row) (plain_line row) (λ _. omega (arith, named-short 2 names row (omega arith))) (λ _. omega (arith, plain-short row h)))

-- ---- which line it is
pub label-line : (names row : List ℕ) → get_or row 0 0 ≡ 48 → named_line 1 names row ≡ item_line names row
unfolding item_line
label-line names row e = rw (eq-eqb (get_or row 0 0) 48 e)

pub jump-line : (names row : List ℕ) → (get_or row 0 0 ≡ 48 → ⊥) → get_or row 0 0 ≡ 49 → named_line 2 names row ≡ item_line names row
unfolding item_line
jump-line names row n e = rw (ne_eqb (get_or row 0 0) 48 n, eq-eqb (get_or row 0 0) 49 e)

pub other-line : (names row : List ℕ) → (get_or row 0 0 ≡ 48 → ⊥) → (get_or row 0 0 ≡ 49 → ⊥) → plain_line row ≡ item_line names row
unfolding item_line
other-line names row n m = rw (ne_eqb (get_or row 0 0) 48 n, ne_eqb (get_or row 0 0) 49 m)

-- ---- a loop that puts lines, each of a part of w numbers and at most m bytes long
module _ (w : ℕ) (line : List ℕ → List ℕ) where
  lines_one_more : (n : ℕ) (l : List ℕ) → lines_of w line (suc n) l ≡ lines_of w line n l ++ line (take w (drop (n * w) l))
  lines_one_more zero l = rw (zero-mul w) (append-nil (line (take w l)))
  lines_one_more (suc n) l =
      ap (λ (k : List ℕ). line (take w l) ++ k) (lines_one_more n (drop w l) ∙ ap (λ (k : List ℕ). lines_of w line n (drop w l) ++ line (take w k)) further)
      ∙ sym (append_assoc (line (take w l)) (lines_of w line n (drop w l)) (line (take w (drop (suc n * w) l))))
    where
      further : drop (n * w) (drop w l) ≡ drop (suc n * w) l
      further = let e : w + n * w ≡ suc n * w = omega (arith, suc-mul n w) in drop-drop (n * w) w l ∙ ap (λ (k : ℕ). drop k l) e

  pub lines-short : (m : ℕ) → ((part : List ℕ) → length part ≤ w → length (line part) ≤ m) → (n : ℕ) (l : List ℕ) → length (lines_of w line n l) ≤ n * m
  lines-short m h zero l = omega arith
  lines-short m h (suc n) l =
      omega (arith, length-append (line (take w l)) (lines_of w line n (drop w l)), h (take w l) (omega (arith, length-take w l)), lines-short m h n (drop w l), suc-mul n m)

  -- more of a list than the parts whose lines are put changes nothing
  pub lines_front : (n k : ℕ) (l : List ℕ) → k ≡ n * w → lines_of w line n (take k l) ≡ lines_of w line n l
  lines_front zero k l e = refl
  lines_front (suc n) k l e =
      let f : k ≡ w + n * w = omega (arith, e, suc-mul n w) in
      let first : take w (take k l) ≡ take w l = take-take w k l (omega (arith, f)) in
      let others : drop w (take k l) ≡ take (n * w) (drop w l) = rw f (drop-take w (n * w) l) in
      rw (first, others, lines_front n (n * w) (drop w l) refl)

  -- the lines of the parts that have come
  pub record Lining (t : Text) (l : List ℕ) (parts : ChunksExact ℕ) (u : Text) : Type 0 where
    pub done : ℕ
    pub within : done * w ≤ length l
    pub here : Puts t (lines_of w line done l) u
    pub others : chunks_exact_rest parts ≡ drop (done * w) l
    pub size_is : chunks_exact_size parts ≡ w

  pub lining_start : (t : Text) {l : List ℕ} {parts : ChunksExact ℕ} → chunks_exact_rest parts ≡ l → chunks_exact_size parts ≡ w → Lining t l parts t
  lining_start t {l} e f = record { done = 0; within = omega (arith, zero-mul w); here = puts_none t; others = e ∙ ap (λ (k : ℕ). drop k l) (sym (zero-mul w)); size_is = f }

  module _ {t u : Text} {l : List ℕ} {parts : ChunksExact ℕ} (g : Lining t l parts u) (part : Bor (List ℕ)) (parts' : ChunksExact ℕ) (s : chunks_exact_steps parts (Some part) parts') where
    part-long : length part.now ≡ w
    part-long = s.1.1 ∙ g.size_is

    whole : drop (g.done * w) l ≡ part.now ++ chunks_exact_rest parts'
    whole = sym g.others ∙ s.1.0

    pub lining_room : suc g.done * w ≤ length l
    lining_room = omega (arith, g.within, suc-mul g.done w, ap length whole, length-drop (g.done * w) l, length-append part.now (chunks_exact_rest parts'), part-long)

    pub lining_next : {v : Text} → Puts u (line part.now) v → Lining t l parts' v
    lining_next p =
        record {
          done = suc g.done;
          within = lining_room;
          here = rw (lines_one_more g.done l, whole, take_at part.now (chunks_exact_rest parts') w part-long) (puts_then g.here p);
          others = sym (drop_at part.now (chunks_exact_rest parts') w part-long) ∙ ap (drop w) (sym whole) ∙ drop-drop w (g.done * w) l ∙ ap (λ (k : ℕ). drop k l) (omega (arith, suc-mul g.done w));
          size_is = s.0 ∙ g.size_is;
        }

pub items-short : (names : List ℕ) (n : ℕ) (rows : List ℕ) → length names ≤ 2048 → length (item_lines names n rows) ≤ n * 2406
items-short names n rows k = lines-short 17 (item_line names) 2406 (item-short names k) n rows

pub items-shown : (names : List ℕ) (n : ℕ) (rows : List ℕ) {t u : Text} {parts : ChunksExact ℕ} → Lining 17 (item_line names) t (take (17 * n) rows) parts u
    → length (chunks_exact_rest parts) < chunks_exact_size parts → t.at ≡ 0 → 17 * n ≤ length rows → length names ≤ 2048 → 2406 * n ≤ length t.out.now → Prints (item_lines names n rows) u.out.now u.at
items-shown names n rows g short z h k room =
    let l : length (take (17 * n) rows) ≡ 17 * n = length-take-le (17 * n) rows h in
    let e : g.done ≡ n = omega (arith, g.within, g.size_is, ap length g.others, length-drop (g.done * 17) (take (17 * n) rows)) in
    prints (rw (e, lines_front 17 (item_line names) n (17 * n) rows (omega arith)) at g.here) z (omega (arith, items-short names n rows k))

pub ruleset shorts = (decimal-short, parted-short, name-short, length-take, length-drop)
