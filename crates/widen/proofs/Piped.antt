-- What `widen` prints of a list is read by the bench program as the widened rows, with the same names: piped into it, they are what it builds.
use mathlib.Core.Path.{◌≡◌, refl, sym, ap, ap₂, subst, ◌∙◌}
use mathlib.Core.Bool.{Bool, true, false, false≢true, cond}
use mathlib.Core.List.{List, [], ◌∷◌, ◌++◌, append-nil}
use mathlib.Core.Logic.{◌⊎◌, inl, inr}
use Prim.Native.Nat.{ℕ, zero, suc, ◌+◌, ◌*◌, ◌^◌, ◌≤◌, ◌<◌}
use native.Mathlib.Omega.{arith}
use lib.ListN.{length, take, drop, get_or, length-append, length-drop}
use lib.Seq.{take-append-le, drop-append-le, drop-drop, length-take-le}
use lib.IntN.{ℤ, pos, negsuc}
use lib.Dec.{eqb}
use borrow.Author.Tests.{eq-eqb}
use Rattle.refusals.specs.declared.Told.{Told}
use Rattle.std.specs.Prelude.{Ok, Err}
use Rattle.refusals.specs.Answers.{Verdict}
use Rattle.refusals.proofs.Numbered.{over}
use Rattle.bounds.specs.Tables.{lookup, at}
use Rattle.places.specs.Items.{row_count, kernel_of}
use Rattle.places.specs.Left.{gather}
use Rattle.prefixes.proofs.Tests.{and_both}
use Rattle.prefixes.proofs.Gathered.{gather-at}
use Rattle.widening.specs.declared.ToldWidened.{ToldWidened}
use Rattle.widening.specs.Widening.{memory_move, wide_nop, twins, has_twin, twin, row_of, changes, changed, copied, pairs, widen_judged, widened_in, told_widened, laid, Widens}
use Rattle.text.specs.Text.{decimal, detail, refused_text, unread_text}
use Rattle.reader.specs.Lines.{fields, is_digit, value, Line, line_of, is_read_line, name_in, row_in, fits, rows, unread, said_from, said}
use Rattle.reader.proofs.Conds.{cond_keeps}
use Rattle.reader.proofs.Cuts.{lines_more}
use Rattle.reader.proofs.Values.{number-letter}
use Rattle.reader.proofs.Readable.{name-later, not_a_number}
use Rattle.item_lines.specs.ItemText.{item_line, item_lines}
use Rattle.item_lines.proofs.Parts.{Without, without_append, free, decimal_without, fields-more, Numbers}
use Rattle.item_lines.proofs.Again.{Item, other, label, jump, InTurn, none, next, read_again}
use Rattle.item_lines.proofs.Turned.{turn-long, said_in_turn}
use Rattle.widen.specs.Printed.{refusal_in, list_text}

-- ---- a twin is a row without a name, of numbers that stood in the row
record Nameless (row : List ℕ) : Type 0 where
  long : length row ≡ 17
  below : Numbers row
  no_label : get_or row 0 0 ≡ 48 → ⊥
  no_jump : get_or row 0 0 ≡ 49 → ⊥

nameless : (past row : List ℕ) → Nameless row → Item past row []
nameless past [] n = absurd (omega (arith, n.long))
nameless past (k ∷ ns) n = other k ns (omega (arith, n.long)) n.below n.no_label n.no_jump

number_at : (l : List ℕ) (i : ℕ) → Numbers l → get_or l i 0 < 2 ^ 32
number_at [] i h = omega arith
number_at (n ∷ l) zero h = h.0
number_at (n ∷ l) (suc i) h = number_at l i h.1

moved : (row : List ℕ) → Numbers row → (direction update : ℕ) → direction < 2 → update < 2 → Nameless (memory_move direction update row)
moved row h direction update d u =
    let small : (n : ℕ) → n < 2 → n < 2 ^ 32 = λ n k. omega arith in
    let z : 0 < 2 ^ 32 = omega arith in
    record {
      long = refl;
      below = (omega arith, (z, (z, (z, (z, (z, (z, (z, (z, (small direction d, (number_at row 1 h, (number_at row 2 h, (number_at row 3 h, (small update u, (z, (z, (z, tt)))))))))))))))));
      no_label = λ e. omega arith;
      no_jump = λ e. omega arith;
    }

waits : Nameless wide_nop
waits =
    let z : 0 < 2 ^ 32 = omega arith in
    record { long = refl; below = (omega arith, (z, (z, (z, (z, (z, (z, (z, (z, (z, (z, (z, (z, (z, (z, (z, (z, tt))))))))))))))))); no_label = λ e. omega arith; no_jump = λ e. omega arith }

-- what holds of each line of a table
abbrev AllOf : (List ℕ → Type 0) → List (ℕ × List ℕ) → Type 0
AllOf P [] = Unit {0}
AllOf P (line ∷ table) = P line.1 × AllOf P table

found : (P : List ℕ → Type 0) (k : ℕ) (table : List (ℕ × List ℕ)) (rest : List ℕ) → AllOf P table → P rest → P (lookup k table rest)
found P k [] rest a r = r
found P k (line ∷ table) rest a r = cond_keeps P (eqb k line.0) line.1 (lookup k table rest) (λ _. a.0) (λ _. found P k table rest a.1 r)

twin-nameless : (row : List ℕ) → Numbers row → Nameless (twin row)
twin-nameless row h =
    found Nameless (at row 0) (twins row) wide_nop
    (moved row h 0 0 (omega arith) (omega arith), (moved row h 1 0 (omega arith) (omega arith), (moved row h 0 1 (omega arith) (omega arith), (moved row h 1 1 (omega arith) (omega arith), (waits, tt))))) waits

twin-long : (row : List ℕ) → length (twin row) ≡ 17
twin-long row = found (λ (l : List ℕ). length l ≡ 17) (at row 0) (twins row) wide_nop (refl, (refl, (refl, (refl, (refl, tt))))) refl

-- labels and jumps have none
twin-item : (past : List ℕ) {row name : List ℕ} → Item past row name → has_twin row ≡ true → Item past (twin row) name
twin-item past (other k ns e h p q) t = nameless past (twin (k ∷ ns)) (twin-nameless (k ∷ ns) h)
twin-item past (label name v w) t = absurd (false≢true t)
twin-item past (jump c name h v w) t = absurd (false≢true t)

-- ---- rows of which some give way to their twins stand in turn too
abbrev Kept : List ℕ → List ℕ → Type 0
Kept row new = (new ≡ row) ⊎ ((new ≡ twin row) × (has_twin row ≡ true))

kept-item : (past : List ℕ) {row name new : List ℕ} → Item past row name → Kept row new → Item past new name
kept-item past {name = name} item (inl e) = subst (λ (r : List ℕ). Item past r name) (sym e) item
kept-item past {name = name} item (inr k) = subst (λ (r : List ℕ). Item past r name) (sym k.0) (twin-item past item k.1)

row_on : (l : List ℕ) (i : ℕ) → row_of (drop 17 l) i ≡ row_of l (suc i)
row_on l i = let e : 17 + i * 17 ≡ suc i * 17 = omega arith in ap (take 17) (drop-drop (i * 17) 17 l ∙ ap (λ (k : ℕ). drop k l) e)

empty : (l : List ℕ) → length l ≡ 0 → l ≡ []
empty [] h = refl
empty (b ∷ l) h = absurd (omega arith)

kept-turn : {n : ℕ} {rs past rest : List ℕ} → InTurn n rs past rest → (new : List ℕ) → length new ≡ n * 17 → ((i : ℕ) → i < n → Kept (row_of rs i) (row_of new i)) → InTurn n new past rest
kept-turn (none past) new h k = subst (λ (l : List ℕ). InTurn 0 l past []) (sym (empty new (omega arith))) (none past)
kept-turn (next n rs past name more item turn) new h k =
    next n new past name more (kept-item past item (k 0 (omega arith)))
    (kept-turn turn (drop 17 new) (omega (arith, length-drop 17 new)) (λ i l. rw (row_on rs i, row_on new i) (k (suc i) (omega arith))))

-- ---- the widened rows
gather-long : (f : ℕ → List ℕ) (n : ℕ) → ((q : ℕ) → q < n → length (f q) ≡ 17) → (i : ℕ) → i ≤ n → length (gather f i) ≡ i * 17
gather-long f n h zero k = refl
gather-long f n h (suc i) k = omega (arith, length-append (gather f i) (f i), gather-long f n h i (omega arith), h i (omega arith))

gathered_row : (f : ℕ → List ℕ) (n : ℕ) → ((q : ℕ) → q < n → length (f q) ≡ 17) → (i : ℕ) → i < n → row_of (gather f n) i ≡ f i
gathered_row f n h i k = rw (append-nil (gather f n), h i k, gather-long f n h i (omega arith)) at (gather-at f i n [] k)

module _ (rs names : List ℕ) where
  row-long : (i : ℕ) → i * 17 + 17 ≤ length rs → length (row_of rs i) ≡ 17
  row-long i h = length-take-le 17 (drop (i * 17) rs) (omega (arith, length-drop (i * 17) rs))

  copied-long : (i : ℕ) → i * 17 + 17 ≤ length rs → length (copied rs names i) ≡ 17
  copied-long i h = cond_keeps (λ (l : List ℕ). length l ≡ 17) (changes rs names i) (twin (row_of rs i)) (row_of rs i) (λ _. twin-long (row_of rs i)) (λ _. row-long i h)

  has-twin : (i : ℕ) → changes rs names i ≡ true → has_twin (row_of rs i) ≡ true
  has-twin i e = (and_both (has_twin (row_of rs i)) _ (and_both (pairs (kernel_of rs names)) _ e).1).0

  copied-kept : (i : ℕ) → Kept (row_of rs i) (copied rs names i)
  copied-kept i = cond_keeps (Kept (row_of rs i)) (changes rs names i) (twin (row_of rs i)) (row_of rs i) (λ e. inr (refl, has-twin i e)) (λ _. inl refl)

  widened-turn : (n : ℕ) → InTurn n rs [] names → InTurn n (gather (copied rs names) n) [] names
  widened-turn n turn =
      let l = turn-long turn in
      let long : (q : ℕ) → q < n → length (copied rs names q) ≡ 17 = λ q h. copied-long q (omega arith) in
      kept-turn turn (gather (copied rs names) n) (gather-long (copied rs names) n long n (omega arith))
      (λ i h. subst (Kept (row_of rs i)) (sym (gathered_row (copied rs names) n long i h)) (copied-kept i))

-- ---- what is told and left
good : (row : ℕ) (v : Verdict) (n : ℕ) (paired : Bool) → (told_widened (widened_in row v n paired)).number ≡ 0 → v ≡ Ok tt
good row (Ok _) n paired e = refl
good row (Err r) n paired e = absurd (let h = over r in omega arith)

copy-front : {rs names copy list : List ℕ} {t : ToldWidened} {copy' list' : List ℕ} → Widens rs names copy list t copy' list' → t.number ≡ 0
    → copy' ≡ gather (copied rs names) (row_count rs) ++ drop (length (gather (copied rs names) (row_count rs))) copy
copy-front {rs} {names} {copy} {list} {t} w e =
    let j = widen_judged rs names copy list in
    let z : j.verdict ≡ Ok tt = good j.row j.verdict (changed rs names) (pairs (kernel_of rs names)) (rw w.answer at e) in
    w.copy_left ∙ ap (λ (v : Verdict). laid v (gather (copied rs names) (row_count rs)) copy) z

lines-front : (names : List ℕ) (n : ℕ) (l rest : List ℕ) → length l ≡ n * 17 → item_lines names n (l ++ rest) ≡ item_lines names n l
lines-front names zero l rest h = refl
lines-front names (suc n) l rest h =
    ap₂ (λ (p m : List ℕ). item_line names p ++ item_lines names n m) (take-append-le 17 l rest (omega arith)) (drop-append-le 17 l rest (omega arith))
    ∙ ap (λ (m : List ℕ). item_line names (take 17 l) ++ m) (lines-front names n (drop 17 l) rest (omega (arith, length-drop 17 l)))

pub piped : (input : List ℕ) {rs names : List ℕ} → said input ≡ rows rs names → {copy list : List ℕ} {t : ToldWidened} {copy' list' : List ℕ} → Widens rs names copy list t copy' list'
    → t.number ≡ 0 → said (list_text t (row_count rs) copy' names) ≡ rows (gather (copied rs names) (row_count rs)) names
piped input {rs} {names} i {copy} {t = t} {copy'} w e =
    let s = said_in_turn input i in
    let c : row_count rs ≡ s.n = let l = turn-long s.turn in omega arith in
    let new = gather (copied rs names) (row_count rs) in
    let turn : InTurn (row_count rs) new [] names = widened-turn rs names (row_count rs) (rw (← c) at s.turn) in
    ap (λ (b : Bool). said (cond b (item_lines names (row_count rs) copy') (refused_text (refusal_in t)))) (eq-eqb t.number 0 e)
    ∙ ap said (ap (item_lines names (row_count rs)) (copy-front w e) ∙ lines-front names (row_count rs) new (drop (length new) copy) (turn-long turn))
    ∙ read_again turn 0 [] (omega (arith, c, s.few)) s.short

-- ---- a refusal, and an unread line, are lines that the bench program does not read: neither begins with a number
unfit : (l : Line) → is_read_line l ≡ false → cond (fits 0 [] l) (said_from 1 (row_in 0 l) (name_in l) []) (unread 1) ≡ unread 1
unfolding fits
unfit l e = rw e

unread-line : (b : ℕ) (word rest : List ℕ) → is_digit b ≡ false → Without 10 (b ∷ word) → Without 9 (b ∷ word) → Without 10 rest → said ((b ∷ word ++ 9 ∷ rest) ++ 10 ∷ []) ≡ unread 1
unread-line b word rest letter v w x =
    let l = b ∷ word ++ 9 ∷ rest in
    let none : is_read_line (line_of (fields l)) ≡ false = rw (fields-more (b ∷ word) rest w) (not_a_number [] (b ∷ word) (fields rest) (name-later (value (b ∷ word))) (number-letter [] b word letter)) in
    ap (said_from 0 [] []) (lines_more l [] (free l (without_append 10 (b ∷ word) (9 ∷ rest) v (refl, x)))) ∙ unfit (line_of (fields l)) none

decimal-line : (n : ℕ) → Without 10 (decimal n)
decimal-line n = decimal_without 10 (omega arith) n

detail-line : (z : ℤ) → Without 10 (detail z)
detail-line (pos n) = (refl, decimal-line n)
detail-line (negsuc n) = (refl, (refl, decimal-line (suc n)))

pub refused-unread : (t : Told) → said (refused_text t) ≡ unread 1
refused-unread t =
    unread-line 114 (101 ∷ 102 ∷ 117 ∷ 115 ∷ 101 ∷ 100 ∷ []) (decimal t.number ++ detail t.first ++ detail t.second ++ detail t.third) refl
    (refl, (refl, (refl, (refl, (refl, (refl, (refl, tt))))))) (refl, (refl, (refl, (refl, (refl, (refl, (refl, tt)))))))
    (without_append 10 (decimal t.number ++ detail t.first ++ detail t.second) (detail t.third)
    (without_append 10 (decimal t.number ++ detail t.first) (detail t.second) (without_append 10 (decimal t.number) (detail t.first) (decimal-line t.number) (detail-line t.first)) (detail-line t.second))
    (detail-line t.third))

pub unread-unread : (line : ℕ) → said (unread_text line) ≡ unread 1
unread-unread line = unread-line 117 (110 ∷ 114 ∷ 101 ∷ 97 ∷ 100 ∷ []) (decimal line) refl (refl, (refl, (refl, (refl, (refl, (refl, tt)))))) (refl, (refl, (refl, (refl, (refl, (refl, tt)))))) (decimal-line line)
