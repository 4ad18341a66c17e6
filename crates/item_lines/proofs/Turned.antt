-- What an input says are rows whose names stand in turn.
use mathlib.Core.Path.{◌≡◌, refl, sym, subst, ◌∙◌}
use mathlib.Core.Bool.{Bool, true, false, ◌&&◌, false≢true, cond}
use mathlib.Core.List.{List, [], ◌∷◌, ◌++◌, map, append-nil, append_assoc}
use Prim.Native.Nat.{ℕ, zero, suc, ◌+◌, ◌-◌, ◌*◌, ◌^◌, ◌≤◌, ◌<◌}
use native.Mathlib.Omega.{arith}
use lib.ListN.{length, take, get_or, replicate, length-append, length-map, length-replicate, length-take, length-drop}
use lib.Seq.{take_at, drop_at}
use lib.Dec.{ltb, leb, eqb}
use borrow.Author.Tests.{ltb-true, leb-true, eqb-true, eqb-false}
use Rattle.reader.specs.Lines.{onto, lines, fields, is_digit, every, value, is_number, Line, numbers, named, unreadable, plain, naming, kind_of, line_of, is_read_line, name_in, row_in, fits, rows, unread, said_from, said}
use Rattle.reader.proofs.Conds.{cond_keeps}
use Rattle.item_lines.proofs.Parts.{Without, Numbers}
use Rattle.item_lines.proofs.Again.{Item, other, label, jump, InTurn, none, next}

both_true : (s t : Bool) → (s && t) ≡ true → (s ≡ true) × (t ≡ true)
both_true true t e = (refl, e)
both_true false t e = absurd (false≢true e)

-- ---- parts without the byte that parts them
abbrev Each : ℕ → List (List ℕ) → Type 0
Each c [] = Unit {0}
Each c (p ∷ ps) = Without c p × Each c ps

onto-each : (c b : ℕ) (ps : List (List ℕ)) → eqb b c ≡ false → Each c ps → Each c (onto b ps)
onto-each c b [] e w = ((e, tt), tt)
onto-each c b (p ∷ ps) e w = ((e, w.0), w.1)

lines-each : (bs : List ℕ) → Each 10 (lines bs)
lines-each [] = tt
lines-each (b ∷ bs) = cond_keeps (Each 10) (eqb b 10) ([] ∷ lines bs) (onto b (lines bs)) (λ _. (tt, lines-each bs)) (λ e. onto-each 10 b (lines bs) e (lines-each bs))

fields-each : (bs : List ℕ) → Each 9 (fields bs)
fields-each [] = (tt, tt)
fields-each (b ∷ bs) = cond_keeps (Each 9) (eqb b 9) ([] ∷ fields bs) (onto b (fields bs)) (λ _. (tt, fields-each bs)) (λ e. onto-each 9 b (fields bs) e (fields-each bs))

fields-line : (bs : List ℕ) → Without 10 bs → Each 10 (fields bs)
fields-line [] w = (tt, tt)
fields-line (b ∷ bs) w = cond_keeps (Each 10) (eqb b 9) ([] ∷ fields bs) (onto b (fields bs)) (λ _. (tt, fields-line bs w.1)) (λ _. onto-each 10 b (fields bs) w.0 (fields-line bs w.1))

fields-some : (bs : List ℕ) → 0 < length (fields bs)
fields-some [] = omega arith
fields-some (b ∷ bs) = cond_keeps (λ (fs : List (List ℕ)). 0 < length fs) (eqb b 9) ([] ∷ fields bs) (onto b (fields bs)) (λ _. omega arith) (λ _. by (fields bs))
  where
    by : (ps : List (List ℕ)) → 0 < length (onto b ps)
    by [] = omega arith
    by (p ∷ ps) = omega arith

-- ---- lines that can be read
cond_read : (t : Bool) (l : Line) → is_read_line (cond t l unreadable) ≡ true → t ≡ true
cond_read true l e = refl
cond_read false l e = absurd (false≢true e)

number-below : (f : List ℕ) → is_number f ≡ true → value f < 2 ^ 32
unfolding is_number
number-below f e = ltb-true (value f) (2 ^ 32) (both_true (every is_digit f) (ltb (value f) (2 ^ 32)) (both_true (ltb 0 (length f)) (every is_digit f && ltb (value f) (2 ^ 32)) e).1).1

numbers-below : (fs : List (List ℕ)) → every is_number fs ≡ true → Numbers (map value fs)
numbers-below [] e = tt
numbers-below (f ∷ fs) e = let h = both_true (is_number f) (every is_number fs) e in (number-below f h.0, numbers-below fs h.1)

numbers-zeros : (ns : List ℕ) (k : ℕ) → Numbers ns → Numbers (ns ++ replicate k 0)
numbers-zeros [] zero h = tt
numbers-zeros [] (suc k) h = (omega arith, numbers-zeros [] k tt)
numbers-zeros (n ∷ ns) k h = (h.0, numbers-zeros ns k h.1)

module _ (past : List ℕ) where
  abbrev ItemOf : Line → Type 0
  ItemOf l = Item past (row_in (length past) l) (name_in l)

  plain-item : (fs : List (List ℕ)) → 0 < length fs → (kind_of fs ≡ 48 → ⊥) → (kind_of fs ≡ 49 → ⊥) → is_read_line (plain fs) ≡ true → ItemOf (plain fs)
  unfolding plain
  plain-item [] h p q e = absurd (omega arith)
  plain-item (f ∷ fs) h p q e =
      let t = cond_read (leb (length (f ∷ fs)) 17 && every is_number (f ∷ fs)) (numbers (map value (f ∷ fs))) e in
      let u = both_true (leb (length (f ∷ fs)) 17) (every is_number (f ∷ fs)) t in
      let few = leb-true (length (f ∷ fs)) 17 u.0 in
      let below = numbers-below (f ∷ fs) u.1 in
      let zeros = replicate {A = ℕ} (17 - length (map value (f ∷ fs))) 0 in
      let long : length (map value fs ++ zeros) ≡ 16 = omega (arith, length-append (map value fs) zeros, length-replicate {A = ℕ} (17 - length (map value (f ∷ fs))) 0, length-map fs value, few) in
      subst (λ (b : Bool). ItemOf (cond b (numbers (map value (f ∷ fs))) unreadable)) (sym t)
      (other (value f) (map value fs ++ zeros) long (below.0, numbers-zeros (map value fs) (17 - length (map value (f ∷ fs))) below.1) p q)

  label-item : (fs : List (List ℕ)) → Each 9 fs → Each 10 fs → kind_of fs ≡ 48 → is_read_line (naming 1 fs) ≡ true → ItemOf (naming 1 fs)
  unfolding naming
  label-item fs v w k e =
      let t = cond_read (eqb (length fs) 2 && every is_number (take 1 fs)) (named (map value (take 1 fs)) (get_or fs 1 [])) e in
      let u = both_true (eqb (length fs) 2) (every is_number (take 1 fs)) t in
      subst (λ (b : Bool). ItemOf (cond b (named (map value (take 1 fs)) (get_or fs 1 [])) unreadable)) (sym t) (by fs v w k (eqb-true (length fs) 2 u.0))
    where
      by : (fs : List (List ℕ)) → Each 9 fs → Each 10 fs → kind_of fs ≡ 48 → length fs ≡ 2 → ItemOf (named (map value (take 1 fs)) (get_or fs 1 []))
      by [] v w k h = absurd (omega arith)
      by (f ∷ []) v w k h = absurd (omega arith)
      by (f ∷ g ∷ []) v w k h = subst (λ (n : ℕ). ItemOf (named (n ∷ []) g)) (sym k) (label g v.1.0 w.1.0)
      by (f ∷ g ∷ x ∷ fs) v w k h = absurd (omega arith)

  jump-item : (fs : List (List ℕ)) → Each 9 fs → Each 10 fs → kind_of fs ≡ 49 → is_read_line (naming 2 fs) ≡ true → ItemOf (naming 2 fs)
  unfolding naming
  jump-item fs v w k e =
      let t = cond_read (eqb (length fs) 3 && every is_number (take 2 fs)) (named (map value (take 2 fs)) (get_or fs 2 [])) e in
      let u = both_true (eqb (length fs) 3) (every is_number (take 2 fs)) t in
      subst (λ (b : Bool). ItemOf (cond b (named (map value (take 2 fs)) (get_or fs 2 [])) unreadable)) (sym t) (by fs v w k (eqb-true (length fs) 3 u.0) u.1)
    where
      by : (fs : List (List ℕ)) → Each 9 fs → Each 10 fs → kind_of fs ≡ 49 → length fs ≡ 3 → every is_number (take 2 fs) ≡ true → ItemOf (named (map value (take 2 fs)) (get_or fs 2 []))
      by [] v w k h e = absurd (omega arith)
      by (f ∷ []) v w k h e = absurd (omega arith)
      by (f ∷ g ∷ []) v w k h e = absurd (omega arith)
      by (f ∷ g ∷ x ∷ []) v w k h e =
          let c = (numbers-below (f ∷ g ∷ []) e).1.0 in
          subst (λ (n : ℕ). ItemOf (named (n ∷ value g ∷ []) x)) (sym k) (jump (value g) x c v.1.1.0 w.1.1.0)
      by (f ∷ g ∷ x ∷ y ∷ fs) v w k h e = absurd (omega arith)

  line-item : (l : List ℕ) → Without 10 l → is_read_line (line_of (fields l)) ≡ true → ItemOf (line_of (fields l))
  unfolding line_of
  line-item l w e = by (eqb (kind_of fs) 48) refl e
    where
      fs : List (List ℕ)
      fs = fields l

      more : (kind_of fs ≡ 48 → ⊥) → (t : Bool) → eqb (kind_of fs) 49 ≡ t → is_read_line (cond t (naming 2 fs) (plain fs)) ≡ true → ItemOf (cond t (naming 2 fs) (plain fs))
      more p true f e = jump-item fs (fields-each l) (fields-line l w) (eqb-true (kind_of fs) 49 f) e
      more p false f e = plain-item fs (fields-some l) p (eqb-false (kind_of fs) 49 f) e

      by : (t : Bool) → eqb (kind_of fs) 48 ≡ t → is_read_line (cond t (naming 1 fs) (cond (eqb (kind_of fs) 49) (naming 2 fs) (plain fs))) ≡ true → ItemOf (cond t (naming 1 fs) (cond (eqb (kind_of fs) 49) (naming 2 fs) (plain fs)))
      by true f e = label-item fs (fields-each l) (fields-line l w) (eqb-true (kind_of fs) 48 f) e
      by false f e = more (eqb-false (kind_of fs) 48 f) (eqb (kind_of fs) 49) refl e

-- ---- the lines in turn
item-long : (past : List ℕ) {row name : List ℕ} → Item past row name → length row ≡ 17
item-long past (other k ns e h p q) = omega (arith, e)
item-long past (label name v w) = refl
item-long past (jump c name h v w) = refl

pub turn-long : {n : ℕ} {rs past rest : List ℕ} → InTurn n rs past rest → length rs ≡ n * 17
turn-long (none past) = refl
turn-long (next n rs past name more item turn) = omega (arith, turn-long turn, length-drop 17 rs, length-take 17 rs, item-long past item)

record Turned (i : ℕ) (done past rs names : List ℕ) : Type 0 where
  n : ℕ
  mine : List ℕ
  rest : List ℕ
  numbers_are : rs ≡ done ++ mine
  names_are : names ≡ past ++ rest
  turn : InTurn n mine past rest
  few : i + n ≤ 512
  short : length names ≤ 2048

in_turn : (ls : List (List ℕ)) → Each 10 ls → (i : ℕ) (done past : List ℕ) → i ≤ 512 → length past ≤ 2048 → {rs names : List ℕ} → said_from i done past ls ≡ rows rs names → Turned i done past rs names
unfolding fits
in_turn [] w i done past h k {rs} {names} e =
    let r : done ≡ rs = cc in
    let s : past ≡ names = cc in
    record { n = 0; mine = []; rest = []; numbers_are = sym r ∙ sym (append-nil done); names_are = sym s ∙ sym (append-nil past); turn = none past; few = omega arith; short = rw (← s) k }
in_turn (l ∷ ls) w i done past h k {rs} {names} e =
    by (λ a b g. in_turn ls w.1 (i + 1) (done ++ row_in (length past) (line_of (fields l))) (past ++ name_in (line_of (fields l))) a b g) (fits i past (line_of (fields l))) refl e
  where
    row : List ℕ
    row = row_in (length past) (line_of (fields l))

    name : List ℕ
    name = name_in (line_of (fields l))

    on : is_read_line (line_of (fields l)) ≡ true → Turned (i + 1) (done ++ row) (past ++ name) rs names → Turned i done past rs names
    on g t =
        let item = line-item past l w.0 g in
        let long = item-long past item in
        record {
          n = suc t.n;
          mine = row ++ t.mine;
          rest = name ++ t.rest;
          numbers_are = t.numbers_are ∙ append_assoc done row t.mine;
          names_are = t.names_are ∙ append_assoc past name t.rest;
          turn =
              next t.n (row ++ t.mine) past name t.rest (subst (λ (r : List ℕ). Item past r name) (sym (take_at row t.mine 17 long)) item)
              (subst (λ (r : List ℕ). InTurn t.n r (past ++ name) t.rest) (sym (drop_at row t.mine 17 long)) t.turn);
          few = omega (arith, t.few);
          short = t.short;
        }

    by : (i + 1 ≤ 512 → length (past ++ name) ≤ 2048 → said_from (i + 1) (done ++ row) (past ++ name) ls ≡ rows rs names → Turned (i + 1) (done ++ row) (past ++ name) rs names)
        → (t : Bool) → fits i past (line_of (fields l)) ≡ t → cond t (said_from (i + 1) (done ++ row) (past ++ name) ls) (unread (i + 1)) ≡ rows rs names → Turned i done past rs names
    by rest true f e =
        let u = both_true (is_read_line (line_of (fields l))) (ltb i 512 && leb (length past + length name) 2048) f in
        let x = both_true (ltb i 512) (leb (length past + length name) 2048) u.1 in
        let a = ltb-true i 512 x.0 in
        let b = leb-true (length past + length name) 2048 x.1 in
        on u.0 (rest (omega arith) (rw (length-append past name) b) e)
    by rest false f e = let z : ◌≡◌ {A = ℕ} 0 1 = cc in absurd (omega arith)

pub record RowsInTurn (rs names : List ℕ) : Type 0 where
  pub n : ℕ
  pub turn : InTurn n rs [] names
  pub few : n ≤ 512
  pub short : length names ≤ 2048

pub said_in_turn : (input : List ℕ) {rs names : List ℕ} → said input ≡ rows rs names → RowsInTurn rs names
said_in_turn input {rs} {names} e =
    let t = in_turn (lines input) (lines-each input) 0 [] [] (omega arith) (omega arith) e in
    record { n = t.n; turn = rw (← t.numbers_are, ← t.names_are) at t.turn; few = omega (arith, t.few); short = t.short }
