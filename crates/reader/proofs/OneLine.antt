-- A line, from any place in it to its end: the reader comes to what the line's fields say.
use mathlib.Core.Path.{◌≡◌, refl, sym, ap, ◌∙◌}
use mathlib.Core.Bool.{Bool, true, false, cond}
use mathlib.Core.List.{List, [], ◌∷◌, ◌++◌, map, append-nil, append_assoc}
use mathlib.Core.Logic.{◌⊎◌, inl, inr}
use Prim.Native.Nat.{ℕ, ◌+◌, ◌-◌, ◌*◌, ◌≤◌, ◌<◌, ◌^◌}
use native.Mathlib.Omega.{arith}
use lib.ListN.{length, length-append}
use lib.Dec.{ltb, eqb}
use borrow.Author.Tests.{lt-ltb, le-leb, lt-leb, ltb-true, ltb-false, eqb-true}
use Rattle.std.specs.Prelude.{Ok, Err}
use Rattle.reader.specs.declared.Reader.{Reader}
use Rattle.reader.specs.Lines.{onto, fields, is_digit, every, value, is_number, Line, numbers, named, kind_of, line_of, is_read_line, name_in, row_in, fits}
use Rattle.reader.specs.Steps.{line_start, mem, turn_of, run}
use Rattle.reader.proofs.Buffers.{over}
use Rattle.reader.proofs.Values.{and_false, every_one_more, number-yes, number-empty, number-letter, number_large, value_one_more}
use Rattle.reader.proofs.Cuts.{Free, prefixed, prefixed-byte}
use Rattle.reader.proofs.Readable.{name_by, name_by-more, name_range, name-later, name-early, name-some, not_so_many, too_many, not_a_number, read_plain, read_named}
use Rattle.reader.proofs.Turns.{turn-unread, run-unread}
use Rattle.reader.proofs.InLine.{starting, zeros, numbering, lettering, tabbed, tab_empty, tab_past, tab_name, digit-read, digit-none, digit_large, letter-read, letter-past, end_empty, end-early, end-number, end-name}

-- a line that fits leaves its row and its name, and the next begins; any other is unread, and so it stays
abbrev pub After : List ℕ → ℕ → List ℕ → List ℕ → Line → Bool → Reader → Type 0
After lent i rows names l true m = m ≡ mem (Ok (line_start (i + 1) (length (names ++ name_in l)))) (over zeros (rows ++ row_in (length names) l)) (over lent (names ++ name_in l))
After lent i rows names l false m = m.place ≡ Err (record { line = i + 1 })

-- ---- fields
fields-some : (q : List ℕ) → prefixed [] (fields q) ≡ fields q
fields-some [] = refl
fields-some (b ∷ q) = by (eqb b 9) (fields q)
  where
    by : (t : Bool) (fs : List (List ℕ)) → prefixed [] (cond t ([] ∷ fs) (onto b fs)) ≡ cond t ([] ∷ fs) (onto b fs)
    by true fs = refl
    by false [] = refl
    by false (f ∷ fs) = refl

some-fields : (q : List ℕ) → 0 < length (fields q)
some-fields q = rw (← fields-some q) (by (fields q))
  where
    by : (fs : List (List ℕ)) → 0 < length (prefixed [] fs)
    by [] = omega arith
    by (f ∷ fs) = omega arith

name-ahead : (done fs : List (List ℕ)) → length done < name_by done → length done < name_by (done ++ fs)
name-ahead [] fs h = name-later (kind_of fs)
name-ahead (f ∷ done) fs h = h

-- the fields that are over are numbers, and the field at hand is the name; or digits so far
record Naming (done : List (List ℕ)) : Type 0 where
  read : every is_number done ≡ true
  here : name_by done ≡ length done
  some : 0 < length done
  first : length done ≤ 2

record Numbering (done : List (List ℕ)) (cur : List ℕ) : Type 0 where
  read : every is_number done ≡ true
  digits : every is_digit cur ≡ true
  below : value cur < 2 ^ 32
  few : length done ≤ 16
  ahead : length done < name_by done

module _ (lent : List ℕ) (long : length lent ≡ 2048) (i : ℕ) (rows names : List ℕ) (whole : length rows ≡ i * 17) (small : i < 512) (few : length names ≤ 2048) where
  abbrev Ends : List (List ℕ) → Reader → Type 0
  Ends fs m = After lent i rows names (line_of fs) (fits i names (line_of fs)) (turn_of m 10)

  -- ---- a line that is read at its end; one that is unread at the byte at hand, or at its end
  well : (fs : List (List ℕ)) (l : Line) (m : Reader) → line_of fs ≡ l → fits i names l ≡ true
      → mem (Ok (line_start (i + 1) (length (names ++ name_in l)))) (over zeros (rows ++ row_in (length names) l)) (over lent (names ++ name_in l)) ≡ turn_of m 10 → Ends fs m
  well fs l m e f h = rw (e, f) (sym h)

  lost : (fs : List (List ℕ)) (q : List ℕ) {rs ns : List ℕ} {m : Reader} → mem (Err (record { line = i + 1 })) rs ns ≡ m → fits i names (line_of fs) ≡ false → Ends fs (run m q)
  lost fs q {rs} {ns} e f = rw (← e, run-unread (record { line = i + 1 }) rs ns q, turn-unread (record { line = i + 1 }) rs ns 10, f) refl

  lost-end : (fs : List (List ℕ)) (m : Reader) {rs ns : List ℕ} → mem (Err (record { line = i + 1 })) rs ns ≡ turn_of m 10 → fits i names (line_of fs) ≡ false → Ends fs m
  lost-end fs m e f = rw (← e, f)

  misfit : (l : Line) → is_read_line l ≡ false → fits i names l ≡ false
  unfolding fits
  misfit l e = rw e

  -- ---- in a name
  full : (ns name : List ℕ) → 2048 < length names + length name → fits i names (named ns name) ≡ false
  unfolding fits
  full ns name h = rw (lt-leb (length names + length name) 2048 h) (and_false (ltb i 512))

  room : (ns name : List ℕ) → length names + length name ≤ 2048 → fits i names (named ns name) ≡ true
  unfolding fits
  room ns name h = rw (lt-ltb i 512 small, le-leb (length names + length name) 2048 h)

  name-alone : (done : List (List ℕ)) (name : List ℕ) → Naming done → line_of (done ++ name ∷ []) ≡ named (map value done) name
  name-alone done name g = read_named done name (name_by-more done (name ∷ []) g.some ∙ g.here) g.first g.read

  more-fields : (done : List (List ℕ)) (name : List ℕ) (fs : List (List ℕ)) → Naming done → 0 < length fs → is_read_line (line_of (done ++ name ∷ fs)) ≡ false
  more-fields done name fs g h =
      let n : name_by (done ++ name ∷ fs) ≡ length done = name_by-more done (name ∷ fs) g.some ∙ g.here in
      not_so_many (done ++ name ∷ fs) (omega (arith, g.first)) (λ e. omega (arith, length-append done (name ∷ fs)))

  too_long : (done : List (List ℕ)) (cur : List ℕ) (fs : List (List ℕ)) → Naming done → 2048 < length names + length cur → fits i names (line_of (done ++ prefixed cur fs)) ≡ false
  too_long done cur [] g h = rw (name-alone done cur g) (full (map value done) cur h)
  too_long done cur (f ∷ []) g h = rw (name-alone done (cur ++ f) g) (full (map value done) (cur ++ f) (omega (arith, length-append cur f)))
  too_long done cur (f ∷ f' ∷ fs) g h = misfit _ (more-fields done (cur ++ f) (f' ∷ fs) g (omega arith))

  lettered : (q : List ℕ) → Free q → (done : List (List ℕ)) (cur : List ℕ) → Naming done → length names + length cur ≤ 2048 → Ends (done ++ prefixed cur (fields q)) (run (lettering lent i rows names done cur) q)
  lettered [] free done cur g k = rw (append-nil cur) (well (done ++ cur ∷ []) (named (map value done) cur) _ (name-alone done cur g) (room (map value done) cur k) (end-name lent long i rows names whole small done cur g.first))
  lettered (b ∷ q) free done cur g k = by (eqb b 9) refl (ltb (length names + length cur) 2048) refl (lettered q free.1 done (cur ++ b ∷ []) g)
    where
      by : (t : Bool) → eqb b 9 ≡ t → (u : Bool) → ltb (length names + length cur) 2048 ≡ u
          → (length names + length (cur ++ b ∷ []) ≤ 2048 → Ends (done ++ prefixed (cur ++ b ∷ []) (fields q)) (run (lettering lent i rows names done (cur ++ b ∷ [])) q))
          → Ends (done ++ prefixed cur (fields (b ∷ q))) (run (lettering lent i rows names done cur) (b ∷ q))
      by true e u h next = rw (eqb-true b 9 e, append-nil cur) (lost (done ++ cur ∷ fields q) q (tab_name lent long i rows names whole small done cur) (misfit _ (more-fields done cur (fields q) g (some-fields q))))
      by false e true h next =
          let k = ltb-true (length names + length cur) 2048 h in
          rw (e, prefixed-byte cur b (fields q), ← letter-read lent long i rows names whole small b free.0 e done cur k) (next (rw (length-append cur (b ∷ [])) (omega arith)))
      by false e false h next =
          let k = ltb-false (length names + length cur) 2048 h in
          rw (e, prefixed-byte cur b (fields q))
          (lost (done ++ prefixed (cur ++ b ∷ []) (fields q)) q (letter-past lent long i rows names whole small b free.0 e done cur k)
          (too_long done (cur ++ b ∷ []) (fields q) g (rw (length-append cur (b ∷ [])) (omega arith))))

  -- ---- in a number
  fit : (ns : List ℕ) → fits i names (numbers ns) ≡ true
  unfolding fits
  fit ns = rw (lt-ltb i 512 small, le-leb (length names + 0) 2048 (omega arith))

  -- its end is the line's
  number-ends : (done : List (List ℕ)) (cur : List ℕ) → Numbering done cur → Ends (done ++ cur ∷ []) (numbering lent i rows names done cur)
  number-ends done cur g = by (ltb 0 (length cur)) refl (name_range (kind_of (done ++ cur ∷ [])))
    where
      fs : List (List ℕ)
      fs = done ++ cur ∷ []

      h : length done < name_by fs
      h = name-ahead done (cur ∷ []) g.ahead

      by : (t : Bool) → ltb 0 (length cur) ≡ t → ((0 < name_by fs) × (name_by fs ≤ 2)) ⊎ (name_by fs ≡ 17) → Ends fs (numbering lent i rows names done cur)
      by false e n = lost-end fs _ (end_empty lent long i rows names whole small done cur g.ahead e) (misfit _ (not_a_number done cur [] h (number-empty cur e)))
      by true e (inl n) = lost-end fs _ (end-early lent long i rows names whole small done cur g.ahead (ltb-true 0 (length cur) e) (λ z. omega arith)) (misfit _ (not_so_many fs n.1 (λ z. omega (arith, h, length-append done (cur ∷ [])))))
      by true e (inr n) =
          well fs (numbers (map value fs)) _
          (read_plain fs n (rw (length-append done (cur ∷ [])) (omega (arith, g.few))) (every_one_more is_number done cur g.read (number-yes cur (ltb-true 0 (length cur) e) g.digits g.below)))
          (fit (map value fs))
          (rw (append-nil names) (end-number lent long i rows names whole small done cur g.ahead (ltb-true 0 (length cur) e) n g.few))

  names_begin : (done : List (List ℕ)) → name_by done ≡ length done → length done ≤ 16 → lettering lent i rows names done [] ≡ numbering lent i rows names done []
  names_begin done e h = rw (name-some (kind_of done) (length done) e h, append-nil names)

  -- a tab ends it, and a number or the name begins
  number_tab : (q : List ℕ) → Free q → (done : List (List ℕ)) (cur : List ℕ) → Numbering done cur
      → (Numbering (done ++ cur ∷ []) [] → Ends ((done ++ cur ∷ []) ++ prefixed [] (fields q)) (run (numbering lent i rows names (done ++ cur ∷ []) []) q))
      → Ends (done ++ cur ∷ fields q) (run (turn_of (numbering lent i rows names done cur) 9) q)
  number_tab q free done cur g next = by (ltb 0 (length cur)) refl (ltb (length done) 16) refl
    where
      fs : List (List ℕ)
      fs = done ++ cur ∷ []

      again : done ++ cur ∷ fields q ≡ fs ++ prefixed [] (fields q)
      again = sym (ap (λ (l : List (List ℕ)). fs ++ l) (fields-some q) ∙ append_assoc done (cur ∷ []) (fields q))

      fs-long : length fs ≡ length done + 1
      fs-long = length-append done (cur ∷ [])

      h : length done < name_by fs
      h = name-ahead done (cur ∷ []) g.ahead

      fs-read : 0 < length cur → every is_number fs ≡ true
      fs-read k = every_one_more is_number done cur g.read (number-yes cur k g.digits g.below)

      begins : 0 < length cur → length done < 16 → (t : Bool) → ltb (length fs) (name_by fs) ≡ t → Ends (fs ++ prefixed [] (fields q)) (run (numbering lent i rows names fs []) q)
      begins p k true e = next (record { read = fs-read p; digits = refl; below = omega arith; few = omega (arith, fs-long); ahead = ltb-true (length fs) (name_by fs) e })
      begins p k false e =
          let here : name_by fs ≡ length fs = omega (arith, h, fs-long, ltb-false (length fs) (name_by fs) e) in
          rw (← names_begin fs here (omega (arith, fs-long)))
          (lettered q free fs [] (record { read = fs-read p; here = here; some = omega (arith, fs-long); first = omega (arith, fs-long, name-early (kind_of fs) (omega (arith, fs-long))) }) (omega arith))

      by : (t : Bool) → ltb 0 (length cur) ≡ t → (u : Bool) → ltb (length done) 16 ≡ u → Ends (done ++ cur ∷ fields q) (run (turn_of (numbering lent i rows names done cur) 9) q)
      by false e u k = lost (done ++ cur ∷ fields q) q (tab_empty lent long i rows names whole small done cur e) (misfit _ (not_a_number done cur (fields q) (name-ahead done (cur ∷ fields q) g.ahead) (number-empty cur e)))
      by true e false k = lost (done ++ cur ∷ fields q) q (tab_past lent long i rows names whole small done cur (ltb-true 0 (length cur) e) (ltb-false (length done) 16 k)) (misfit _ (too_many (done ++ cur ∷ fields q) (rw (length-append done (cur ∷ fields q)) (omega (arith, some-fields q, ltb-false (length done) 16 k)))))
      by true e true k =
          rw (again, ← tabbed lent long i rows names whole small done cur (ltb-true 0 (length cur) e) (ltb-true (length done) 16 k))
          (begins (ltb-true 0 (length cur) e) (ltb-true (length done) 16 k) (ltb (length fs) (name_by fs)) refl)

  -- a byte that makes it no number, whatever follows
  spoilt : (done : List (List ℕ)) (cur : List ℕ) (b : ℕ) (fs : List (List ℕ)) → length done < name_by done → ((f : List ℕ) → is_number (cur ++ b ∷ f) ≡ false) → fits i names (line_of (done ++ prefixed (cur ++ b ∷ []) fs)) ≡ false
  spoilt done cur b [] h bad = misfit _ (not_a_number done (cur ++ b ∷ []) [] (name-ahead done _ h) (bad []))
  spoilt done cur b (f ∷ fs) h bad = rw (append_assoc cur (b ∷ []) f) (misfit _ (not_a_number done (cur ++ b ∷ f) fs (name-ahead done _ h) (bad f)))

  numbered : (q : List ℕ) → Free q → (done : List (List ℕ)) (cur : List ℕ) → Numbering done cur → Ends (done ++ prefixed cur (fields q)) (run (numbering lent i rows names done cur) q)
  numbered [] free done cur g = rw (append-nil cur) (number-ends done cur g)
  numbered (b ∷ q) free done cur g = by (eqb b 9) refl (is_digit b) refl (ltb (value cur * 10 + (b - 48)) (2 ^ 32)) refl (numbered q free.1 done (cur ++ b ∷ [])) (numbered q free.1 (done ++ cur ∷ []) [])
    where
      by : (t : Bool) → eqb b 9 ≡ t → (u : Bool) → is_digit b ≡ u → (v : Bool) → ltb (value cur * 10 + (b - 48)) (2 ^ 32) ≡ v
          → (Numbering done (cur ++ b ∷ []) → Ends (done ++ prefixed (cur ++ b ∷ []) (fields q)) (run (numbering lent i rows names done (cur ++ b ∷ [])) q))
          → (Numbering (done ++ cur ∷ []) [] → Ends ((done ++ cur ∷ []) ++ prefixed [] (fields q)) (run (numbering lent i rows names (done ++ cur ∷ []) []) q))
          → Ends (done ++ prefixed cur (fields (b ∷ q))) (run (numbering lent i rows names done cur) (b ∷ q))
      by true e u d v h next tab = rw (eqb-true b 9 e, append-nil cur) (number_tab q free.1 done cur g tab)
      by false e false d v h next tab =
          rw (e, prefixed-byte cur b (fields q))
          (lost _ q (digit-none lent long i rows names whole small b free.0 e done cur g.ahead d) (spoilt done cur b (fields q) g.ahead (λ f. number-letter cur b f d)))
      by false e true d false h next tab =
          let k = ltb-false (value cur * 10 + (b - 48)) (2 ^ 32) h in
          rw (e, prefixed-byte cur b (fields q))
          (lost _ q (digit_large lent long i rows names whole small b free.0 e done cur g.ahead d k) (spoilt done cur b (fields q) g.ahead (λ f. number_large cur b f k)))
      by false e true d true h next tab =
          let k = ltb-true (value cur * 10 + (b - 48)) (2 ^ 32) h in
          rw (e, prefixed-byte cur b (fields q), ← digit-read lent long i rows names whole small b free.0 e done cur g.ahead d k)
          (next (record { read = g.read; digits = every_one_more is_digit cur b g.digits d; below = rw (value_one_more cur b) k; few = g.few; ahead = g.ahead }))

  -- ---- a whole line
  pub line_read : (q : List ℕ) → Free q → After lent i rows names (line_of (fields q)) (fits i names (line_of (fields q))) (turn_of (run (mem (Ok (line_start i (length names))) (over zeros rows) (over lent names)) q) 10)
  line_read q free =
      rw (starting lent i rows names, ← fields-some q)
      (numbered q free [] [] (record { read = refl; digits = refl; below = omega arith; few = omega arith; ahead = name-later 0 }))
