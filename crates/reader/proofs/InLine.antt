-- Where the reader stands in a line, by the fields that are over and the field at hand; what a byte does there.
use mathlib.Core.Path.{◌≡◌, refl, sym, ap, ap₂, ◌∙◌}
use mathlib.Core.Bool.{true, false}
use mathlib.Core.List.{List, [], ◌∷◌, ◌++◌, map, append-nil, append_assoc}
use Prim.Native.Nat.{ℕ, ◌+◌, ◌-◌, ◌*◌, ◌≤◌, ◌<◌, ◌^◌}
use native.Mathlib.Nat.{add-zero, add_assoc}
use native.Mathlib.Omega.{arith}
use lib.ListN.{length, set, replicate, length-append, length-map, length-replicate}
use lib.Dec.{ltb, eqb, eqb-suc-zero}
use borrow.Author.Tests.{lt-ltb, le-ltb, eq-eqb}
use Rattle.std.specs.Prelude.{Some, None, Result, Ok}
use Rattle.reader.specs.declared.Place.{Place}
use Rattle.reader.specs.declared.Reader.{Reader}
use Rattle.reader.specs.declared.Unread.{Unread}
use Rattle.reader.specs.Lines.{is_digit, value, kind_of, filled}
use Rattle.reader.specs.Steps.{line_start, failed, digit_of, with, letter_of, name_of_kind, name_after, tab_in, end_of, mem, turn_of}
use Rattle.reader.proofs.Conds.{yes, no, in_rows, in_names_lem}
use Rattle.reader.proofs.Buffers.{over, over-more, over_zeros}
use Rattle.reader.proofs.Values.{so_far, some_so_far, none_so_far, more_so_far, digit-more, no-digit, digit-past}
use Rattle.reader.proofs.Readable.{name_by, before-name, name-none, name_given}
use Rattle.reader.proofs.Turns.{turn_end, turn_tab, turn-letter, turn-digit}

abbrev pub zeros : List ℕ
zeros = replicate 8704 0

-- in a number; in a name
abbrev pub number_at : ℕ → List ℕ → List (List ℕ) → List ℕ → Place
number_at i names done cur = record { items = i; field = length done; name = name_of_kind (kind_of done); value = so_far cur; start = length names; bytes = 0 }

abbrev pub letter_at : ℕ → List ℕ → List (List ℕ) → List ℕ → Place
letter_at i names done cur = record { items = i; field = length done; name = Some (length done); value = None; start = length names; bytes = length cur }

abbrev pub numbering : List ℕ → ℕ → List ℕ → List ℕ → List (List ℕ) → List ℕ → Reader
numbering lent i rows names done cur = mem (Ok (number_at i names done cur)) (over zeros (rows ++ map value done)) (over lent names)

abbrev pub lettering : List ℕ → ℕ → List ℕ → List ℕ → List (List ℕ) → List ℕ → Reader
lettering lent i rows names done cur = mem (Ok (letter_at i names done cur)) (over zeros (rows ++ map value done)) (over lent (names ++ cur))

pub starting : (lent : List ℕ) (i : ℕ) (rows names : List ℕ) → mem (Ok (line_start i (length names))) (over zeros rows) (over lent names) ≡ numbering lent i rows names [] []
unfolding name_of_kind
starting lent i rows names = rw (append-nil rows)

-- ---- the rows
map_one_more : (done : List (List ℕ)) (cur : List ℕ) → map value (done ++ cur ∷ []) ≡ map value done ++ value cur ∷ []
map_one_more [] cur = refl
map_one_more (f ∷ done) cur = ap (λ (l : List ℕ). value f ∷ l) (map_one_more done cur)

module _ (rows : List ℕ) (i : ℕ) (whole : length rows ≡ i * 17) (small : i < 512) where
  place : (ns : List ℕ) → length (rows ++ ns) ≡ i * 17 + length ns
  place ns = length-append rows ns ∙ rw whole

  pub put_one : (ns : List ℕ) (k v : ℕ) → length ns ≡ k → k ≤ 16 → set (over zeros (rows ++ ns)) (i * 17 + k) v ≡ over zeros (rows ++ (ns ++ v ∷ []))
  put_one ns k v e h =
      let p : i * 17 + k ≡ length (rows ++ ns) = sym (place ns ∙ ap (λ (z : ℕ). i * 17 + z) e) in
      rw (p, ← append_assoc rows ns (v ∷ []))
      (over-more zeros (rows ++ ns) v (rw (← p, length-replicate {A = ℕ} 8704 0) (omega arith)))

  pub fill : (ns : List ℕ) → length ns ≤ 17 → over zeros (rows ++ ns) ≡ over zeros (rows ++ filled ns)
  fill ns h =
      rw (← append_assoc rows ns (replicate (17 - length ns) 0))
      (sym (over_zeros 8704 (rows ++ ns) (17 - length ns) (rw (place ns) (omega arith))))

-- ---- what a byte does
name-over : (i : ℕ) (names : List ℕ) (done : List (List ℕ)) (cur : List ℕ) → name_after (number_at i names done cur) (value cur) ≡ name_of_kind (kind_of (done ++ cur ∷ []))
name-over i names [] cur = refl
name-over i names (f ∷ done) cur = rw (eqb-suc-zero (length done))

module _ (lent : List ℕ) (long : length lent ≡ 2048) (i : ℕ) (rows names : List ℕ) (whole : length rows ≡ i * 17) (small : i < 512) where
  -- a number is over
  filed : (done : List (List ℕ)) (cur : List ℕ) → length done ≤ 16 → over zeros (rows ++ map value (done ++ cur ∷ [])) ≡ set (over zeros (rows ++ map value done)) (i * 17 + length done) (value cur)
  filed done cur h = rw (map_one_more done cur) (sym (put_one rows i whole small (map value done) (length done) (value cur) (length-map done value) h))

  -- a tab after a number
  pub tabbed : (done : List (List ℕ)) (cur : List ℕ) → 0 < length cur → length done < 16 → numbering lent i rows names (done ++ cur ∷ []) [] ≡ turn_of (numbering lent i rows names done cur) 9
  unfolding tab_in
  tabbed done cur h k =
      in_rows (over lent names)
      (rw (some_so_far cur h)
      (yes _ _ (lt-ltb (length done) 16 k)
      (rw (length-append done (cur ∷ []), name-over i names done cur, filed done cur (omega arith)))))
      ∙ turn_tab _ _ _ small

  pub tab_empty : (done : List (List ℕ)) (cur : List ℕ) → ltb 0 (length cur) ≡ false → mem (failed (number_at i names done cur)) (over zeros (rows ++ map value done)) (over lent names) ≡ turn_of (numbering lent i rows names done cur) 9
  unfolding tab_in
  tab_empty done cur e = in_rows (over lent names) (rw (none_so_far cur e)) ∙ turn_tab _ _ _ small

  pub tab_past : (done : List (List ℕ)) (cur : List ℕ) → 0 < length cur → 16 ≤ length done → mem (failed (number_at i names done cur)) (over zeros (rows ++ map value done)) (over lent names) ≡ turn_of (numbering lent i rows names done cur) 9
  unfolding tab_in
  tab_past done cur h k = in_rows (over lent names) (rw (some_so_far cur h) (no _ _ (le-ltb (length done) 16 k) refl)) ∙ turn_tab _ _ _ small

  -- a tab after a name
  pub tab_name : (done : List (List ℕ)) (cur : List ℕ) → mem (failed (letter_at i names done cur)) (over zeros (rows ++ map value done)) (over lent (names ++ cur)) ≡ turn_of (lettering lent i rows names done cur) 9
  unfolding tab_in
  tab_name done cur = turn_tab _ _ _ small

  -- a digit, and what is none
  module _ (b : ℕ) (not_line : eqb b 10 ≡ false) (not_tab : eqb b 9 ≡ false) (done : List (List ℕ)) (cur : List ℕ) where
    module _ (ahead : length done < name_by done) where
      digit-by : {s : Result Place Unread} → s ≡ digit_of (number_at i names done cur) b → mem s (over zeros (rows ++ map value done)) (over lent names) ≡ turn_of (numbering lent i rows names done cur) b
      digit-by e = ap (λ (s : Result Place Unread). mem s (over zeros (rows ++ map value done)) (over lent names)) e ∙ turn-digit _ _ _ small b not_line not_tab (before-name (kind_of done) (length done) ahead)

      pub digit-read : is_digit b ≡ true → value cur * 10 + (b - 48) < 2 ^ 32 → numbering lent i rows names done (cur ++ b ∷ []) ≡ turn_of (numbering lent i rows names done cur) b
      digit-read e h = digit-by (rw (more_so_far cur b, digit-more cur b e h))

      pub digit-none : is_digit b ≡ false → mem (failed (number_at i names done cur)) (over zeros (rows ++ map value done)) (over lent names) ≡ turn_of (numbering lent i rows names done cur) b
      digit-none e = digit-by (rw (no-digit (so_far cur) b e))

      pub digit_large : is_digit b ≡ true → 2 ^ 32 ≤ value cur * 10 + (b - 48) → mem (failed (number_at i names done cur)) (over zeros (rows ++ map value done)) (over lent names) ≡ turn_of (numbering lent i rows names done cur) b
      digit_large e h = digit-by (rw (digit-past cur b e h))

    -- a byte of a name, and one too many
    in_name_here : eqb (length done) (length done) ≡ true
    in_name_here = eq-eqb (length done) (length done) refl

    pub letter-read : length names + length cur < 2048 → lettering lent i rows names done (cur ++ b ∷ []) ≡ turn_of (lettering lent i rows names done cur) b
    unfolding letter_of
    letter-read h =
        in_names_lem (over zeros (rows ++ map value done))
        (yes _ _ (lt-ltb _ _ h)
        (rw (length-append cur (b ∷ []), ← append_assoc names cur (b ∷ []), ← length-append names cur, over-more lent (names ++ cur) b (rw (length-append names cur, long) h))))
        ∙ turn-letter _ _ _ small b not_line not_tab in_name_here

    pub letter-past : 2048 ≤ length names + length cur → mem (failed (letter_at i names done cur)) (over zeros (rows ++ map value done)) (over lent (names ++ cur)) ≡ turn_of (lettering lent i rows names done cur) b
    unfolding letter_of
    letter-past h = in_names_lem (over zeros (rows ++ map value done)) (no _ _ (le-ltb _ _ h) refl) ∙ turn-letter _ _ _ small b not_line not_tab in_name_here

  -- byte 10 after a number
  module _ (done : List (List ℕ)) (cur : List ℕ) (ahead : length done < name_by done) where
    pub end_empty : ltb 0 (length cur) ≡ false → mem (failed (number_at i names done cur)) (over zeros (rows ++ map value done)) (over lent names) ≡ turn_of (numbering lent i rows names done cur) 10
    unfolding end_of
    end_empty e = in_rows (over lent names) (rw (before-name (kind_of done) (length done) ahead, none_so_far cur e)) ∙ turn_end _ _ _ small

    pub end-early : 0 < length cur → (name_by (done ++ cur ∷ []) ≡ 17 → ⊥) → mem (failed (number_at i names done cur)) (over zeros (rows ++ map value done)) (over lent names) ≡ turn_of (numbering lent i rows names done cur) 10
    unfolding end_of
    end-early h n =
        in_rows (over lent names)
        (rw (before-name (kind_of done) (length done) ahead, some_so_far cur h)
        (rw (name-over i names done cur, name_given (kind_of (done ++ cur ∷ [])) n)))
        ∙ turn_end _ _ _ small

    pub end-number : 0 < length cur → name_by (done ++ cur ∷ []) ≡ 17 → length done ≤ 16 → mem (Ok (line_start (i + 1) (length names))) (over zeros (rows ++ filled (map value (done ++ cur ∷ [])))) (over lent names) ≡ turn_of (numbering lent i rows names done cur) 10
    unfolding end_of
    end-number h n k =
        in_rows (over lent names)
        (rw (before-name (kind_of done) (length done) ahead, some_so_far cur h)
        (rw (name-over i names done cur, name-none (kind_of (done ++ cur ∷ [])) n)
        (ap₂ with (ap (λ (start : ℕ). Ok (line_start (i + 1) start)) (sym (add-zero (length names)))) row)))
        ∙ turn_end _ _ _ small
      where
        row : over zeros (rows ++ filled (map value (done ++ cur ∷ []))) ≡ set (over zeros (rows ++ map value done)) (i * 17 + length done) (value cur)
        row = sym (fill rows i whole small (map value (done ++ cur ∷ [])) (rw (length-map (done ++ cur ∷ []) value, length-append done (cur ∷ [])) (omega arith))) ∙ filed done cur k

  -- byte 10 after a name
  pub end-name : (done : List (List ℕ)) (cur : List ℕ) → length done ≤ 2 → mem (Ok (line_start (i + 1) (length (names ++ cur)))) (over zeros (rows ++ filled (map value done ++ length names ∷ length cur ∷ []))) (over lent (names ++ cur)) ≡ turn_of (lettering lent i rows names done cur) 10
  unfolding end_of
  end-name done cur h = in_rows (over lent (names ++ cur)) (yes _ _ (eq-eqb (length done) (length done) refl) (ap₂ with (ap (λ (start : ℕ). Ok (line_start (i + 1) start)) (length-append names cur)) row)) ∙ turn_end _ _ _ small
    where
      ns : List ℕ
      ns = map value done

      more : List ℕ
      more = ns ++ length names ∷ length cur ∷ []

      long-more : length more ≡ length done + 2
      long-more = length-append ns (length names ∷ length cur ∷ []) ∙ rw (length-map done value)

      second : set (over zeros (rows ++ (ns ++ length names ∷ []))) (i * 17 + length done + 1) (length cur) ≡ over zeros (rows ++ more)
      second =
          rw (add_assoc (i * 17) (length done) 1, ← append_assoc ns (length names ∷ []) (length cur ∷ []))
          (put_one rows i whole small (ns ++ length names ∷ []) (length done + 1) (length cur) (length-append ns (length names ∷ []) ∙ rw (length-map done value)) (omega arith))

      row : over zeros (rows ++ filled more) ≡ set (set (over zeros (rows ++ ns)) (i * 17 + length done) (length names)) (i * 17 + length done + 1) (length cur)
      row =
          rw (put_one rows i whole small ns (length done) (length names) (length-map done value) (omega arith), second)
          (sym (fill rows i whole small more (rw long-more (omega arith))))
