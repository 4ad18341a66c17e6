-- THE LAW of the table: the parcels of fields that have a line's form are found at that line, and give the fields' numbers.
use Prim.Native.Nat.{ℕ, zero, suc, ◌+◌, ◌-◌, ◌*◌, ◌/◌, ◌%◌, ◌^◌, ◌≤◌, ◌<◌}
use native.Mathlib.Omega.{arith}
use native.Mathlib.Nat.{mod-eq_of_lt}
use mathlib.Core.Path.{◌≡◌, refl, sym, ap, ◌∙◌}
use mathlib.Core.Bool.{true, false}
use mathlib.Core.List.{List, [], ◌∷◌, ◌++◌}
use lib.Dec.{ltb}
use lib.ListN.{length}
use lib.Pow.{mod-pow-add}
use borrow.Author.Tests.{ltb-true}
use Rattle.fields.specs.Pack.{Field, pack}
use Rattle.fields.specs.Parcels.{cut}
use Rattle.fields.specs.Faithful.{Spells}
use Rattle.fields.specs.Matching.{matches, operands, found, shape, raised, apart}
use Rattle.fields.proofs.Matching.{both, is_false, reads-matches, reads-found, not_both, same_shape, same-found, matches-raised, found-raised}
use Rattle.encode.proofs.Laid.{Wide, one, two, three}
use Rattle.std.specs.Prelude.{Option, Some, None}
use Rattle.known.specs.declared.Known.{Known}
use Rattle.known.specs.Table.{Line, first_line, known, line3b, transfers, others, few_parcels, computing, table, known_in}
use Rattle.known.specs.Window.{window}
use Rattle.known.specs.Front.{Parcels}
use Rattle.known.proofs.Apart.{apart_from, all_apart, table-apart, apart_3b}

-- ---- a line of a table
pub data In {A : Type 0} (l : A) : List A → Type 0 where
  here : {ls : List A} → In l (l ∷ ls)
  later : {x : A} {ls : List A} → In l ls → In l (x ∷ ls)

in_left : {A : Type 0} {l : A} (xs ls : List A) → In l xs → In l (xs ++ ls)
in_left [] ls i = elim i [ ]
in_left (x ∷ xs) ls here = here
in_left (x ∷ xs) ls (later i) = later (in_left xs ls i)

in_right : {A : Type 0} {l : A} (xs : List A) {ls : List A} → In l ls → In l (xs ++ ls)
in_right [] i = i
in_right (x ∷ xs) i = later (in_right xs i)

-- the line of a number, from 0
abbrev pub nth : {A : Type 0} → Line A → List (Line A) → ℕ → Line A
nth other [] i = other
nth other (l ∷ ls) zero = l
nth other (l ∷ ls) (suc i) = nth other ls i

pub in_nth : {A : Type 0} (other : Line A) (ls : List (Line A)) (i : ℕ) → ltb i (length ls) ≡ true → In (nth other ls i) ls
in_nth {A} other ls i h = go ls i (ltb-true i (length ls) h)
  where
    go : (ls : List (Line A)) (i : ℕ) → i < length ls → In (nth other ls i) ls
    go [] i h = absurd (omega arith)
    go (l ∷ ls) zero h = here
    go (l ∷ ls) (suc i) h = later (go ls i (omega arith))

-- what is apart from every line is no word of one; and where all lines are apart, a line's word is found at that line
module _ {A : Type 0} (l : Line A) (word : ℕ) (m : matches l.form word ≡ true) where
  pub apart_in : (fs : List Field) (ls : List (Line A)) → In l ls → apart_from fs ls ≡ true → matches fs word ≡ false
  apart_in fs [] i a = elim i [ ]
  apart_in fs (x ∷ ls) here a = is_false _ (λ k. not_both fs l.form word (both (apart fs l.form) (apart_from fs ls) a).0 k m)
  apart_in fs (x ∷ ls) (later i) a = apart_in fs ls i (both (apart fs x.form) (apart_from fs ls) a).1

  pub first : (other : A) (ls : List (Line A)) → In l ls → all_apart ls ≡ true → first_line other ls word ≡ l.made (found l.form word)
  first other [] i a = elim i [ ]
  first other (x ∷ ls) here a = rw m
  first other (x ∷ ls) (later i) a =
      let b = both (apart_from x.form ls) (all_apart ls) a in
      rw (apart_in x.form ls i b.0) (first other ls i b.1)

-- ---- the reader's table: a line is found by the words that are of its form and have these numbers
abbrev pub Listed : Line (Option Known) → List ℕ → Type 0
Listed l ns = (word : ℕ) → matches l.form word ≡ true → found l.form word ≡ ns → known_in word ≡ l.made ns

abbrev pub plain : List (Line (Option Known))
plain = transfers ++ (others ++ few_parcels)

after_3b : (word : ℕ) → matches line3b.form word ≡ false → known_in word ≡ first_line None (transfers ++ (others ++ (few_parcels ++ computing))) word
unfolding known_in table
after_3b word n = rw n

pub listed_3b : (ns : List ℕ) → Listed line3b ns
unfolding known_in table
listed_3b ns word m f = rw m (ap line3b.made f)

pub listed_plain : (l : Line (Option Known)) (ns : List ℕ) → In l plain → Listed l ns
listed_plain l ns i word m f =
    after_3b word (apart_in l word m line3b.form plain i apart_3b)
    ∙ first l word m None (transfers ++ (others ++ (few_parcels ++ computing))) (in_left plain computing i) table-apart
    ∙ ap l.made f

pub listed-computing : (l : Line (Option Known)) (ns : List ℕ) → In l computing → ((word : ℕ) → matches l.form word ≡ true → found l.form word ≡ ns → matches line3b.form word ≡ false) → Listed l ns
listed-computing l ns i n word m f =
    after_3b word (n word m f)
    ∙ first l word m None (transfers ++ (others ++ (few_parcels ++ computing))) (in_right plain i) table-apart
    ∙ ap l.made f

-- ---- the first parcels, over those that follow
joined-three : (word x y z m : ℕ) → word ≡ x * 2 ^ 32 + m → m ≡ y * 2 ^ 16 + z → (x * 2 ^ 32 + y * 2 ^ 16 + z) / 2 ^ 0 ≡ word
joined-three word x y z m e g = omega arith

window-one : (word : ℕ) (rest : List ℕ) → word < 2 ^ 16 → Parcels rest → window (cut 1 word ++ rest) / 2 ^ 32 ≡ word
window-one word rest h r = let a = r 0 in let b = r 1 in omega arith

window-two : (word : ℕ) (rest : List ℕ) → word < 2 ^ 32 → Parcels rest → window (cut 2 word ++ rest) / 2 ^ 16 ≡ word
window-two word rest h r = let a = r 0 in omega arith

window-three : (word : ℕ) (rest : List ℕ) → word < 2 ^ 48 → window (cut 3 word ++ rest) / 2 ^ 0 ≡ word
window-three word rest h =
    joined-three word (word / 2 ^ 32 % 2 ^ 16) (word / 2 ^ 16 % 2 ^ 16) (word / 2 ^ 0 % 2 ^ 16) (word % 2 ^ 32)
    (sym (mod-eq_of_lt h) ∙ mod-pow-add word 16 32) (mod-pow-add word 16 16 ∙ ap (λ (k : ℕ). word / 2 ^ 16 % 2 ^ 16 * 2 ^ 16 + k) (omega arith))

window-word : (n word : ℕ) (rest : List ℕ) → Wide n → word < 2 ^ (16 * n) → Parcels rest → window (cut n word ++ rest) / 2 ^ (48 - 16 * n) ≡ word
window-word n word rest (one e) h r = rw e (window-one word rest (rw e at h) r)
window-word n word rest (two e) h r = rw e (window-two word rest (rw e at h) r)
window-word n word rest (three e) h r = rw e (window-three word rest (rw e at h))

-- ---- THE LAW
-- a line of the table has the fields' form, and their numbers stand for the row
pub data Stands (n : ℕ) (fs : List Field) (row : List ℕ) : Type 0 where
  stands : (l : Line (Option Known)) → Wide n → Listed l (operands fs) → l.form ≡ raised (48 - 16 * n) (shape fs) → l.made (operands fs) ≡ Some (known n row) → Stands n fs row

module _ (own : List ℕ) (n : ℕ) (fs : List Field) (s : Spells own n fs) (rest : List ℕ) (r : Parcels rest) where
  own-word : Wide n → window (own ++ rest) / 2 ^ (48 - 16 * n) ≡ pack fs
  own-word w = rw s.cuts (window-word n (pack fs) rest w s.faithful.within r)

  of-form : Wide n → matches (raised (48 - 16 * n) (shape fs)) (window (own ++ rest)) ≡ true
  of-form w =
      matches-raised (48 - 16 * n) (shape fs) (window (own ++ rest)) ∙ ap (matches (shape fs)) (own-word w) ∙ same_shape fs (pack fs)
      ∙ reads-matches fs (pack fs) s.faithful.back

  gives-numbers : Wide n → found (raised (48 - 16 * n) (shape fs)) (window (own ++ rest)) ≡ operands fs
  gives-numbers w =
      found-raised (48 - 16 * n) (shape fs) (window (own ++ rest)) ∙ ap (found (shape fs)) (own-word w) ∙ same-found fs (pack fs)
      ∙ reads-found fs (pack fs) s.faithful.back

  pub reads-row : (row : List ℕ) → Stands n fs row → known_in (window (own ++ rest)) ≡ Some (known n row)
  reads-row row (stands l w i e q) =
      i (window (own ++ rest)) (ap (λ (gs : List Field). matches gs (window (own ++ rest))) e ∙ of-form w)
      (ap (λ (gs : List Field). found gs (window (own ++ rest))) e ∙ gives-numbers w)
      ∙ q

-- how many parcels they are
pub own-length : (own : List ℕ) (n : ℕ) (fs : List Field) (row : List ℕ) → Spells own n fs → Stands n fs row → (length own ≡ n) × (n ≤ 3)
own-length own n fs row s (stands l w i e q) = rw s.cuts (by_width w)
  where
    by_width : Wide n → (length (cut n (pack fs)) ≡ n) × (n ≤ 3)
    by_width (one e) = rw e (refl, omega arith)
    by_width (two e) = rw e (refl, omega arith)
    by_width (three e) = rw e (refl, omega arith)
