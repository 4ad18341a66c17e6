-- Document 02, wish 4: the first two parcels of `LeafReturn` alone are "a pre-modify load of I12, and then the third starts no known form".
use Prim.Native.Nat.{ℕ, ◌+◌, ◌*◌, ◌/◌, ◌^◌, ◌<◌}
use native.Mathlib.Omega.{arith}
use mathlib.Core.Path.{◌≡◌, refl, ap, ◌∙◌}
use mathlib.Core.Bool.{true, false}
use mathlib.Core.List.{List, [], ◌∷◌}
use lib.ListN.{length}
use borrow.Author.Tests.{eq-eqb, le-leb}
use Rattle.fields.specs.Pack.{Field, fixed, operand, field}
use Rattle.fields.specs.Matching.{matches, found, raised, apart}
use Rattle.fields.proofs.Matching.{both, is_false, not_both, matches-raised, found-raised}
use Rattle.words.specs.Forms.{modify3b}
use Rattle.bounds.specs.Tables.{at}
use Rattle.known.specs.Front as front
use Rattle.std.specs.Prelude.{Some, None}
use Rattle.known.specs.Table.{Line, first_line, line, known, line3b, table, known_in}
use Rattle.known.specs.Window.{window, starts_leaf, known_at, reading_at}
use Rattle.known.specs.Front.{Parcels}
use Rattle.known.proofs.Apart.{apart_from}

-- a word of a form that is apart from every line
apart_none :
    {A : Type 0} (fs : List Field) (other : A) (ls : List (Line A)) (word : ℕ) → apart_from fs ls ≡ true → matches fs word ≡ true → first_line other ls word ≡ other
apart_none fs other [] word a m = refl
apart_none fs other (l ∷ ls) word a m =
    let b = both (apart fs l.form) (apart_from fs ls) a in
    let f : matches l.form word ≡ false = is_false _ (λ k. not_both fs l.form word b.0 m k) in
    rw f (apart_none fs other ls word b.1 m)

-- "the third starts no known form"
abbrev third : List Field
third = fixed 47 32 0x083f ∷ operand 31 0 0 ∷ []

third-apart : apart_from third table ≡ true
unfolding table
third-apart = refl

third-word : (y z : ℕ) → y < 2 ^ 16 → z < 2 ^ 16 → matches third (0x083f * 2 ^ 32 + y * 2 ^ 16 + z) ≡ true
third-word y z hy hz = rw (eq-eqb (field 47 32 (0x083f * 2 ^ 32 + y * 2 ^ 16 + z)) 0x083f (omega arith))

third-nothing : (rest : List ℕ) → Parcels rest → known_in (window (0x083f ∷ rest)) ≡ None
unfolding known_in
third-nothing rest h =
    apart_none third None table (window (0x083f ∷ rest)) third-apart (third-word (at rest 0) (at rest 1) (h 0) (h 1))

pub third-unknown : (rest : List ℕ) → Parcels rest → reading_at (0x083f ∷ rest) ≡ front.unknown
unfolding known_at
third-unknown rest h = rw (third-nothing rest h)

-- "its first two alone are a pre-modify load of I12": where the other four do not follow
abbrev load : List ℕ
load = line 21 28 6 7

front-word : (y : ℕ) → y < 2 ^ 16 → (0x4dfe * 2 ^ 32 + 0x0e3f * 2 ^ 16 + y) / 2 ^ 16 ≡ 0x4dfe_0e3f
front-word y h = omega arith

load-known : (y : ℕ) → y < 2 ^ 16 → known_in (0x4dfe * 2 ^ 32 + 0x0e3f * 2 ^ 16 + y) ≡ Some (known 2 load)
unfolding known_in table
load-known y h =
    let word = 0x4dfe * 2 ^ 32 + 0x0e3f * 2 ^ 16 + y in
    let m : matches (raised 16 (modify3b 0 0 0 0)) word ≡ true = matches-raised 16 (modify3b 0 0 0 0) word ∙ ap (matches (modify3b 0 0 0 0)) (front-word y h) in
    let f : found (raised 16 (modify3b 0 0 0 0)) word ≡ 6 ∷ 7 ∷ 0 ∷ 28 ∷ [] = found-raised 16 (modify3b 0 0 0 0) word ∙ ap (found (modify3b 0 0 0 0)) (front-word y h) in
    rw m (ap line3b.made f)

pub leaf-alone : (rest : List ℕ) → Parcels rest → starts_leaf (0x4dfe ∷ 0x0e3f ∷ rest) ≡ false → reading_at (0x4dfe ∷ 0x0e3f ∷ rest) ≡ front.known 2 load
unfolding known_at
leaf-alone rest h l = rw (l, load-known (at rest 0) (h 0), le-leb 2 (length (0x4dfe ∷ 0x0e3f ∷ rest)) (omega arith))

pub leaf-cut : reading_at (0x4dfe ∷ 0x0e3f ∷ []) ≡ front.known 2 load
leaf-cut = leaf-alone [] (λ i. none i) refl
  where
    none : (i : ℕ) → at [] i < 2 ^ 16
    none i = omega arith
