-- What holds of a line of the reader's table for all numbers that suit its form holds of every word of the form; what holds of every line holds of the table.
use Prim.Native.Nat.{ℕ, ◌+◌, ◌-◌, ◌*◌, ◌/◌, ◌^◌, ◌≤◌, ◌<◌}
use native.Mathlib.Omega.{arith}
use mathlib.Core.Path.{◌≡◌, refl, sym, ◌∙◌, subst}
use mathlib.Core.Logic.{◌⊎◌}
use mathlib.Core.Bool.{Bool, true, false, cond}
use mathlib.Core.List.{List, [], ◌∷◌}
use Rattle.fields.specs.Pack.{Field, fixed, operand, pack, Tiles}
use Rattle.fields.specs.Parcels.{cut}
use Rattle.fields.specs.Matching.{matches, found, raised, Suits, filled_by}
use Rattle.fields.proofs.Matching.{remade, found_suits, matches-raised, found-raised}
use Rattle.encode.proofs.Laid.{Wide, one, two, three}
use Rattle.std.specs.Prelude.{Option, Some, None}
use Rattle.known.specs.declared.Known.{Known}
use Rattle.known.specs.Front.{EncodesTo, StartsLoop}
use Rattle.known.specs.Table.{Line, first_line, known_if, entry}

-- ---- forms: for all numbers that suit, one after the other
abbrev pub ForAll : List Field → (List ℕ → Type 0) → Type 0
ForAll [] P = P []
ForAll (fixed hi lo v ∷ fs) P = ForAll fs P
ForAll (operand hi lo m ∷ fs) P = (n : ℕ) → n < 2 ^ (hi + 1 - lo) → ForAll fs (λ ns. P (n ∷ ns))

for_suits : (fs : List Field) (P : List ℕ → Type 0) → ForAll fs P → (ns : List ℕ) → Suits fs ns → P ns
for_suits [] P all [] s = all
for_suits [] P all (n ∷ ns) s = absurd s
for_suits (fixed hi lo v ∷ fs) P all ns s = for_suits fs P all ns s
for_suits (operand hi lo m ∷ fs) P all [] s = absurd s
for_suits (operand hi lo m ∷ fs) P all (n ∷ ns) s = for_suits fs (λ ms. P (n ∷ ms)) (all n s.0) ns s.1

pub of-form :
    (top : ℕ) (fs : List Field) (P : List ℕ → ℕ → Type 0) → Tiles top fs → ForAll fs (λ ns. P ns (pack (filled_by fs ns))) →
    (word : ℕ) → word < 2 ^ top → matches fs word ≡ true → P (found fs word) word
of-form top fs P t all word h m =
    subst (P (found fs word)) (remade top fs word t m h) (for_suits fs (λ ns. P ns (pack (filled_by fs ns))) all (found fs word) (found_suits fs word))

-- ---- tables: what a line makes of a word below top
pub record Holds {A : Type 0} (P : A → ℕ → Type 0) (top : ℕ) (l : Line A) : Type 0 where
  pub holds : (word : ℕ) → word < top → matches l.form word ≡ true → P (l.made (found l.form word)) word

abbrev pub Each : {A : Type 0} → (Line A → Type 0) → List (Line A) → Type 0
Each Q [] = Unit
Each Q (l ∷ ls) = Q l × Each Q ls

pub first-line :
    {A : Type 0} (P : A → ℕ → Type 0) (top : ℕ) (other : A) (ls : List (Line A)) → Each (Holds P top) ls → (word : ℕ) → word < top → P other word →
    P (first_line other ls word) word
first-line P top other [] all word h o = o
first-line {A} P top other (l ∷ ls) all word h o = go (matches l.form word) refl (first-line P top other ls all.1 word h o)
  where
    go : (t : Bool) → matches l.form word ≡ t → P (first_line other ls word) word → P (cond t (l.made (found l.form word)) (first_line other ls word)) word
    go true e rest = all.0.holds word h e
    go false e rest = rest

-- ---- entries: the parcels are an instruction's, or a loop start's
abbrev pub Gives : ℕ → List ℕ → List ℕ → Type 0
Gives n parcels row = EncodesTo parcels row ⊎ ((n ≡ 3) × StartsLoop parcels row)

-- what stands at the front of a word of three parcels
abbrev pub Stands : Option Known → ℕ → Type 0
Stands None word = Unit {0}
Stands (Some k) word = (k.parcels ≤ 3) × Gives k.parcels (cut k.parcels (word / 2 ^ (48 - 16 * k.parcels))) k.row

front-small : (n word : ℕ) → Wide n → word < 2 ^ 48 → word / 2 ^ (48 - 16 * n) < 2 ^ (16 * n)
front-small n word (one e) h = rw e (omega arith)
front-small n word (two e) h = rw e (omega arith)
front-small n word (three e) h = rw e (omega arith)

few : (n : ℕ) → Wide n → n ≤ 3
few n (one e) = omega arith
few n (two e) = omega arith
few n (three e) = omega arith

-- a line's form tiles its parcels, and its row gives them for all numbers that suit the form and are fine
pub record Entry (n : ℕ) (form : List Field) (fine : List ℕ → Bool) (row : List ℕ → List ℕ) : Type 0 where
  pub wide : Wide n
  pub tiles : Tiles (16 * n) form
  pub each : ForAll form (λ ns. fine ns ≡ true → Gives n (cut n (pack (filled_by form ns))) (row ns))

abbrev pub entered :
    {n : ℕ} {form : List Field} {fine : List ℕ → Bool} {row : List ℕ → List ℕ} → Wide n → Tiles (16 * n) form →
    ForAll form (λ ns. fine ns ≡ true → Gives n (cut n (pack (filled_by form ns))) (row ns)) → Entry n form fine row
entered wide tiles each = record { wide = wide; tiles = tiles; each = each }

module _ {n : ℕ} {form : List Field} {fine : List ℕ → Bool} {row : List ℕ → List ℕ} (entry_of : Entry n form fine row) where
  made-stands :
      (ns : List ℕ) (word : ℕ) → (fine ns ≡ true → Gives n (cut n (word / 2 ^ (48 - 16 * n))) (row ns)) → Stands (known_if (fine ns) n (row ns)) word
  made-stands ns word g = go (fine ns) g
    where
      go : (t : Bool) → (t ≡ true → Gives n (cut n (word / 2 ^ (48 - 16 * n))) (row ns)) → Stands (known_if t n (row ns)) word
      go true g = (few n entry_of.wide, g refl)
      go false g = tt

  abbrev higher : List Field
  higher = raised (48 - 16 * n) form

  stands : (word : ℕ) → word < 2 ^ 48 → matches higher word ≡ true → Stands (known_if (fine (found higher word)) n (row (found higher word))) word
  stands word h m =
      let d = 48 - 16 * n in
      let g =
      of-form (16 * n) form (λ ns front. fine ns ≡ true → Gives n (cut n front) (row ns)) entry_of.tiles entry_of.each (word / 2 ^ d)
      (front-small n word entry_of.wide h) (sym (matches-raised d form word) ∙ m) in
      subst (λ (ns : List ℕ). Stands (known_if (fine ns) n (row ns)) word) (sym (found-raised d form word)) (made-stands (found form (word / 2 ^ d)) word g)

  pub entry-stands : Holds Stands (2 ^ 48) (entry n form fine row)
  entry-stands = record { holds = stands }
