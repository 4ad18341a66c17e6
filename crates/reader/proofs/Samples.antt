-- Inputs that document 01 and its readings name, by computation.
use mathlib.Core.Path.{◌≡◌, refl}
use mathlib.Core.List.{[], ◌∷◌, ◌++◌}
use Rattle.reader.specs.Lines.{is_number, plain, naming, line_of, filled, fits, rows, unread, said}

-- `48⇥top`, `25⇥1⇥1`, `49⇥1⇥top`, `38`
example :
    said (52 ∷ 56 ∷ 9 ∷ 116 ∷ 111 ∷ 112 ∷ 10 ∷ 50 ∷ 53 ∷ 9 ∷ 49 ∷ 9 ∷ 49 ∷ 10 ∷ 52 ∷ 57 ∷ 9 ∷ 49 ∷ 9 ∷ 116 ∷ 111 ∷ 112 ∷ 10 ∷ 51 ∷ 56 ∷ [])
    ≡ rows (filled (48 ∷ 0 ∷ 3 ∷ []) ++ filled (25 ∷ 1 ∷ 1 ∷ []) ++ filled (49 ∷ 1 ∷ 3 ∷ 3 ∷ []) ++ filled (38 ∷ [])) (116 ∷ 111 ∷ 112 ∷ 116 ∷ 111 ∷ 112 ∷ [])
unfolding is_number plain naming line_of fits
example = refl

-- no input has no line
nothing : said [] ≡ rows [] []
nothing = refl

-- an empty line is unread, a trailing blank one too
blank : said (10 ∷ []) ≡ unread 1
unfolding is_number plain naming line_of fits
blank = refl

trailing : said (53 ∷ 10 ∷ 10 ∷ []) ≡ unread 2
unfolding is_number plain naming line_of fits
trailing = refl

-- `048⇥x` is kind 48, by value; `48⇥` is an empty name; `48` alone is unread
by_value : said (48 ∷ 52 ∷ 56 ∷ 9 ∷ 120 ∷ []) ≡ rows (filled (48 ∷ 0 ∷ 1 ∷ [])) (120 ∷ [])
unfolding is_number plain naming line_of fits
by_value = refl

empty_name : said (52 ∷ 56 ∷ 9 ∷ []) ≡ rows (filled (48 ∷ [])) []
unfolding is_number plain naming line_of fits
empty_name = refl

no_name : said (52 ∷ 56 ∷ []) ≡ unread 1
unfolding is_number plain naming line_of fits
no_name = refl

-- 4294967295 is a number, and 4294967296 is none
largest : said (52 ∷ 50 ∷ 57 ∷ 52 ∷ 57 ∷ 54 ∷ 55 ∷ 50 ∷ 57 ∷ 53 ∷ []) ≡ rows (filled (4294967295 ∷ [])) []
unfolding is_number plain naming line_of fits
largest = refl

too_large : said (52 ∷ 50 ∷ 57 ∷ 52 ∷ 57 ∷ 54 ∷ 55 ∷ 50 ∷ 57 ∷ 54 ∷ []) ≡ unread 1
unfolding is_number plain naming line_of fits
too_large = refl
