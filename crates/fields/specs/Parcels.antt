-- A word as its parcels of 16 bits, high first, and the word that parcels make.
use Rattle.std.specs.Prelude.{ℕ, zero, suc, ◌+◌, ◌*◌, ◌/◌, ◌%◌, ◌^◌, List, [], ◌∷◌, length}

-- the low n parcels of a word
abbrev pub cut : ℕ → ℕ → List ℕ
cut zero word = []
cut (suc n) word = (word / 2 ^ (16 * n) % 2 ^ 16) ∷ cut n word

-- the word that parcels make
abbrev pub joined : List ℕ → ℕ
joined [] = 0
joined (p ∷ ps) = p * 2 ^ (16 * length ps) + joined ps
