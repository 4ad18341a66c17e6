-- A form read off a word: whether its constant bits stand there, and the numbers at its operands' places. Instruments of the reader.
use Rattle.std.specs.Prelude.{ℕ, ◌+◌, ◌-◌, ◌/◌, ◌%◌, ◌^◌, ◌<◌, Bool, true, false, not, cond, ◌&&◌, ◌||◌, List, [], ◌∷◌, eqb, leb}
use Rattle.fields.specs.Pack.{Field, fixed, operand, field}

-- a word is of the form where the constant bits stand
abbrev pub matches : List Field → ℕ → Bool
matches [] word = true
matches (fixed hi lo v ∷ fs) word = eqb (field hi lo word) v && matches fs word
matches (operand hi lo n ∷ fs) word = matches fs word

-- the instruction's numbers, and what a word has at their places
abbrev pub operands : List Field → List ℕ
operands [] = []
operands (fixed hi lo v ∷ fs) = operands fs
operands (operand hi lo n ∷ fs) = n ∷ operands fs

abbrev pub found : List Field → ℕ → List ℕ
found [] word = []
found (fixed hi lo v ∷ fs) word = found fs word
found (operand hi lo n ∷ fs) word = field hi lo word ∷ found fs word

-- the same form with no numbers, and d bits higher
abbrev pub shape : List Field → List Field
shape [] = []
shape (fixed hi lo v ∷ fs) = fixed hi lo v ∷ shape fs
shape (operand hi lo n ∷ fs) = operand hi lo 0 ∷ shape fs

abbrev pub raised : ℕ → List Field → List Field
raised d [] = []
raised d (fixed hi lo v ∷ fs) = fixed (hi + d) (lo + d) v ∷ raised d fs
raised d (operand hi lo n ∷ fs) = operand (hi + d) (lo + d) n ∷ raised d fs

-- two fixed fields have bits h:l in common, where they differ
abbrev pub part : ℕ → ℕ → ℕ → ℕ → ℕ
part v lo h l = v / 2 ^ (l - lo) % 2 ^ (h + 1 - l)

abbrev pub differ : ℕ → ℕ → ℕ → ℕ → ℕ → ℕ → ℕ → ℕ → Bool
differ h l hi lo v hi' lo' v' =
    leb lo l && (leb lo' l && (leb l h && (leb h hi && (leb h hi' && not (eqb (part v lo h l) (part v' lo' h l))))))

abbrev pub less : ℕ → ℕ → ℕ
less a b = cond (leb a b) a b

abbrev pub more : ℕ → ℕ → ℕ
more a b = cond (leb a b) b a

-- two forms are apart where some constant bit of the one differs from a constant bit of the other
abbrev pub clashes : ℕ → ℕ → ℕ → List Field → Bool
clashes hi lo v [] = false
clashes hi lo v (fixed hi' lo' v' ∷ gs) = differ (less hi hi') (more lo lo') hi lo v hi' lo' v' || clashes hi lo v gs
clashes hi lo v (operand hi' lo' n ∷ gs) = clashes hi lo v gs

abbrev pub apart : List Field → List Field → Bool
apart [] gs = false
apart (fixed hi lo v ∷ fs) gs = clashes hi lo v gs || apart fs gs
apart (operand hi lo n ∷ fs) gs = apart fs gs

-- as many numbers as the form has operands, each of its field's width; and the form with them
abbrev pub Suits : List Field → List ℕ → Type 0
Suits [] [] = Unit
Suits [] (n ∷ ns) = ⊥
Suits (fixed hi lo v ∷ fs) ns = Suits fs ns
Suits (operand hi lo m ∷ fs) [] = ⊥
Suits (operand hi lo m ∷ fs) (n ∷ ns) = (n < 2 ^ (hi + 1 - lo)) × Suits fs ns

abbrev pub filled_by : List Field → List ℕ → List Field
filled_by [] ns = []
filled_by (fixed hi lo v ∷ fs) ns = fixed hi lo v ∷ filled_by fs ns
filled_by (operand hi lo m ∷ fs) [] = operand hi lo m ∷ filled_by fs []
filled_by (operand hi lo m ∷ fs) (n ∷ ns) = operand hi lo n ∷ filled_by fs ns
