-- Any byte but 10 leaves a line at hand, which the end of the input ends as byte 10 does.
use mathlib.Core.Path.{◌≡◌, refl, sym, ◌∙◌}
use mathlib.Core.Bool.{true, false, true≢false, cond}
use mathlib.Core.List.{List, [], ◌∷◌}
use Prim.Native.Nat.{ℕ, ◌+◌, ◌<◌}
use native.Mathlib.Omega.{arith}
use lib.Dec.{ltb, leb, eqb}
use borrow.Author.Tests.{eqb-true, lt-ltb}
use Rattle.std.specs.Prelude.{Option, Some, None, is_some, Result, Ok, Err}
use Rattle.reader.specs.declared.Place.{Place}
use Rattle.reader.specs.declared.Reader.{Reader}
use Rattle.reader.specs.declared.Unread.{Unread}
use Rattle.reader.specs.Steps.{Early, FineIn, is_begun, is_at, in_name, with_digit, digit_in, digit_of, With, letter_of, tab_in, turn_at, turn_in, turn_of, run, ended_in, ended}
use Rattle.reader.proofs.Conds.{cond_keeps}
use Rattle.reader.proofs.Cuts.{Free}
use Rattle.reader.proofs.Keeps.{turn-fine}
use Rattle.reader.proofs.Turns.{stays-unread}

abbrev AtHand : Result Place Unread → Type 0
AtHand (Ok s) = is_begun s ≡ true
AtHand (Err e) = Unit {0}

abbrev AtHandIn : With → Type 0
AtHandIn w = AtHand w.place

abbrev AtHandMem : Reader → Type 0
AtHandMem m = AtHand m.place

-- a field that is over begins a line
field_begins : (v : Option ℕ) (f : ℕ) → 0 < f → cond (is_some v) true (ltb 0 f) ≡ true
field_begins None f h = lt-ltb 0 f h
field_begins (Some v) f h = refl

digit_at_hand : (s : Place) (b : ℕ) → AtHand (digit_of s b)
digit_at_hand s b = by (with_digit s.value b)
  where
    by : (v : Option ℕ) → AtHand (digit_in s v)
    by None = tt
    by (Some v) = refl

letter_at_hand : (s : Place) (b : ℕ) (l : List ℕ) → 0 < s.field → AtHandIn (letter_of s b l)
unfolding letter_of
letter_at_hand s b l h = cond_keeps AtHandIn (ltb (s.start + s.bytes) 2048) _ _ (λ _. field_begins s.value s.field h) (λ _. tt)

tab_at_hand : (s : Place) (l : List ℕ) (v : Option ℕ) → AtHandIn (tab_in s l v)
unfolding tab_in
tab_at_hand s l None = tt
tab_at_hand s l (Some v) = cond_keeps AtHandIn (ltb s.field 16) _ _ (λ _. lt-ltb 0 (s.field + 1) (omega arith)) (λ _. tt)

-- a name is no first field
later : (o : Option ℕ) (f : ℕ) → Early o → is_at o f ≡ true → 0 < f
later None f h e = absurd (true≢false (sym e))
later (Some n) f h e = omega (arith, h.0, eqb-true f n e)

turn_at_hand : (p : Result Place Unread) (rs ns : List ℕ) (b : ℕ) → FineIn p → eqb b 10 ≡ false → AtHandMem (turn_in p rs ns b)
unfolding turn_at
turn_at_hand (Ok s) rs ns b f n =
    cond_keeps AtHandMem (leb 512 s.items) _ _ (λ _. tt)
    (λ _. cond_keeps AtHandMem (eqb b 10) _ _ (λ e. absurd (true≢false (sym e ∙ n)))
    (λ _. cond_keeps AtHandMem (eqb b 9) _ _ (λ _. tab_at_hand s rs s.value)
    (λ _. cond_keeps AtHandMem (in_name s) _ _ (λ e. letter_at_hand s b ns (later s.name s.field f.name e)) (λ _. digit_at_hand s b))))
turn_at_hand (Err e) rs ns b f n = tt

pub run_at_hand : (m : Reader) (b : ℕ) (q : List ℕ) → FineIn m.place → Free (b ∷ q) → AtHandMem (run m (b ∷ q))
unfolding turn_of
run_at_hand m b [] f free = turn_at_hand m.place m.rows m.names b f free.0
run_at_hand m b (c ∷ q) f free = run_at_hand (turn_of m b) c q (turn-fine m b f) free.1

-- ---- the end of the input
pub ended_at_hand : (m : Reader) → AtHandMem m → ended m ≡ turn_of m 10
unfolding turn_of ended
ended_at_hand m = by m.place m.rows m.names
  where
    by : (p : Result Place Unread) (rs ns : List ℕ) → AtHand p → ended_in p rs ns ≡ turn_in p rs ns 10
    by (Ok s) rs ns h = cond_keeps (λ (z : Reader). z ≡ turn_at s rs ns 10) (is_begun s) _ _ (λ _. refl) (λ e. absurd (true≢false (sym h ∙ e)))
    by (Err e) rs ns h = refl

pub ended-unread : (m : Reader) (e : Unread) → m.place ≡ Err e → ended m ≡ m
ended-unread m e h = ended_at_hand m (rw h tt) ∙ stays-unread m e (10 ∷ []) h
