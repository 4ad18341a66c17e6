-- Any byte but 10 leaves a line at hand, which the end of the input ends as byte 10 does.
use mathlib.Core.Path.{◌≡◌, refl, sym, ◌∙◌}
use mathlib.Core.Bool.{true, false, true≢false}
use mathlib.Core.List.{List, [], ◌∷◌}
use Prim.Native.Nat.{ℕ, ◌+◌}
use native.Mathlib.Omega.{arith}
use lib.Dec.{ltb, eqb}
use borrow.Author.Tests.{lt-ltb}
use Rattle.std.specs.Prelude.{Option, Some, None, Result, Ok, Err}
use Rattle.reader.specs.declared.Unread.{Unread}
use Rattle.reader.specs.Steps.{with_digit}
use Rattle.reader.proofs.Conds.{cond_keeps}
use Rattle.reader.proofs.Cuts.{Free}
use Rattle.hex_lines.specs.declared.Part.{Part}
use Rattle.hex_lines.specs.declared.Part.TheVariants.{Digits, LetterO, Word, Count}
use Rattle.hex_lines.specs.declared.Place.{Place}
use Rattle.hex_lines.specs.declared.Reader.{Reader}
use Rattle.hex_lines.specs.Parcels.{is_hex}
use Rattle.hex_lines.specs.Steps.{is_begun, digit_of, begin_of, word_of, count_in, byte_in, turn_at, turn_in, turn_of, run, ended_in, ended}
use Rattle.hex_lines.proofs.Turns.{stays-unread}

abbrev AtHand : Result Place Unread → Type 0
AtHand (Ok s) = is_begun s.part ≡ true
AtHand (Err e) = Unit {0}

abbrev AtHandMem : Reader → Type 0
AtHandMem m = AtHand m.place

count_at_hand : (s : Place) (c : Option ℕ) → AtHand (count_in s c)
count_at_hand s None = tt
count_at_hand s (Some v) = refl

byte_at_hand : (s : Place) (b : ℕ) (part : Part) → AtHand (byte_in s b part)
unfolding byte_in begin_of digit_of word_of
byte_at_hand s b (Digits n v) =
    cond_keeps AtHand (eqb b 111) _ _
    (λ _. cond_keeps AtHand (eqb (s.passed + s.parcels + n) 0) _ _ (λ _. refl) (λ _. tt))
    (λ _. cond_keeps AtHand (is_hex b) _ _ (λ _. cond_keeps AtHand (ltb n 4) _ _ (λ _. lt-ltb 0 (n + 1) (omega arith)) (λ _. tt)) (λ _. tt))
byte_at_hand s b LetterO = cond_keeps AtHand (eqb b 107) _ _ (λ _. refl) (λ _. tt)
byte_at_hand s b Word = cond_keeps AtHand (eqb b 9) _ _ (λ _. refl) (λ _. tt)
byte_at_hand s b (Count c) = count_at_hand s (with_digit c b)

turn_at_hand : (p : Result Place Unread) (l : List ℕ) (b : ℕ) → eqb b 10 ≡ false → AtHandMem (turn_in p l b)
unfolding turn_at
turn_at_hand (Ok s) l b n = cond_keeps AtHandMem (eqb b 10) _ _ (λ e. absurd (true≢false (sym e ∙ n))) (λ _. byte_at_hand s b s.part)
turn_at_hand (Err e) l b n = tt

run_at_hand : (m : Reader) (b : ℕ) (q : List ℕ) → Free (b ∷ q) → AtHandMem (run m (b ∷ q))
unfolding turn_of
run_at_hand m b [] free = turn_at_hand m.place m.parcels b free.0
run_at_hand m b (c ∷ q) free = run_at_hand (turn_of m b) c q free.1

-- ---- the end of the input
at_hand_ends : (m : Reader) → AtHandMem m → ended m ≡ turn_of m 10
unfolding turn_of ended
at_hand_ends m = by m.place m.parcels
  where
    by : (p : Result Place Unread) (l : List ℕ) → AtHand p → ended_in p l ≡ turn_in p l 10
    by (Ok s) l h = cond_keeps (λ (z : Reader). z ≡ turn_at s l 10) (is_begun s.part) _ _ (λ _. refl) (λ e. absurd (true≢false (sym h ∙ e)))
    by (Err e) l h = refl

pub ended-last : (m : Reader) (b : ℕ) (q : List ℕ) → Free (b ∷ q) → ended (run m (b ∷ q)) ≡ turn_of (run m (b ∷ q)) 10
ended-last m b q free = at_hand_ends (run m (b ∷ q)) (run_at_hand m b q free)

pub ended-unread : (m : Reader) (e : Unread) → m.place ≡ Err e → ended m ≡ m
ended-unread m e h = at_hand_ends m (rw h tt) ∙ stays-unread m e (10 ∷ []) h
