-- Which way a byte goes; an unread line stays so.
use mathlib.Core.Path.{◌≡◌, refl}
use mathlib.Core.Bool.{true, false, cond}
use mathlib.Core.List.{List, [], ◌∷◌, ◌++◌}
use Prim.Native.Nat.{ℕ, ◌<◌}
use lib.Dec.{eqb}
use borrow.Author.Tests.{lt-leb}
use Rattle.std.specs.Prelude.{Result, Ok, Err}
use Rattle.reader.specs.declared.Place.{Place}
use Rattle.reader.specs.declared.Reader.{Reader}
use Rattle.reader.specs.declared.Unread.{Unread}
use Rattle.reader.specs.Steps.{in_name, digit_of, letter_of, tab_of, end_of, mem, mem_in_rows, in_names, turn_at, turn_of, run}
use Rattle.reader.proofs.Conds.{yes, no}

pub run-append : (m : Reader) (a b : List ℕ) → run m (a ++ b) ≡ run (run m a) b
run-append m [] b = refl
run-append m (x ∷ a) b = run-append (turn_of m x) a b

pub turn-unread : (e : Unread) (rs ns : List ℕ) (b : ℕ) → turn_of (mem (Err e) rs ns) b ≡ mem (Err e) rs ns
unfolding turn_of
turn-unread e rs ns b = refl

pub run-unread : (e : Unread) (rs ns q : List ℕ) → run (mem (Err e) rs ns) q ≡ mem (Err e) rs ns
unfolding turn_of
run-unread e rs ns [] = refl
run-unread e rs ns (b ∷ q) = run-unread e rs ns q

pub stays-unread : (m : Reader) (e : Unread) (q : List ℕ) → m.place ≡ Err e → run m q ≡ m
stays-unread m e q h = by m.place h
  where
    by : (p : Result Place Unread) → p ≡ Err e → run (mem p m.rows m.names) q ≡ mem p m.rows m.names
    by p h = rw h (run-unread e m.rows m.names q)

-- ---- a line that is not past the last item
module _ (s : Place) (rows names : List ℕ) (small : s.items < 512) where
  turn_by : (b : ℕ) {m : Reader}
      → m ≡ cond (eqb b 10) (mem_in_rows (end_of s rows) names) (cond (eqb b 9) (mem_in_rows (tab_of s rows) names) (cond (in_name s) (in_names (letter_of s b names) rows) (mem (digit_of s b) rows names)))
      → m ≡ turn_of (mem (Ok s) rows names) b
  unfolding turn_of turn_at
  turn_by b e = no _ _ (lt-leb 512 s.items small) e

  pub turn_end : mem_in_rows (end_of s rows) names ≡ turn_of (mem (Ok s) rows names) 10
  turn_end = turn_by 10 refl

  pub turn_tab : mem_in_rows (tab_of s rows) names ≡ turn_of (mem (Ok s) rows names) 9
  turn_tab = turn_by 9 refl

  pub turn-letter : (b : ℕ) → eqb b 10 ≡ false → eqb b 9 ≡ false → in_name s ≡ true → in_names (letter_of s b names) rows ≡ turn_of (mem (Ok s) rows names) b
  turn-letter b e f n = turn_by b (no _ _ e (no _ _ f (yes _ _ n refl)))

  pub turn-digit : (b : ℕ) → eqb b 10 ≡ false → eqb b 9 ≡ false → in_name s ≡ false → mem (digit_of s b) rows names ≡ turn_of (mem (Ok s) rows names) b
  turn-digit b e f n = turn_by b (no _ _ e (no _ _ f (no _ _ n refl)))
