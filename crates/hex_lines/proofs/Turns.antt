-- Which way a byte goes; an unread line stays so.
use mathlib.Core.Path.{◌≡◌, refl, sym}
use mathlib.Core.Bool.{Bool, true, false}
use mathlib.Core.List.{List, [], ◌∷◌, ◌++◌}
use Prim.Native.Nat.{ℕ, ◌+◌}
use lib.Dec.{eqb}
use Rattle.std.specs.Prelude.{Result, Ok, Err}
use Rattle.reader.specs.declared.Unread.{Unread}
use Rattle.reader.proofs.Conds.{no}
use Rattle.hex_lines.specs.declared.Place.{Place}
use Rattle.hex_lines.specs.declared.Reader.{Reader}
use Rattle.hex_lines.specs.Steps.{unread_line, failed, byte_of, mem, end_of, turn_at, turn_of, run}

pub run-append : (m : Reader) (a b : List ℕ) → run m (a ++ b) ≡ run (run m a) b
run-append m [] b = refl
run-append m (x ∷ a) b = run-append (turn_of m x) a b

pub turn-unread : (e : Unread) (ps : List ℕ) (b : ℕ) → turn_of (mem (Err e) ps) b ≡ mem (Err e) ps
unfolding turn_of
turn-unread e ps b = refl

pub run-unread : (e : Unread) (ps q : List ℕ) → run (mem (Err e) ps) q ≡ mem (Err e) ps
unfolding turn_of
run-unread e ps [] = refl
run-unread e ps (b ∷ q) = run-unread e ps q

pub stays-unread : (m : Reader) (e : Unread) (q : List ℕ) → m.place ≡ Err e → run m q ≡ m
stays-unread m e q h = by m.place h
  where
    by : (p : Result Place Unread) → p ≡ Err e → run (mem p m.parcels) q ≡ mem p m.parcels
    by p h = rw h (run-unread e m.parcels q)

-- ---- a line that is not unread
module _ (s : Place) (ps : List ℕ) where
  pub turn_end : turn_of (mem (Ok s) ps) 10 ≡ end_of s ps
  unfolding turn_of turn_at
  turn_end = refl

  pub turn_byte : (b : ℕ) → eqb b 10 ≡ false → turn_of (mem (Ok s) ps) b ≡ mem (byte_of s b) ps
  unfolding turn_of turn_at
  turn_byte b e = sym (no _ _ e refl)

-- ---- what comes of a line, after so many: it is read, and leaves this; or it is unread
abbrev pub Ends : Bool → Reader → ℕ → Reader → Type 0
Ends true left i m = m ≡ left
Ends false left i m = m.place ≡ Err (record { line = i + 1 })

-- a byte that fails, whatever follows
pub lost : (t : Bool) (left : Reader) (s : Place) (ps q : List ℕ) → t ≡ false → Ends t left (s.passed + s.parcels) (turn_of (run (mem (failed s) ps) q) 10)
lost t left s ps q e = rw (e, run-unread (unread_line s) ps q, turn-unread (unread_line s) ps 10) refl

-- the end of a line that fails
pub lost-end : (t : Bool) (left : Reader) (s : Place) (ps : List ℕ) → t ≡ false → {m : Reader} → m ≡ mem (failed s) ps → Ends t left (s.passed + s.parcels) m
lost-end t left s ps e f = rw (e, f) refl
