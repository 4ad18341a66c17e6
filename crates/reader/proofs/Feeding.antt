-- What is still to be fed gives, from here, what all of it gives from the start.
use mathlib.Core.Path.{◌≡◌, refl, sym, ap, subst, ◌∙◌}
use mathlib.Core.Bool.{true, false≢true}
use mathlib.Core.List.{List, ◌++◌}
use Prim.Native.Nat.{ℕ, ◌+◌, ◌*◌, ◌≤◌, ◌<◌}
use native.Mathlib.Omega.{arith}
use native.Mathlib.Numerals.{add-one}
use lib.ListN.{length, get_or, drop, replicate, length-replicate, length-take}
use lib.Seq.{drop-cons, drop-length}
use Rattle.std.specs.Prelude.{Result, Ok, Err, is_err}
use Rattle.reader.specs.declared.Place.{Place}
use Rattle.reader.specs.declared.Read.{Read}
use Rattle.reader.specs.declared.Reader.{Reader}
use Rattle.reader.specs.declared.Unread.{Unread}
use Rattle.reader.specs.Lines.{said}
use Rattle.reader.specs.Steps.{FineIn, turn_of, run, ended, ReadsIn, Reads, Has, HasSome, Tells, Within}
use Rattle.reader.proofs.Turns.{run-append, stays-unread}
use Rattle.reader.proofs.Keeps.{start_fine, turn-fine, run-fine, ended-fine}
use Rattle.reader.proofs.Whole.{told}

pub has-fine : (s : Reader) → HasSome s → FineIn s.place
has-fine s h = subst (λ (m : Reader). FineIn m.place) (sym h.1.here) (run-fine _ h.0 (start_fine 0 0 (omega arith) (omega arith)))

pub has_more : (past chunk : List ℕ) {s r : Reader} → r ≡ run s chunk → Has past s → Has (past ++ chunk) r
has_more past chunk e h = record { here = e ∙ ap (λ (m : Reader). run m chunk) h.here ∙ sym (run-append _ past chunk) }

-- an unread line stays so, whatever follows: nothing more need be read
pub has-unread : (past rest : List ℕ) (s : Reader) (u : Unread) → s.place ≡ Err u → Has past s → Has (past ++ rest) s
has-unread past rest s u e h = has_more past rest (sym (stays-unread s u rest e)) h

pub over : (s : Reader) → is_err s.place ≡ true → (past rest : List ℕ) → Has past s → Has (past ++ rest) s
over s e past rest h = by s.place refl
  where
    by : (p : Result Place Unread) → s.place ≡ p → Has (past ++ rest) s
    by (Ok p) f = absurd (false≢true (ap is_err (sym f) ∙ e))
    by (Err u) f = has-unread past rest s u f h

-- ---- the loop
pub record Feeding (m : Reader) (chunk : List ℕ) (i : ℕ) (s : Reader) : Type 0 where
  pub within : i ≤ length chunk
  pub here : run s (drop i chunk) ≡ run m chunk
  pub fine : FineIn s.place

pub feeding_start : (s : Reader) (chunk : List ℕ) → FineIn s.place → Feeding s chunk 0 s
feeding_start s chunk f = record { within = omega arith; here = refl; fine = f }

pub feeding_next : (m : Reader) (chunk : List ℕ) (i : ℕ) (s : Reader) → Feeding m chunk i s → i < length chunk → {s' : Reader} → s' ≡ turn_of s (get_or chunk i 0) → Feeding m chunk (i + 1) s'
feeding_next m chunk i s g h e =
    record {
      within = omega arith;
      here = rw (e, add-one) (ap (λ (l : List ℕ). run s l) (sym (drop-cons chunk i 0 h)) ∙ g.here);
      fine = subst (λ (m : Reader). FineIn m.place) (sym e) (turn-fine s (get_or chunk i 0) g.fine);
    }

pub feeding_end : (m : Reader) (chunk : List ℕ) (i : ℕ) (s : Reader) → Feeding m chunk i s → length chunk ≤ i → s ≡ run m chunk
feeding_end m chunk i s g h =
    let e : i ≡ length chunk = omega (arith, g.within) in
    ap (λ (l : List ℕ). run s l) (sym (ap (λ (k : ℕ). drop k chunk) e ∙ drop-length chunk)) ∙ g.here

-- an unread line is as far as the chunk goes
pub feeding_unread : (m : Reader) (chunk : List ℕ) (i : ℕ) (s : Reader) (u : Unread) → Feeding m chunk i s → s.place ≡ Err u → s ≡ run m chunk
feeding_unread m chunk i s u g e = sym (stays-unread s u (drop i chunk) e) ∙ g.here

-- ---- the end of the input
pub ends-fine : (s : Reader) → HasSome s → {s' : Reader} → s' ≡ ended s → FineIn s'.place
ends-fine s h e = subst (λ (m : Reader). FineIn m.place) (sym e) (ended-fine s (has-fine s h))

pub tells : (s : Reader) {s' : Reader} → s' ≡ ended s → (r : Result Read Unread) → Reads s' r → (input : List ℕ) → Has input s → Tells (said input) r
tells s e r f input h = told (replicate 2048 0) (length-replicate {A = ℕ} 2048 0) input r (subst (λ (m : Reader). Reads m r) (e ∙ ap ended h.here) f)

-- what it comes to is no more than there is room for
pub within : (s : Reader) → FineIn s.place → (r : Result Read Unread) → Reads s r → Within r
within s f r h = by s.place f r h
  where
    by : (p : Result Place Unread) → FineIn p → (r : Result Read Unread) → ReadsIn p s.rows s.names r → Within r
    by (Ok p) f (Ok r) h = (rw (h.0, length-take (p.items * 17) s.rows) (omega (arith, f.items)), rw (h.1, length-take p.start s.names) (omega (arith, f.names)))
    by (Ok p) f (Err e) h = absurd h
    by (Err u) f (Ok r) h = absurd h
    by (Err u) f (Err e) h = rw h f
