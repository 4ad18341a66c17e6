-- What an answer, and a reading, come to as text.
use mathlib.Core.Path.{◌≡◌, sym, ap, ◌∙◌}
use mathlib.Core.List.{List}
use Prim.Native.Nat.{ℕ, ◌≤◌}
use native.Mathlib.Omega.{arith}
use lib.ListN.{length, take, replicate}
use lib.IntN.{ℤ}
use lib.Seq.{length-take-le}
use borrow.Author.Tests.{eq-eqb, ne_eqb}
use Rattle.io.specs.Counts.{IsPrefixLen}
use Rattle.reading.specs.declared.ToldRows.{ToldRows}
use Rattle.reading.specs.Back.{ReadsBack}
use Rattle.text.specs.Text.{refusal_text, unread_text, Shows}
use Rattle.std.specs.Prelude.{Ok, Err}
use Rattle.std.specs.Borrow.{Bor}
use Rattle.reader.specs.declared.Unread.{Unread}
use Rattle.hex_lines.specs.Parcels.{Said, parcels, unread}
use Rattle.hex_lines.specs.Steps.{Tells}
use Rattle.row_lines.specs.RowText.{rows_text, Prints}
use Rattle.readback.specs.Printed.{back_text, BackText, SaidText}

-- ---- an answer
module _ (t : ToldRows) (rows places : List ℕ) where
  pub rows-shown : t.number ≡ 0 → {buffer : List ℕ} {r : ℕ} → Prints (rows_text t.rows (take t.rows places) rows) buffer r → Prints (back_text t rows places) buffer r
  rows-shown e p = rw (eq-eqb t.number 0 e) p

  pub refusal_shown : (t.number ≡ 0 → ⊥) → {a b d : ℤ} → a ≡ t.first → b ≡ t.second → d ≡ t.third → {buffer : List ℕ} {r : ℕ} → Shows (refusal_text t.number a b d) buffer r → 15384 ≤ length buffer → Prints (back_text t rows places) buffer r
  refusal_shown n e f g p h = rw (ne_eqb t.number 0 n) record { front = rw (e, f, g) at p.front; within = omega (arith, p.within) }

pub back-shown : {ps : List ℕ} {t told : ToldRows} {rows places buffer : List ℕ} {r : ℕ} → ReadsBack ps (replicate 52224 0) (replicate 3072 0) t rows places → told ≡ t → Prints (back_text told rows places) buffer r → BackText ps (take r buffer) × (r ≤ length buffer)
back-shown {t = t} {rows = rows} {places = places} b e p = (record { told = t; rows = rows; places = places; back = b; shown = rw e at p.front }, p.within)

-- ---- a reading
pub unread-said : (s : Said) (e : Unread) → Tells s (Err e) → {text : List ℕ} → text ≡ unread_text e.line → SaidText s text
unread-said (parcels ps) e t f = absurd t
unread-said (unread n) e t f = f ∙ ap unread_text t

pub parcels-said : (s : Said) (r : Bor (List ℕ)) → Tells s (Ok r) → {text : List ℕ} → BackText r.now text → SaidText s text
parcels-said (parcels ps) r t b = rw t at b
parcels-said (unread line) r t b = absurd t

-- what is printed is a part of its buffer
pub counted : (buffer : List ℕ) (r : ℕ) → r ≤ length buffer → IsPrefixLen r buffer
counted buffer r h = (h, sym (length-take-le r buffer h))
