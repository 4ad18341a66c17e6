-- What an answer, and a reading, come to as text.
use mathlib.Core.Path.{◌≡◌, sym, ap, ◌∙◌}
use mathlib.Core.List.{List, [], ◌∷◌, ◌++◌}
use Prim.Native.Nat.{ℕ, ◌*◌, ◌<◌, ◌≤◌}
use native.Mathlib.Omega.{arith}
use lib.ListN.{length, take, get_or, replicate, length-append, length-drop}
use lib.IntN.{ℤ}
use lib.Seq.{length-take-le}
use borrow.Author.Tests.{eq-eqb, ne_eqb}
use Rattle.io.specs.Counts.{IsPrefixLen}
use Rattle.places.specs.Items.{row_count}
use Rattle.widening.specs.declared.ToldWidened.{ToldWidened}
use Rattle.widening.specs.Widening.{Widens}
use Rattle.std.specs.declared.slice.ChunksExact.{ChunksExact}
use Rattle.std.specs.Slice.Iter.{chunks_exact_rest, chunks_exact_size}
use Rattle.text.specs.declared.Text.{Text}
use Rattle.text.specs.Text.{decimal, refused_text, refusal_text, unread_text, Puts, Shows}
use Rattle.text.proofs.Decimals.{decimal-short}
use Rattle.std.specs.Prelude.{Ok, Err}
use Rattle.reader.specs.declared.Read.{Read}
use Rattle.reader.specs.declared.Unread.{Unread}
use Rattle.reader.specs.Lines.{Said, rows, unread}
use Rattle.reader.specs.Steps.{Tells}
use Rattle.row_lines.specs.RowText.{field, Prints}
use Rattle.row_lines.proofs.Writing.{prints}
use Rattle.item_lines.specs.ItemText.{lines_of, item_lines}
use Rattle.item_lines.proofs.Lining.{Lining, lines_front, lines-short}
use Rattle.widen.proofs.Rooms.{changes-few}
use Rattle.widen.specs.Printed.{refusal_in, changed, unpaired, change_line, list_text, notes_text, WidenedText, SaidText}

-- ---- a change's line is short
change_short : (pair : List ℕ) → length pair ≤ 2 → length (change_line pair) ≤ 50
unfolding change_line
change_short pair h =
    omega (
      arith,
      length-append (changed ++ decimal (get_or pair 0 0) ++ field (get_or pair 1 0)) (10 ∷ []),
      length-append (changed ++ decimal (get_or pair 0 0)) (field (get_or pair 1 0)),
      decimal-short (get_or pair 0 0),
      decimal-short (get_or pair 1 0),
    )

pub changes-short : (n : ℕ) (list : List ℕ) → length (lines_of 2 change_line n list) ≤ n * 50
changes-short n list = lines-short 2 change_line 50 change_short n list

pub changes_shown : (n : ℕ) (list : List ℕ) {t u : Text} {parts : ChunksExact ℕ} → Lining 2 change_line t (take (2 * n) list) parts u
    → length (chunks_exact_rest parts) < chunks_exact_size parts → t.at ≡ 0 → 2 * n ≤ length list → 50 * n ≤ length t.out.now → Prints (lines_of 2 change_line n list) u.out.now u.at
changes_shown n list g short z h room =
    let l : length (take (2 * n) list) ≡ 2 * n = length-take-le (2 * n) list h in
    let e : g.done ≡ n = omega (arith, g.within, g.size_is, ap length g.others, length-drop (g.done * 2) (take (2 * n) list)) in
    prints (rw (e, lines_front 2 change_line n (2 * n) list (omega arith)) at g.here) z (omega (arith, changes-short n list))

-- ---- an answer
module _ (t : ToldWidened) where
  refusal_prints : {a b d : ℤ} → a ≡ t.first → b ≡ t.second → d ≡ t.third → {buffer : List ℕ} {r : ℕ} → Shows (refusal_text t.number a b d) buffer r → 15384 ≤ length buffer → Prints (refused_text (refusal_in t)) buffer r
  refusal_prints e f g p h = record { front = rw (e, f, g) at p.front; within = omega (arith, p.within) }

  module _ (n : ℕ) (copy names : List ℕ) where
    pub list-shown : t.number ≡ 0 → {buffer : List ℕ} {r : ℕ} → Prints (item_lines names n copy) buffer r → Prints (list_text t n copy names) buffer r
    list-shown e p = rw (eq-eqb t.number 0 e) p

    pub list-refused : (t.number ≡ 0 → ⊥) → {a b d : ℤ} → a ≡ t.first → b ≡ t.second → d ≡ t.third → {buffer : List ℕ} {r : ℕ} → Shows (refusal_text t.number a b d) buffer r → 15384 ≤ length buffer → Prints (list_text t n copy names) buffer r
    list-refused m e f g p h = rw (ne_eqb t.number 0 m) (refusal_prints e f g p h)

  module _ (list : List ℕ) where
    pub unpaired-noted : t.number ≡ 0 → t.paired ≡ 0 → {buffer : List ℕ} {r : ℕ} → Prints unpaired buffer r → Prints (notes_text t list) buffer r
    unpaired-noted e f p = rw (eq-eqb t.number 0 e, eq-eqb t.paired 0 f) p

    pub changes-noted : t.number ≡ 0 → (t.paired ≡ 0 → ⊥) → {buffer : List ℕ} {r : ℕ} → Prints (lines_of 2 change_line t.changes list) buffer r → Prints (notes_text t list) buffer r
    changes-noted e f p = rw (eq-eqb t.number 0 e, ne_eqb t.paired 0 f) p

    pub refusal_noted : (t.number ≡ 0 → ⊥) → {a b d : ℤ} → a ≡ t.first → b ≡ t.second → d ≡ t.third → {buffer : List ℕ} {r : ℕ} → Shows (refusal_text t.number a b d) buffer r → 15384 ≤ length buffer → Prints (notes_text t list) buffer r
    refusal_noted m e f g p h = rw (ne_eqb t.number 0 m) (refusal_prints e f g p h)

module _ {rs names : List ℕ} {t told : ToldWidened} {copy list : List ℕ} (w : Widens rs names (replicate 8704 0) (replicate 1024 0) t copy list) (e : told ≡ t) where
  pub few-changes : length rs ≤ 8704 → told.changes ≤ 512
  few-changes h = rw e (omega (arith, changes-few w))

  pub both-shown : {out : List ℕ} {n : ℕ} {notes : List ℕ} {k : ℕ} → Prints (list_text told (row_count rs) copy names) out n → Prints (notes_text told list) notes k → WidenedText rs names (take n out) (take k notes)
  both-shown p q = record { told = t; copy = copy; list = list; widens = w; shown = rw e at p.front; noted = rw e at q.front }

-- ---- a reading
pub unread-said : (s : Said) (e : Unread) → Tells s (Err e) → {text notes : List ℕ} → (text ≡ unread_text e.line) × (notes ≡ unread_text e.line) → SaidText s text notes
unread-said (rows rs ns) e t f = absurd t
unread-said (unread n) e t f = (f.0 ∙ ap unread_text t, f.1 ∙ ap unread_text t)

pub rows-said : (s : Said) (r : Read) → Tells s (Ok r) → {text notes : List ℕ} → WidenedText r.rows.now r.names.now text notes → SaidText s text notes
rows-said (rows rs ns) r t b = rw (t.0, t.1) at b
rows-said (unread line) r t b = absurd t

-- what is printed is a part of its buffer
pub counted : (buffer : List ℕ) (r : ℕ) → r ≤ length buffer → IsPrefixLen r buffer
counted buffer r h = (h, sym (length-take-le r buffer h))
