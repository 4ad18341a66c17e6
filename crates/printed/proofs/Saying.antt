-- What a reading tells, as text.
use mathlib.Core.Path.{◌≡◌, sym, ap, ap₂}
use mathlib.Core.List.{List}
use Prim.Native.Nat.{ℕ, ◌≤◌}
use native.Mathlib.Omega.{arith}
use lib.ListN.{length}
use lib.Seq.{length-take-le}
use Rattle.std.specs.Prelude.{Ok, Err}
use Rattle.io.specs.Counts.{IsPrefixLen}
use Rattle.reader.specs.declared.Read.{Read}
use Rattle.reader.specs.declared.Unread.{Unread}
use Rattle.reader.specs.Lines.{Said, rows, unread}
use Rattle.reader.specs.Steps.{Tells}
use Rattle.text.specs.Text.{unread_text, Shows}
use Rattle.printed.specs.Printed.{list_text, said_text}

pub unread-said : (s : Said) (e : Unread) → Tells s (Err e) → unread_text e.line ≡ said_text s
unread-said (rows rs ns) e t = absurd t
unread-said (unread n) e t = ap unread_text t

pub rows-said : (s : Said) (r : Read) → Tells s (Ok r) → list_text r.rows.now r.names.now ≡ said_text s
rows-said (rows rs ns) r t = ap₂ list_text t.0 t.1
rows-said (unread line) r t = absurd t

-- a text that is shown is a part of its buffer
pub shown : (text buffer : List ℕ) (r : ℕ) → Shows text buffer r → 15384 ≤ length buffer → IsPrefixLen r buffer
shown text buffer r s h = let k : r ≤ length buffer = omega (arith, s.within) in (k, sym (length-take-le r buffer k))
