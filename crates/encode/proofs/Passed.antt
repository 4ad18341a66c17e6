-- What encodes has passed every refusal of its list, and is its layout's word; what has passed them all encodes.
use Prim.Native.Nat.{ℕ}
use mathlib.Core.Path.{◌≡◌, refl, sym, ◌∙◌}
use mathlib.Core.Bool.{Bool, true, false, cond}
use lib.Dec.{eqb}
use Rattle.fields.specs.Pack.{pack}
use Rattle.std.specs.Prelude.{Ok, Err}
use Rattle.refusals.specs.Answers.{Verdict}
use Rattle.refusals.specs.Order.{first}
use Rattle.refusals.proofs.Order.{AllGood, first_good, good-first}
use Rattle.encode.specs.declared.Form.TheVariants.{Short, Pair, Word, Leaf}
use Rattle.encode.specs.Layouts.{Layout}
use Rattle.encode.specs.Encoding.{form_in, form_by, form_as, form_verdict}

in_good : (s t u : Bool) (word : ℕ) → form_verdict (cond s (Ok (Short word)) (cond t (Ok (Pair word)) (cond u (Ok (Word word)) (Ok Leaf)))) ≡ Ok tt
in_good true t u word = refl
in_good false true u word = refl
in_good false false true word = refl
in_good false false false word = refl

pub verdict-by : (v : Verdict) (l : Layout) → form_verdict (form_by v l) ≡ v
verdict-by (Ok _) l = in_good (eqb l.parcels 1) (eqb l.parcels 2) (eqb l.parcels 3) (pack l.fields)
verdict-by (Err r) l = refl

by-good : (v : Verdict) (l : Layout) → v ≡ Ok tt → form_by v l ≡ form_in l.parcels (pack l.fields)
by-good v l e = rw e

-- what encodes: its refusals, and its word
pub good-passed : (l : Layout) → form_verdict (form_as l) ≡ Ok tt → AllGood l.refusals
good-passed l e = first_good l.refusals (sym (verdict-by (first l.refusals) l) ∙ e)

pub good-word : (l : Layout) → form_verdict (form_as l) ≡ Ok tt → form_as l ≡ form_in l.parcels (pack l.fields)
good-word l e = by-good (first l.refusals) l (sym (verdict-by (first l.refusals) l) ∙ e)

pub passed-good : (l : Layout) → AllGood l.refusals → form_verdict (form_as l) ≡ Ok tt
passed-good l p = verdict-by (first l.refusals) l ∙ good-first l.refusals p
