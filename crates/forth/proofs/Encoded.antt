-- A row within its bounds whose instruction passes its refusals encodes to the word of its fields.
use Prim.Native.Nat.{ℕ}
use mathlib.Core.Path.{◌≡◌, ap₂, ◌∙◌}
use mathlib.Core.Bool.{true}
use mathlib.Core.List.{List}
use lib.ListN.{length, drop}
use Rattle.fields.specs.Pack.{Field, pack}
use Rattle.fields.specs.Parcels.{cut}
use Rattle.std.specs.Prelude.{Ok}
use Rattle.refusals.proofs.Order.{AllGood}
use Rattle.items.specs.declared.Item.TheVariants as item
use Rattle.items.specs.declared.VisaInstruction.{VisaInstruction}
use Rattle.encode.specs.Layouts.{layout_of}
use Rattle.encode.specs.Encoding.{form_of, verdict_of}
use Rattle.encode.proofs.Passed.{passed-good}
use Rattle.encode.proofs.Laid.{laid-parcels}
use Rattle.bounds.specs.Tables.{at}
use Rattle.bounds.specs.Bounds.{bounds_of}
use Rattle.bounds.specs.Checks.{inside}
use Rattle.rows.specs.Rows.{row_width, item_of}
use Rattle.rows.specs.Kept.{Below}
use Rattle.rows.proofs.Kept.{read-item}
use Rattle.known.specs.Front.{EncodesTo}

passed-verdict : (v : VisaInstruction) → AllGood (layout_of v).refusals → verdict_of v ≡ Ok tt
unfolding verdict_of form_of
passed-verdict v p = passed-good (layout_of v) p

-- THE LAW: the parcels are so many of a word that is the layout's
pub encodes :
    (row : List ℕ) (v : VisaInstruction) (n : ℕ) (fs : List Field) → length row ≡ row_width → Below (bounds_of row) (drop 1 row) →
    inside (at row 0) (at row 1) (at row 2) (at row 3) 0 ≡ true → item_of row ≡ Ok (item.Instruction v) → AllGood (layout_of v).refusals →
    (layout_of v).parcels ≡ n → pack (layout_of v).fields ≡ pack fs → EncodesTo (cut n (pack fs)) row
encodes row v n fs l b i r p m e = record {
  whole = l;
  instruction = v;
  reads = read-item row 0 b i ∙ r;
  good = passed-verdict v p;
  same = laid-parcels v (passed-verdict v p) ∙ ap₂ cut m e;
}
