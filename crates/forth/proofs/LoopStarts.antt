-- The two lines of loop starts: a row of kind 50 that is fine starts the loop whose word is the form with the row's numbers and the offset.
use Prim.Native.Nat.{ℕ, ◌%◌, ◌≤◌}
use native.Mathlib.Omega.{arith}
use mathlib.Core.Path.{◌≡◌, refl, ap, ◌∙◌}
use mathlib.Core.Logic.{inr}
use mathlib.Core.Bool.{true, false, not, ◌&&◌}
use mathlib.Core.List.{List, [], ◌∷◌}
use lib.Dec.{eqb, leb, ltb}
use lib.IntN.{pos, negsuc}
use lib.ListN.{drop}
use borrow.Author.Tests.{ltb-true, leb-true, le-leb, not-true}
use Rattle.fields.specs.Pack.{Field, pack}
use Rattle.fields.specs.Parcels.{cut}
use Rattle.fields.specs.Matching.{filled_by}
use Rattle.fields.proofs.Matching.{both}
use Rattle.signs.specs.Signs.{within}
use Rattle.std.specs.Prelude.{Ok}
use Rattle.refusals.proofs.Order.{AllGood, good-when}
use Rattle.words.specs.Forms.{loop12a, register_loop12a}
use Rattle.words.proofs.Tiling.{tiles_12a, tiles_12a_register}
use Rattle.encode.proofs.Laid.{three}
use Rattle.encode.specs.Layouts.{loop_layout}
use Rattle.encode.specs.Encoding.{loop_form, form_verdict, form_parcels}
use Rattle.encode.proofs.Passed.{passed-good}
use Rattle.encode.proofs.Carried.{loop-is}
use Rattle.bounds.specs.Tables.{at}
use Rattle.bounds.specs.Bounds.{bounds_of}
use Rattle.rows.specs.Kept.{Below}
use Rattle.rows.specs.Fields.{count_of, mode_of}
use Rattle.rows.specs.Rows.{item_of}
use Rattle.known.specs.Table.{line, loop_fine}
use Rattle.forth.proofs.Entries.{Gives, Entry, entered}
use Rattle.rows.proofs.Kept.{read-item}
use Rattle.forth.proofs.Bits.{untrue, byte, f1_bit}

-- an offset of 3 to 0x3fffff
loop-offset : (offset : ℕ) → loop_fine offset ≡ true → (3 ≤ offset) × (offset ≤ 0x3f_ffff)
loop-offset offset f =
    let g = both (leb 3 offset) (leb offset 0x3f_ffff) f in
    (leb-true 3 offset g.0, leb-true offset 0x3f_ffff g.1)

in_reach : (offset : ℕ) → loop_fine offset ≡ true → within (negsuc 0x3f_ffff) (pos 0x3f_ffff) (pos offset) ≡ true
in_reach offset f = le-leb offset 0x3f_ffff (loop-offset offset f).1

-- a row of kind 50 within its bounds, over such an offset
module _ (form : List Field) (choice count mode offset : ℕ) (ns : List ℕ) (f : loop_fine offset ≡ true) where
  abbrev row : List ℕ
  row = line 50 choice count mode

  abbrev fields : List Field
  fields = (loop_layout (count_of choice count) (mode_of mode) (pos offset)).fields

  loop-good : AllGood (loop_layout (count_of choice count) (mode_of mode) (pos offset)).refusals → form_verdict (loop_form (count_of choice count) (mode_of mode) (pos offset)) ≡ Ok tt
  unfolding loop_form
  loop-good p = passed-good (loop_layout (count_of choice count) (mode_of mode) (pos offset)) p

  loop-read : Below (bounds_of row) (drop 1 row) → AllGood (loop_layout (count_of choice count) (mode_of mode) (pos offset)).refusals →
      pack fields ≡ pack (filled_by form ns) → Gives 3 (cut 3 (pack (filled_by form ns))) row
  unfolding item_of
  loop-read h p e = inr (
    refl,
    record {
      choice = choice;
      count = count;
      mode = mode;
      offset = offset;
      numbers = refl;
      reads = read-item row 0 h refl;
      low = (loop-offset offset f).0;
      high = (loop-offset offset f).1;
      good = loop-good p;
      within = omega arith;
      same = ap form_parcels (loop-is (count_of choice count) (mode_of mode) (pos offset) (loop-good p)) ∙ ap (cut 3) e;
    },
  )

-- ---- an immediate count, and a register
pub counted-loop : Entry 3 (loop12a 0 0 0) (λ ns. not (eqb (at ns 0) 0) && loop_fine (at ns 2)) (λ ns. line 50 0 (at ns 0) (at ns 1))
unfolding bounds_of count_of
counted-loop = entered (three refl) (tiles_12a 0 0 0)
    (λ c hc m hm o ho f.
    let g = both (not (eqb c 0)) (loop_fine o) f in
    let b : c % 65536 ≡ c = omega arith in
    let z : eqb (c % 65536) 0 ≡ false = rw b (not-true _ g.0) in
    loop-read (loop12a 0 0 0) 0 c m o (c ∷ m ∷ o ∷ []) g.1 (omega arith) (good-when _ _ (untrue _ (in_reach o g.1)), (good-when _ _ z, tt)) (rw (b, f1_bit m hm)))

pub register-loop : Entry 3 (register_loop12a 0 0 0) (λ ns. ltb (at ns 0) 0x60 && loop_fine (at ns 2)) (λ ns. line 50 1 (at ns 0) (at ns 1))
unfolding bounds_of count_of
register-loop = entered (three refl) (tiles_12a_register 0 0 0)
    (λ c hc m hm o ho f.
    let g = both (ltb c 0x60) (loop_fine o) f in
    let h = ltb-true c 0x60 g.0 in
    loop-read (register_loop12a 0 0 0) 1 c m o (c ∷ m ∷ o ∷ []) g.1 (omega arith) (good-when _ _ (untrue _ (in_reach o g.1)), (refl, tt))
    (rw (byte c (omega arith), f1_bit m hm)))
