-- The last instruction before the end, and the parcels up to it.
use mir.Facts.{to_z-of_z}
use borrow.Author.Rules.{sfits_of}
use Rattle.ends.proofs.Words.{last, word-is}
use Rattle.ends.specs.Ends.{last_row}
use Rattle.prefixes.proofs.Totals.{total-up}
use Prim.Native.Nat.{◌≤◌}
use Rattle.places.specs.Items.{row_at, size, place, most_parcels}
use native.Mathlib.Omega.{arith}
use mathlib.Core.Path.{ap, ◌∙◌}
use Rattle.std.specs.Prelude.{Ok}
use Rattle.ends.proofs.loop_word.Goals as goal

pub parcels_between-requires : goal.parcels_between-requires
parcels_between-requires c = let it = (row_at c.args.rows.now c.args.names.now) in let l = last it c.args.end c.args.start c.requires.1 c.requires.2 in let u = total-up size it (last_row it c.args.end) c.args.end (omega (arith, l.before_end)) in rw c.last_instruction-last.ensures (omega (arith, l.from, l.before_end), l.from, let w : place it (last_row it c.args.end) ≤ most_parcels = omega arith in w)

pub apart-offset-requires : goal.apart-offset-requires
apart-offset-requires c = let it = (row_at c.args.rows.now c.args.names.now) in let l = last it c.args.end c.args.start c.requires.1 c.requires.2 in let u = total-up size it (last_row it c.args.end) c.args.end (omega (arith, l.before_end)) in let e = rw c.last_instruction-last.ensures at c.parcels_between.ensures in omega arith

pub returns-in-Ok-LoopBegin : goal.returns-in-Ok-LoopBegin
returns-in-Ok-LoopBegin c = rw (c.loop_form.ensures, to_z-of_z (sfits_of c.apart-offset.type_inv), c.apart-offset.ensures) (word-is _ _ _ c.requires.1 c.requires.2 _ (rw c.last_instruction-last.ensures at c.parcels_between.ensures) c.coded_at.ensures (c.in-Ok-LoopBegin.is ∙ ap Ok c.in-Ok-LoopBegin.field-0-is))
