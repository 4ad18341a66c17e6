-- Before row i the rows before it are written, and `at` is its place.
use Rattle.std.proofs.Common.{refl, sym, ap, ◌∙◌, Ok, Err, rules}
use Rattle.places.specs.Items.{row_at}
use Rattle.refusals.specs.Scan.{going_next, going_stop, going_end}
use Rattle.ends.proofs.Ending.{place-next}
use Rattle.plain.proofs.second.write.Goals as goal

pub returns-in-Err : goal.returns-in-Err
returns-in-Err c = record {
  judged = record { verdict = Err c.in-Err.why; row = c.loop-i.i };
  came = going_stop _ _ _ c.loop-i.invariant.0 c.loop-i-test.true (sym c.write_item.ensures.answer ∙ c.in-Err.is) (rw c.in-Err.is at c.write_item.ensures.parcels);
  answer = ap Err c.at.ensures;
}

pub returns : goal.returns
returns c = record {
  judged = record { verdict = Ok tt; row = c.loop-i.i };
  came = going_end _ _ _ c.loop-i.invariant.0 c.loop-i-test.false;
  answer = refl;
}

pub loop-i-preserved : goal.loop-i-preserved
loop-i-preserved c = (
  going_next _ _ _ c.loop-i.invariant.0 c.loop-i-test.true (sym c.write_item.ensures.answer ∙ c.in_default.is) (rw c.in_default.is at c.write_item.ensures.parcels),
  rw (c.about-at.ensures, c.coded_at-item.ensures, c.loop-i.invariant.1) (sym (place-next (row_at c.args.rows.now c.args.names.now) c.loop-i.i)),
  search rules,
)
