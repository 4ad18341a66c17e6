-- A line of the table, or a compute, begins the sixteen bounds.
use Rattle.std.proofs.Common.{◌≢◌, sym, ◌∙◌, append_assoc, arith, [], ◌∷◌}
use borrow.Author.Tests.{ne_eqb}
use Rattle.bounds.specs.Tables.{lookup, at}
use Rattle.bounds.specs.Bounds.{bounds_of, fields, form, never}
use Rattle.bounds.proofs.Filled.{front-compute, front-line}
use Rattle.bounds.proofs.front.Goals as goal

pub returns-in-32 : goal.returns-in-32
unfolding bounds_of
returns-in-32 c = rw c.in-32.is (c.compute_bounds.ensures ∙ sym (front-compute never _ _))

pub returns-in-33 : goal.returns-in-33
unfolding bounds_of
returns-in-33 c = rw (c.in-33.is, append_assoc) (c.compute_bounds-in-33.ensures ∙ sym (front-compute form _ _))

pub returns-in-34 : goal.returns-in-34
unfolding bounds_of
returns-in-34 c = rw (c.in-34.is, append_assoc) (c.compute_bounds-in-34.ensures ∙ sym (front-compute form _ _))

pub returns-then-row-eq1 : goal.returns-then-row-eq1
unfolding bounds_of
returns-then-row-eq1 c = rw (c.in-50.is, c.if-row-eq1.true)

pub returns-else-row-eq1 : goal.returns-else-row-eq1
unfolding bounds_of
returns-else-row-eq1 c = rw (c.in-50.is, ne_eqb _ _ c.if-row-eq1.false)

pub returns-in_default : goal.returns-in_default
unfolding bounds_of
returns-in_default c =
    let row = c.args.row.now in
    let h0 : at row 0 ≢ 32 = omega arith in
    let h1 : at row 0 ≢ 33 = omega arith in
    let h2 : at row 0 ≢ 34 = omega arith in
    let h3 : at row 0 ≢ 50 = omega arith in
    rw (ne_eqb _ _ h0, ne_eqb _ _ h1, ne_eqb _ _ h2, ne_eqb _ _ h3) (c.fixed.ensures ∙ sym (front-line (lookup (at row 0) fields (never ∷ []))))
