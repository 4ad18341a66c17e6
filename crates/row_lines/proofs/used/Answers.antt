-- From the back come zeros, and then the last number that is not 0, if there is one.
use Rattle.std.proofs.Common.{rules, refl}
use Rattle.row_lines.proofs.Backward.{nothing-found, last-found}
use Rattle.row_lines.proofs.used.Goals as goal

pub returns-in-Some : goal.returns-in-Some
returns-in-Some c = rw c.iter.ensures.rest at (last-found (λ p x q k. search (rules, k)) _ _ _ _ _ _ c.rposition.ensures.ran c.in-Some.is refl (λ p x q k. search (rules, k)))

pub returns-in-None : goal.returns-in-None
returns-in-None c = (rw c.iter.ensures.rest at (nothing-found (λ p x q k. search (rules, k)) _ _ _ _ _ c.rposition.ensures.ran c.in-None.is (rw c.iter.ensures.rest c.requires)), c.requires)
