-- The text at the front fits.
use Rattle.std.proofs.Common.{arith, rules}
use Rattle.std.proofs.lemmas.Grind.{common_steps}
use Rattle.text.proofs.Signs.{shows-refusal}
use Rattle.text.proofs.refused.Goals as goal

pub returns : goal.returns
returns c =
    let p = shows-refusal c.args.number {a = c.args.first} {b = c.args.second} {d = c.args.third} (search rules) (search rules) (search rules) c.put_refused.ensures c.front-text.ensures.1 in
    grind (arith, common_steps, p)
