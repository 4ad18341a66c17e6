-- A run from where the rows stand.
use Rattle.taking.proofs.Skims.{skimmed-by}
use Rattle.taking.proofs.Taking.skim.Goals as goal

pub returns : goal.returns
returns c = λ names. rw c.after_run.ensures (skimmed-by _ names _ _ c.requires.0 _ (rw c.run.ensures at c.skim-run.ensures))
