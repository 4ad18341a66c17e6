-- After k turns the parcels are what the machine has after k waiting jumps.
use Rattle.settling.proofs.Waits.{read-on}
use Rattle.coded.proofs.Fine.{coded-fine}
use Rattle.refusals.specs.Scan.{going_next, going_stop}
use lib.ListN.{length}
use native.Mathlib.Omega.{arith}
use mathlib.Core.Path.{sym, ap, ◌∙◌}
use borrow.Author.Rules.{rules}
use Rattle.std.specs.Prelude.{Err}
use Rattle.settling.proofs.aim_all.Goals as goal

pub aim_coded-requires : goal.aim_coded-requires
aim_coded-requires c = let f = c.requires in let k = c.loop-k.k in let t = c.loop-k-test.true in (record { labels_in = f.labels_in; entries = f.entries; jump_in = omega (arith, f.places_in k t, c.loop-k.invariant.1); jump_few = f.places_few k t }, let a = c.args in rw c.coded_at-coded.ensures (coded-fine _ (length a.names.now)))

pub returns-in-Err : goal.returns-in-Err
returns-in-Err c = let s = read-on c.coded_at-coded.ensures c.aim_coded.ensures in record { verdict = Err c.in-Err.why; end = c.loop-k.k; came = going_stop _ _ _ c.loop-k.invariant.0 c.loop-k-test.true (sym s.answer ∙ c.in-Err.is) (rw c.in-Err.is at s.parcels); row = ap Err c.at.ensures }

pub loop-k-preserved : goal.loop-k-preserved
loop-k-preserved c = let s = read-on c.coded_at-coded.ensures c.aim_coded.ensures in (going_next _ _ _ c.loop-k.invariant.0 c.loop-k-test.true (sym s.answer ∙ c.in_default.is) (rw c.in_default.is at s.parcels), search rules)
