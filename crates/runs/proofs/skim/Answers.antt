-- A turn at the next row.
use Rattle.std.proofs.Common.{sym, ap, ◌∙◌, arith}
use Rattle.runs.specs.Runs.{row_in}
use Rattle.runs.proofs.Turning.{next-is, goes}
use Rattle.runs.proofs.skim.Goals as goal

pub loop-row-preserved : goal.loop-row-preserved
loop-row-preserved c =
    let i = c.loop-row.invariant in
    let n = next-is c.args.rows.now c.as_chunks.result.0.now c.args.from.row c.loop-row.row-index c.as_chunks.ensures.front c.as_chunks.ensures.front_len c.loop-row-test.true in
    let turned = c.in-Some.ensures in
    let k = turned c.args.rows.now (n.row_is ∙ ap (row_in c.args.rows.now) (sym i.1)) (omega (arith, n.left, i.1)) in
    (goes _ _ _ _ _ i.0 k, rw k.on (omega (arith, i.1)), c.next.auto.parcels ∙ i.2)
