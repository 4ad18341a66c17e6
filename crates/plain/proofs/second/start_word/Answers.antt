-- The word to the end that is found.
use Rattle.places.specs.Items.{row_at, row_count, size}
use Rattle.prefixes.proofs.Totals.{total-up}
use Rattle.std.proofs.Common.{arith}
use Rattle.plain.proofs.second.start_word.Goals as goal

pub loop_word-requires : goal.loop_word-requires
loop_word-requires c =
    let e = c.end_of-end.ensures in
    let s = c.requires.0 in
    let it = row_at c.args.rows.now c.args.names.now in
    ((omega (arith, e.1), s.few), e.2, s.opens, omega (arith, total-up size it c.end_of-end.result (row_count c.args.rows.now) (omega (arith, e.1)), c.requires.1))
