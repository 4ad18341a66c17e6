-- A store at the next place is one number more of the row.
use Rattle.std.proofs.Common.{◌+◌, ◌∙◌, ap, arith, slice_set, slice_index_or, length-set}
use Rattle.std.proofs.lemmas.List.Edits.{paste_more}
use Rattle.stores.proofs.put_row.Goals as goal

pub loop-k-preserved : goal.loop-k-preserved
loop-k-preserved c =
    let k = c.loop-k.k in (
      omega arith,
      ap (λ l. slice_set l (c.args.at + k) (slice_index_or c.args.row.now k 0)) c.loop-k.invariant.1
          ∙ paste_more c.args.rows.now c.args.at c.args.row.now k 0 (omega arith) (omega arith),
      simp length-set c.loop-k.auto.rows,
    )
