-- By what is asked in turn.
use native.Mathlib.Omega.{arith}
use borrow.Author.Tests.{le-ltb}
use Rattle.std.proofs.lemmas.Result.{err_from_is_err_and}
use Rattle.rows.proofs.Limit.{rows_few}
use Rattle.widening.proofs.Whole.{rows-refused, rows-read, rows_fit, all-written}
use Rattle.widening.proofs.widen.Goals as goal

pub returns-in_err-instruction_count : goal.returns-in_err-instruction_count
returns-in_err-instruction_count c =
    let p = err_from_is_err_and c.from_residual.result c.from_residual.ensures.1 in
    rw (p.1, p.2) (rows-refused c.args.rows.now c.args.names.now c.args.copy.now c.args.changes.now _ _ c.in_err-instruction_count.ensures)

pub count_changes-count-requires : goal.count_changes-count-requires
count_changes-count-requires c =
    let read = rows-read c.args.rows.now c.args.names.now c.args.copy.now c.args.changes.now c.in_ok-instruction_count.ensures in
    record { few = rows_few _ read.formed; read = read.each; paired_is = c.loops_pair-paired.ensures c.args.names.now read.each }

pub write-requires : goal.write-requires
write-requires c =
    let rows = c.args.rows.now in
    let names = c.args.names.now in
    let copy = c.args.copy.now in
    let list = c.args.changes.now in
    let read = rows-read rows names copy list c.in_ok-instruction_count.ensures in (
      record { few = rows_few _ read.formed; read = read.each; paired_is = c.loops_pair-paired.ensures names read.each },
      rows_fit rows names copy list read c.if-room-rows.false,
      rw (← c.count_changes-count.ensures.0) (omega arith),
    )

pub returns : goal.returns
returns c =
    let rows = c.args.rows.now in
    let names = c.args.names.now in
    let copy = c.args.copy.now in
    let list = c.args.changes.now in
    let read = rows-read rows names copy list c.in_ok-instruction_count.ensures in
    all-written rows names copy list read (le-ltb _ _ c.if-room-rows.false) (rw c.count_changes-count.ensures.0 at (le-ltb _ _ c.if-list_room-count.false)) c.count_changes-count.ensures.0 (c.loops_pair-paired.ensures names read.each) c.write.ensures
