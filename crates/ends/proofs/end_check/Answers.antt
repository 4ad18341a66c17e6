-- Test by test, in document 01's order.
use Rattle.ends.proofs.Words.{no_loop, no_body, not_alone, too_short, by_word}
use Rattle.prefixes.proofs.Nesting.{innermost}
use Rattle.places.specs.Items.{kernel_of, row_at}
use mathlib.Core.Path.{sym, ◌∙◌}
use Rattle.std.proofs.lemmas.Result.{err_from_is_err_and}
use native.Mathlib.Omega.{arith}
use Rattle.ends.proofs.end_check.Goals as goal

pub returns-then-depth-eq0 : goal.returns-then-depth-eq0
returns-then-depth-eq0 c = λ rooms. no_loop (kernel_of c.args.rows.now c.args.names.now) c.args.i rooms (sym c.requires.2 ∙ c.if-depth-eq0.true)

pub returns-then-last_instruction-start : goal.returns-then-last_instruction-start
returns-then-last_instruction-start c = λ rooms. no_body (kernel_of c.args.rows.now c.args.names.now) c.args.i rooms (let d = c.if-depth-eq0.false in omega (arith, c.requires.2)) (sym c.last_instruction.ensures ∙ c.if-last_instruction-start.true ∙ c.start_of-start.ensures)

pub returns-then-shares_end : goal.returns-then-shares_end
returns-then-shares_end c = λ rooms. not_alone (kernel_of c.args.rows.now c.args.names.now) c.args.i rooms (let d = c.if-depth-eq0.false in omega (arith, c.requires.2)) (λ z. c.if-last_instruction-start.false (c.last_instruction.ensures ∙ z ∙ sym c.start_of-start.ensures)) (sym c.shares_end.ensures ∙ c.if-shares_end.true)

pub tail_check-requires : goal.tail_check-requires
tail_check-requires c = let m = innermost (row_at c.args.rows.now c.args.names.now) c.args.i (let d = c.if-depth-eq0.false in omega (arith, c.requires.2)) in (c.requires.0, c.start_of-start.ensures, rw c.start_of-start.ensures m.open_at.before, c.requires.3, c.requires.4)

pub returns-in_err-tail_check : goal.returns-in_err-tail_check
returns-in_err-tail_check c = λ rooms. let p = err_from_is_err_and c.from_residual.result c.from_residual.ensures.1 in rw (p.1, p.2) (too_short (kernel_of c.args.rows.now c.args.names.now) c.args.i rooms (let d = c.if-depth-eq0.false in omega (arith, c.requires.2)) (λ z. c.if-last_instruction-start.false (c.last_instruction.ensures ∙ z ∙ sym c.start_of-start.ensures)) (sym c.shares_end.ensures ∙ c.if-shares_end.false) (sym c.in_err-tail_check.ensures))

pub loop_word-requires : goal.loop_word-requires
loop_word-requires c = let m = innermost (row_at c.args.rows.now c.args.names.now) c.args.i (let d = c.if-depth-eq0.false in omega (arith, c.requires.2)) in rw c.start_of-start.ensures (c.requires.0, m.open_at.before, m.open_at.opens, omega (arith, c.requires.3, c.requires.4))

pub returns : goal.returns
returns c = λ rooms. c.form_verdict.ensures ∙ rw (c.loop_word.ensures, c.start_of-start.ensures) (by_word (kernel_of c.args.rows.now c.args.names.now) c.args.i rooms (let d = c.if-depth-eq0.false in omega (arith, c.requires.2)) (λ z. c.if-last_instruction-start.false (c.last_instruction.ensures ∙ z ∙ sym c.start_of-start.ensures)) (sym c.shares_end.ensures ∙ c.if-shares_end.false) (sym c.in_ok-tail_check.ensures))
