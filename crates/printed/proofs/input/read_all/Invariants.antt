-- A reader that has read something at each turn.
use Rattle.std.proofs.Common.{◌≤◌, length}
use Rattle.reader.specs.Steps.{HasSome}
use Rattle.printed.proofs.input.read_all.Given as goal

abbrev pub invariant-loop : goal.invariant-loop
invariant-loop l = HasSome l.inputs.reader × (15384 ≤ length l.out)
