-- A reader that has read something, at each byte.
use Rattle.std.proofs.Common.{◌≤◌, length}
use Rattle.reader.specs.Steps.{HasSome}
use Rattle.printed.proofs.input.Inputs.take.Given as goal

abbrev pub invariant-loop-b : goal.invariant-loop-b
invariant-loop-b l = HasSome l.self.reader × (15384 ≤ length l.out)
