-- Fewer than four digits leave room for one more.
use Rattle.std.proofs.Common.{arith}
use Rattle.hex_lines.proofs.Ranges.{more}
use Rattle.hex_lines.proofs.Place.digit.Goals as goal

pub overflow_mul-result : goal.overflow_mul-result
overflow_mul-result c = omega (arith, more _ _ c.requires.1 (omega arith))

pub overflow_add-result-2 : goal.overflow_add-result-2
overflow_add-result-2 c = omega (arith, more _ _ c.requires.1 (omega arith), c.in-Some.ensures.below)
