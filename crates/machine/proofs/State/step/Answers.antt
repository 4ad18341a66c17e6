-- Each row by the law of its kind.
use mathlib.Core.Path.{ap, ◌∙◌}
use Rattle.std.specs.Prelude.{Ok}
use Rattle.machine.proofs.Steps.{step_instruction, step_label, step_end}
use Rattle.machine.proofs.State.step.Goals as goal

pub returns-in-Instruction : goal.returns-in-Instruction
returns-in-Instruction c = step_instruction (c.in_ok-coding.was ∙ ap Ok c.in-Instruction.is) c.instruction.ensures

pub returns-in-Label : goal.returns-in-Label
returns-in-Label c = step_label (c.in_ok-coding.was ∙ ap Ok c.in-Label.is) c.label.ensures

pub returns-in-LoopEnd : goal.returns-in-LoopEnd
returns-in-LoopEnd c = step_end (c.in_ok-coding.was ∙ ap Ok c.in-LoopEnd.is) c.loop_end.ensures
