-- The answer as C has it: no name's range is lost.
use Rattle.link.proofs.Nameless.{encodes_one}
use Rattle.link.proofs.lhodrupesh_instruction.Goals as goal

pub returns : goal.returns
returns c = encodes_one _ c.instruction.ensures c.shaped.ensures
