-- The state at the end comes to what the lines say (`Whole`).
use Rattle.hex_lines.proofs.Feeding.{has-fine, ends-fine, tells, within}
use Rattle.hex_lines.proofs.Reader.finish.Goals as goal

pub end-requires : goal.end-requires
end-requires c = has-fine _ c.requires

pub reading-requires : goal.reading-requires
reading-requires c = ends-fine _ c.requires c.end.ensures

pub returns : goal.returns
returns c = record { by_index = tells _ c.end.ensures _ c.reading.ensures; within = within _ (ends-fine _ c.requires c.end.ensures) _ c.reading.ensures }
