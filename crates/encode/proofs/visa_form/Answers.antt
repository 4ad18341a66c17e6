-- The arm's call is the form that the definition gives of its instruction.
use Rattle.encode.specs.Encoding.{form_of}
use Rattle.encode.specs.Layouts.{layout_of}
use Rattle.encode.proofs.visa_form.Goals as goal

pub returns-in-LoadDmPreModify : goal.returns-in-LoadDmPreModify
unfolding form_of layout_of
returns-in-LoadDmPreModify c = rw c.in-LoadDmPreModify.is c.dm_modify-in-LoadDmPreModify.ensures
