-- Each arm is the line of its kind's instruction.
use Rattle.std.proofs.Common.{ap, Some}
use Rattle.combined.specs.Single.{single_word}
use Rattle.encode.specs.Layouts.{layout_of}
use Rattle.rows.specs.Fields.{scalars, others, instruction_of}
use Rattle.combined.proofs.single_word.Goals as goal

pub returns-in-0 : goal.returns-in-0
unfolding single_word layout_of instruction_of scalars
returns-in-0 c = rw (c.in-0.is, ← c.byte-a.ensures, ← c.byte-b.ensures, ← c.byte-c.ensures) (ap Some c.compute_word.ensures)

pub returns-in-1 : goal.returns-in-1
unfolding single_word layout_of instruction_of scalars
returns-in-1 c = rw (c.in-1.is, ← c.byte-a.ensures, ← c.byte-b.ensures, ← c.byte-c.ensures) (ap Some c.compute_word-in-1.ensures)

pub returns-in-2 : goal.returns-in-2
unfolding single_word layout_of instruction_of scalars
returns-in-2 c = rw (c.in-2.is, ← c.byte-a.ensures, ← c.byte-b.ensures, ← c.byte-c.ensures) (ap Some c.compute_word-in-2.ensures)

pub returns-in-3 : goal.returns-in-3
unfolding single_word layout_of instruction_of scalars
returns-in-3 c = rw (c.in-3.is, ← c.byte-a.ensures, ← c.byte-b.ensures, ← c.byte-c.ensures) (ap Some c.compute_word-in-3.ensures)

pub returns-in-4 : goal.returns-in-4
unfolding single_word layout_of instruction_of scalars
returns-in-4 c = rw (c.in-4.is, ← c.byte-a.ensures, ← c.byte-b.ensures, ← c.byte-c.ensures) (ap Some c.compute_word-in-4.ensures)

pub returns-in-5 : goal.returns-in-5
unfolding single_word layout_of instruction_of scalars
returns-in-5 c = rw (c.in-5.is, ← c.byte-a.ensures, ← c.byte-b.ensures) (ap Some c.compute_word-in-5.ensures)

pub returns-in-6 : goal.returns-in-6
unfolding single_word layout_of instruction_of scalars
returns-in-6 c = rw (c.in-6.is, ← c.byte-a.ensures, ← c.byte-b.ensures) (ap Some c.compute_word-in-6.ensures)

pub returns-in-7 : goal.returns-in-7
unfolding single_word layout_of instruction_of scalars
returns-in-7 c = rw (c.in-7.is, ← c.byte-a.ensures, ← c.byte-b.ensures, ← c.byte-c.ensures) (ap Some c.compute_word-in-7.ensures)

pub returns-in-8 : goal.returns-in-8
unfolding single_word layout_of instruction_of scalars
returns-in-8 c = rw (c.in-8.is, ← c.byte-a.ensures, ← c.byte-b.ensures) (ap Some c.compute_word-in-8.ensures)

pub returns-in-25 : goal.returns-in-25
unfolding single_word layout_of instruction_of others
returns-in-25 c = rw (c.in-25.is, ← c.byte-a.ensures, ← c.byte-b.ensures) (ap Some c.compute_word-in-25.ensures)

pub returns-in-26 : goal.returns-in-26
unfolding single_word layout_of instruction_of others
returns-in-26 c = rw (c.in-26.is, ← c.byte-a.ensures, ← c.byte-b.ensures) (ap Some c.compute_word-in-26.ensures)
