-- Each arm is the line of its kind's instruction.
use Rattle.encode.specs.Layouts.{layout_of}
use Rattle.rows.specs.Fields.{scalars, instruction_of}
use Rattle.rows.proofs.single_of.Goals as goal

pub returns-in-0 : goal.returns-in-0
unfolding layout_of instruction_of scalars
returns-in-0 c = rw c.in-0.is c.single.ensures

pub returns-in-1 : goal.returns-in-1
unfolding layout_of instruction_of scalars
returns-in-1 c = rw c.in-1.is c.single-in-1.ensures

pub returns-in-2 : goal.returns-in-2
unfolding layout_of instruction_of scalars
returns-in-2 c = rw c.in-2.is c.single-in-2.ensures

pub returns-in-3 : goal.returns-in-3
unfolding layout_of instruction_of scalars
returns-in-3 c = rw c.in-3.is c.single-in-3.ensures

pub returns-in-4 : goal.returns-in-4
unfolding layout_of instruction_of scalars
returns-in-4 c = rw c.in-4.is c.single-in-4.ensures

pub returns-in-5 : goal.returns-in-5
unfolding layout_of instruction_of scalars
returns-in-5 c = rw c.in-5.is c.single-in-5.ensures

pub returns-in-6 : goal.returns-in-6
unfolding layout_of instruction_of scalars
returns-in-6 c = rw c.in-6.is c.single-in-6.ensures

pub returns-in-7 : goal.returns-in-7
unfolding layout_of instruction_of scalars
returns-in-7 c = rw c.in-7.is c.single-in-7.ensures

pub returns-in-8 : goal.returns-in-8
unfolding layout_of instruction_of scalars
returns-in-8 c = rw c.in-8.is c.single-in-8.ensures
