-- Each arm is a line of the table by unit and opcode; the default arm is told that no line has them.
use Rattle.std.proofs.Common.{◌∙◌, sym, rules, ◌/◌, ◌%◌}
use Rattle.bounds.proofs.Lookups.{other-found}
use Rattle.known.proofs.Opcodes.{by-opcode, singles, multis}
use Rattle.known.proofs.compute.compute_at.Goals as goal

pub returns-in-129 : goal.returns-in-129
returns-in-129 c = c.single.ensures ∙ sym (by-opcode c.args.n ∙ rw (sym c.bits.ensures, c.in-129.is))

pub returns-in-130 : goal.returns-in-130
returns-in-130 c = c.single-in-130.ensures ∙ sym (by-opcode c.args.n ∙ rw (sym c.bits.ensures, c.in-130.is))

pub returns-in-304 : goal.returns-in-304
returns-in-304 c = c.single-in-304.ensures ∙ sym (by-opcode c.args.n ∙ rw (sym c.bits.ensures, c.in-304.is))

pub returns-in-225 : goal.returns-in-225
returns-in-225 c = c.single-in-225.ensures ∙ sym (by-opcode c.args.n ∙ rw (sym c.bits.ensures, c.in-225.is))

pub returns-in-226 : goal.returns-in-226
returns-in-226 c = c.single-in-226.ensures ∙ sym (by-opcode c.args.n ∙ rw (sym c.bits.ensures, c.in-226.is))

pub returns-in-162 : goal.returns-in-162
returns-in-162 c = c.single-in-162.ensures ∙ sym (by-opcode c.args.n ∙ rw (sym c.bits.ensures, c.in-162.is))

pub returns-in-176 : goal.returns-in-176
returns-in-176 c = c.single-in-176.ensures ∙ sym (by-opcode c.args.n ∙ rw (sym c.bits.ensures, c.in-176.is))

pub returns-in-2 : goal.returns-in-2
returns-in-2 c = c.single-in-2.ensures ∙ sym (by-opcode c.args.n ∙ rw (sym c.bits.ensures, c.in-2.is))

pub returns-in-161 : goal.returns-in-161
returns-in-161 c = c.single-in-161.ensures ∙ sym (by-opcode c.args.n ∙ rw (sym c.bits.ensures, c.in-161.is))

pub returns-in-42 : goal.returns-in-42
returns-in-42 c = c.single-in-42.ensures ∙ sym (by-opcode c.args.n ∙ rw (sym c.bits.ensures, c.in-42.is))

pub returns-in-33 : goal.returns-in-33
returns-in-33 c = c.single-in-33.ensures ∙ sym (by-opcode c.args.n ∙ rw (sym c.bits.ensures, c.in-33.is))

pub returns-in-11 : goal.returns-in-11
returns-in-11 c = c.compare.ensures ∙ sym (by-opcode c.args.n ∙ rw (sym c.bits.ensures, c.in-11.is))

pub returns-in_default : goal.returns-in_default
returns-in_default c =
    let n = c.args.n in
    c.multi_at.ensures ∙ sym (by-opcode n ∙ other-found (n / 0x1000 % 0x800) (singles n) (multis n) (search rules))
