-- Each arm is right about its row: its kind's bounds hold the line's limits, and its form is the line's word.
use Rattle.std.proofs.Common.{refl, sym, ap, ◌∙◌, true, false, ◌%◌, ℤ, pos, negsuc, arith, to_z-of_z, w32}
use borrow.Author.Rules.{sfits_of}
use Rattle.fields.specs.Pack.{pack}
use Rattle.signs.specs.Signs.{folded, within}
use Rattle.words.specs.Forms.{modify19a}
use Rattle.encode.specs.Registers.{mixed}
use Rattle.encode.specs.Layouts.{layout_of}
use Rattle.encode.specs.Encoding.{form_of}
use Rattle.bounds.specs.Tables.{at}
use Rattle.bounds.specs.Bounds.{fields}
use Rattle.rows.specs.Fields.{condition_of, bool_of, signed, scalars, transfers, others, instruction_of}
use Rattle.glances.specs.Glances.{access_in, jump_seen, immediate_in}
use Rattle.glances.proofs.Lines.{line, line_in, worded, paired, shorted, branched, leaves, chosen, reached, unmixed, post_form, pre_form, access-form, jump-form, call-form, immediate_form}
use Rattle.glances.proofs.seen.Goals as goal

pub returns-in-9 : goal.returns-in-9
unfolding fields instruction_of scalars layout_of form_of
returns-in-9 c = worded c.args.row.now c.told-row c.long_word.ensures (line c.args.row.now 9 15 4294967295 0 c.in-9.is refl (λ _. refl) (refl, refl, refl, refl, refl, refl, refl) (λ _ _ _. refl)) refl c.if-fits.ensures

pub returns-in-10 : goal.returns-in-10
unfolding fields instruction_of scalars layout_of form_of
returns-in-10 c = worded c.args.row.now c.told-row c.move_word.ensures (line c.args.row.now 10 15 15 0 c.in-10.is refl (λ _. refl) (refl, refl, refl, refl, refl, refl, refl) (λ _ _ _. refl)) refl c.if-fits-2.ensures

pub returns-in-11 : goal.returns-in-11
unfolding fields instruction_of scalars layout_of form_of
returns-in-11 c = worded c.args.row.now c.told-row c.long_word-in-11.ensures (line c.args.row.now 11 15 4294967295 0 c.in-11.is refl (λ _. refl) (refl, refl, refl, refl, refl, refl, refl) (λ _ _ _. refl)) refl c.if-fits-3.ensures

pub returns-in-12 : goal.returns-in-12
unfolding fields instruction_of scalars layout_of form_of
returns-in-12 c = worded c.args.row.now c.told-row c.long_word-in-12.ensures (line c.args.row.now 12 15 4294967295 0 c.in-12.is refl (λ _. refl) (refl, refl, refl, refl, refl, refl, refl) (λ _ _ _. refl)) refl c.if-fits-4.ensures

pub returns-in-16 : goal.returns-in-16
unfolding fields instruction_of transfers layout_of form_of
returns-in-16 c = paired c.args.row.now c.told-row c.transfer_word.ensures (line c.args.row.now 16 95 95 0 c.in-16.is refl (λ _. refl) (refl, refl, refl, refl, refl, refl, refl) (λ _ _ _. refl)) refl c.if-fits-5.ensures

pub returns-in-17 : goal.returns-in-17
unfolding fields instruction_of transfers layout_of form_of
returns-in-17 c = worded c.args.row.now c.told-row c.long_word-in-17.ensures (line c.args.row.now 17 95 4294967295 0 c.in-17.is refl (λ _. refl) (refl, refl, refl, refl, refl, refl, refl) (λ _ _ _. refl)) refl c.if-fits-6.ensures

pub returns-in-18 : goal.returns-in-18
unfolding fields instruction_of transfers layout_of form_of
returns-in-18 c = worded c.args.row.now c.told-row (c.modify_index.ensures ∙ ap (λ (z : ℤ). pack (modify19a (at c.args.row.now 1 % 256) (folded 32 z))) (to_z-of_z {w = w32} (sfits_of c.signed-y.type_inv) ∙ c.signed-y.ensures)) (line c.args.row.now 18 15 4294967295 0 c.in-18.is refl (λ _. refl) (refl, refl, refl, refl, refl, refl, refl) (λ _ _ _. refl)) refl c.if-fits-7.ensures

pub returns-in-19 : goal.returns-in-19
unfolding fields instruction_of transfers layout_of form_of
returns-in-19 c = shorted c.args.row.now c.told-row c.post_word.ensures (line_in c.args.row.now 19 95 15 15 15 7 7 c.in-19.is (omega arith) (omega arith) (omega arith) refl (λ _. refl) (refl, refl, refl, refl, refl, refl, refl) (λ p q r. post_form false _ _ _ p q r)) refl c.if-fits-8.ensures

pub returns-in-20 : goal.returns-in-20
unfolding fields instruction_of transfers layout_of form_of
returns-in-20 c = shorted c.args.row.now c.told-row c.post_word-in-20.ensures (line_in c.args.row.now 20 95 15 15 15 7 7 c.in-20.is (omega arith) (omega arith) (omega arith) refl (λ _. refl) (refl, refl, refl, refl, refl, refl, refl) (λ p q r. post_form true _ _ _ p q r)) refl c.if-fits-9.ensures

pub returns-in-21 : goal.returns-in-21
unfolding fields instruction_of transfers layout_of form_of
returns-in-21 c = paired c.args.row.now c.told-row c.pre_word.ensures (line_in c.args.row.now 21 95 15 15 95 7 7 c.in-21.is (omega arith) (omega arith) (omega arith) refl (λ _. refl) (refl, refl, refl, refl, refl, refl, refl) (λ p q r. pre_form false _ _ _ refl q r)) refl c.if-fits-10.ensures

pub returns-in-29 : goal.returns-in-29
unfolding fields instruction_of others
returns-in-29 c = branched c.args.row.now c.told-row c.call_word.ensures (line_in c.args.row.now 29 4294967295 0 0 16777215 0 0 c.in-29.is (omega arith) (omega arith) (omega arith) refl (λ _. refl) (refl, refl, refl, refl, refl, refl, refl) (λ p q r. call-form _ p)) c.if-fits-15.ensures

pub returns-in-30 : goal.returns-in-30
unfolding fields instruction_of others layout_of form_of
returns-in-30 c = worded c.args.row.now c.told-row c.store_word.ensures (line c.args.row.now 30 4294967295 0 0 c.in-30.is refl (λ _. refl) (refl, refl, refl, refl, refl, refl, refl) (λ _ _ _. refl)) refl c.if-fits-16.ensures

pub returns-in-31 : goal.returns-in-31
unfolding fields instruction_of others layout_of form_of
returns-in-31 c = leaves c.args.row.now c.told-row (line c.args.row.now 31 0 0 0 c.in-31.is refl (λ _. refl) (refl, refl, refl, refl, refl, refl, refl) (λ _ _ _. refl)) c.if-fits-17.ensures

pub returns-in-36 : goal.returns-in-36
unfolding fields instruction_of others layout_of form_of
returns-in-36 c = worded c.args.row.now c.told-row c.mode_word.ensures (line c.args.row.now 36 4294967295 0 0 c.in-36.is refl (λ _. refl) (refl, refl, refl, refl, refl, refl, refl) (λ _ _ _. refl)) refl c.if-fits-19.ensures

pub returns-in-37 : goal.returns-in-37
unfolding fields instruction_of others layout_of form_of
returns-in-37 c = worded c.args.row.now c.told-row c.mode_word-in-37.ensures (line c.args.row.now 37 4294967295 0 0 c.in-37.is refl (λ _. refl) (refl, refl, refl, refl, refl, refl, refl) (λ _ _ _. refl)) refl c.if-fits-20.ensures

pub returns-in-38 : goal.returns-in-38
unfolding fields instruction_of others layout_of form_of
returns-in-38 c = shorted c.args.row.now c.told-row refl (line c.args.row.now 38 0 0 0 c.in-38.is refl (λ _. refl) (refl, refl, refl, refl, refl, refl, refl) (λ _ _ _. refl)) refl c.if-fits-21.ensures

pub returns-in-39 : goal.returns-in-39
unfolding fields instruction_of others layout_of form_of
returns-in-39 c = worded c.args.row.now c.told-row refl (line c.args.row.now 39 0 0 0 c.in-39.is refl (λ _. refl) (refl, refl, refl, refl, refl, refl, refl) (λ _ _ _. refl)) refl c.if-fits-22.ensures

pub returns-in-22 : goal.returns-in-22
unfolding fields instruction_of transfers layout_of form_of
returns-in-22 c = paired c.args.row.now c.told-row c.pre_word-in-22.ensures (line_in c.args.row.now 22 95 15 15 95 7 7 c.in-22.is (omega arith) (omega arith) (omega arith) refl (λ _. refl) (refl, refl, refl, refl, refl, refl, refl) (λ p q r. pre_form true _ _ _ (sym c.if-not-in_dag.ensures) q r)) refl c.if-fits-11.ensures

pub returns-in-23 : goal.returns-in-23
unfolding fields instruction_of transfers layout_of form_of access_in
returns-in-23 c = chosen c.args.row.now c.told-row (within (negsuc 63) (pos 63) (signed (at c.args.row.now 3))) _ _ (line_in c.args.row.now 23 95 15 4294967295 95 7 4294967295 c.in-23.is (omega arith) (omega arith) (omega arith) refl (λ _. refl) (refl, refl, refl, refl, refl, refl, refl) (λ p q r. access-form false (at c.args.row.now 1) (at c.args.row.now 2) (signed (at c.args.row.now 3)) refl q)) refl c.if-fits-12.ensures (c.access.ensures ∙ ap (λ (z : ℤ). access_in (at c.args.row.now 1 % 256) (at c.args.row.now 2 % 256) z false) (to_z-of_z {w = w32} (sfits_of c.signed-z.type_inv) ∙ c.signed-z.ensures))

pub returns-in-24 : goal.returns-in-24
unfolding fields instruction_of transfers layout_of form_of access_in
returns-in-24 c = chosen c.args.row.now c.told-row (within (negsuc 63) (pos 63) (signed (at c.args.row.now 3))) _ _ (line_in c.args.row.now 24 95 15 4294967295 95 7 4294967295 c.in-24.is (omega arith) (omega arith) (omega arith) refl (λ _. refl) (refl, refl, refl, refl, refl, refl, refl) (λ p q r. access-form true (at c.args.row.now 1) (at c.args.row.now 2) (signed (at c.args.row.now 3)) (sym c.if-not-in_dag-2.ensures) q)) refl c.if-fits-13.ensures (c.access-in-24.ensures ∙ ap (λ (z : ℤ). access_in (at c.args.row.now 1 % 256) (at c.args.row.now 2 % 256) z true) (to_z-of_z {w = w32} (sfits_of c.signed-z.type_inv) ∙ c.signed-z.ensures))

pub returns-in-28 : goal.returns-in-28
unfolding fields instruction_of others layout_of form_of jump_seen
returns-in-28 c = reached c.args.row.now c.told-row (within (negsuc 0x7f_ffff) (pos 0x7f_ffff) (signed (at c.args.row.now 2))) _ (λ near. (line c.args.row.now 28 6 4294967295 1 c.in-28.is refl (λ _. refl) (refl, refl, refl, refl, refl, refl, refl) (λ p q r. jump-form (condition_of (at c.args.row.now 1)) (signed (at c.args.row.now 2)) (bool_of (at c.args.row.now 3)) near))) c.if-fits-14.ensures (c.jump.ensures ∙ ap (λ (z : ℤ). jump_seen (condition_of (at c.args.row.now 1)) z (bool_of (at c.args.row.now 3))) (to_z-of_z {w = w32} (sfits_of c.signed-y.type_inv) ∙ c.signed-y.ensures))

pub returns-in-35 : goal.returns-in-35
unfolding fields instruction_of others immediate_in
returns-in-35 c = unmixed c.args.row.now c.told-row (mixed (at c.args.row.now 1 % 256) (at c.args.row.now 2 % 256)) _ (λ clash. (line c.args.row.now 35 15 15 4294967295 c.in-35.is refl (λ _. refl) (refl, refl, refl, refl, refl, refl, refl) (λ p q r. immediate_form _ _ _ clash))) refl c.if-fits-18.ensures c.immediate.ensures
