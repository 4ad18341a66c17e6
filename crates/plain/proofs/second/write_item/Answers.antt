-- By what the item is.
use Rattle.std.proofs.Common.{sym, ap, ◌∙◌, arith, Ok}
use Rattle.coded.specs.Coded.{Coded}
use Rattle.places.specs.Items.{kernel_of, about}
use Rattle.prefixes.proofs.Passing.{fits}
use Rattle.prefixes.proofs.Names.{row_fine}
use Rattle.tables.proofs.Lookups.{entries_in}
use Rattle.plain.proofs.Writing.{place_few, jump_fits, jump_wrote, loop-fits, loop_wrote}
use Rattle.plain.proofs.second.write_item.Goals as goal

pub put_jump-requires : goal.put_jump-requires
put_jump-requires c =
    let k = kernel_of c.args.rows.now c.args.names.now in
    let w = c.requires.writable in
    let fine = row_fine c.args.rows.now c.args.names.now in
    let u = place_few k w c.requires.before in
    let e = sym c.requires.is ∙ c.in_ok-coding.was ∙ ap Ok c.in-Jump.is in
    record {
      named = (w.labels_in, rw w.count_is (entries_in k k.n _ w.held fine), omega (arith, c.requires.at_is), rw e at (fine c.args.i));
      roomy = rw (c.requires.at_is) (jump_fits _ c.requires.writable c.requires.before e);
    }

pub start_word-requires : goal.start_word-requires
start_word-requires c =
    let k = kernel_of c.args.rows.now c.args.names.now in
    let w = c.requires.writable in
    let f = fits k w.rooms k.n w.passed in (
      record {
        few = w.few;
        before = c.requires.before;
        opens = ap (λ (x : Coded). (about x).opens) (sym c.requires.is ∙ c.in_ok-coding.was ∙ ap Ok c.in-LoopBegin.is);
        closed = f.closed;
        none_open = w.closed;
      },
      omega (arith, f.parcels, w.parcels_few),
    )

pub put-requires-in-LoopBegin : goal.put-requires-in-LoopBegin
put-requires-in-LoopBegin c =
    let s = c.start_word.ensures in
    rw c.requires.at_is (loop-fits _ c.requires.writable c.requires.before (sym c.requires.is ∙ c.in_ok-coding.was ∙ ap Ok c.in-LoopBegin.is) s.end s.within s.found _ s.is)

pub returns-in-Jump : goal.returns-in-Jump
returns-in-Jump c =
    let p = c.put_jump.ensures in
    jump_wrote _ c.requires.writable c.requires.before (sym c.requires.is ∙ c.in_ok-coding.was ∙ ap Ok c.in-Jump.is)
    (rw (← c.requires.at_is) p.told) (rw (← c.requires.at_is) p.written)

pub returns-in-LoopBegin : goal.returns-in-LoopBegin
returns-in-LoopBegin c =
    let s = c.start_word.ensures in
    let p = c.put-in-LoopBegin.ensures in
    loop_wrote _ c.requires.writable c.requires.before (sym c.requires.is ∙ c.in_ok-coding.was ∙ ap Ok c.in-LoopBegin.is) s.end s.within s.found _ s.is
    p.0 (rw (← c.requires.at_is) p.1)
