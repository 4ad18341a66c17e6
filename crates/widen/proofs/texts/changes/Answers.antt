use Rattle.std.proofs.Common.{arith, take, length, ap, ℕ, List, MutBor, ◌∙◌, ◌*◌}
use Rattle.std.proofs.lemmas.Grind.{common_steps}
use Rattle.std.proofs.lemmas.List.{length-take}
use Rattle.item_lines.proofs.Lining.{lining_start, lining_room, lining_next}
use Rattle.widen.specs.Printed.{change_line}
use Rattle.widen.proofs.Saying.{changes-short, changes_shown}
use Rattle.widen.proofs.texts.changes.Goals as goal

pub loop-pair-init : goal.loop-pair-init
loop-pair-init c = rw c.into_iter-pair-iterator.ensures.into_iter_gives (lining_start 2 change_line c.front-text.result (grind (arith, common_steps, c.chunks_exact-pair-items.ensures.rest)) c.chunks_exact-pair-items.ensures.size)

pub put_change-requires : goal.put_change-requires
put_change-requires c =
    let g = c.loop-pair.invariant in
    let s = c.in-Some.ensures.steps in (
      s.1.1 ∙ g.size_is,
      omega (
        arith,
        g.here.after,
        g.here.long,
        changes-short g.done (take (2 * c.args.n) c.args.list.now),
        lining_room 2 change_line g c.in-Some.pair c.next.new.self s,
        length-take {A = ℕ} (2 * c.args.n) c.args.list.now,
        ap (λ (x : MutBor (List ℕ)). length x.now) c.front-text.ensures.0,
      ),
    )

pub loop-pair-preserved : goal.loop-pair-preserved
loop-pair-preserved c = lining_next 2 change_line c.loop-pair.invariant c.in-Some.pair c.next.new.self c.in-Some.ensures.steps c.put_change.ensures

pub returns : goal.returns
returns c =
    let p = changes_shown c.args.n c.args.list.now c.loop-pair.invariant c.in-None.ensures.steps.1.0 c.front-text.ensures.1 c.requires.0 in
    grind (arith, common_steps, p)
