use Rattle.std.proofs.Common.{arith, take, length, ap, ℕ, List, MutBor, ◌∙◌, ◌*◌}
use Rattle.std.proofs.lemmas.Grind.{common_steps}
use Rattle.std.proofs.lemmas.List.{length-take}
use Rattle.item_lines.specs.ItemText.{item_line}
use Rattle.item_lines.proofs.Lining.{lining_start, lining_room, lining_next, items-short, items-shown}
use Rattle.item_lines.proofs.items.Goals as goal

pub loop-row-init : goal.loop-row-init
loop-row-init c = rw c.into_iter-row-iterator.ensures.into_iter_gives (lining_start 17 (item_line c.args.names.now) c.front-text.result (grind (arith, common_steps, c.chunks_exact-row-items.ensures.rest)) c.chunks_exact-row-items.ensures.size)

pub put_item-requires : goal.put_item-requires
put_item-requires c =
    let g = c.loop-row.invariant in
    let s = c.in-Some.ensures.steps in
    (s.1.1 ∙ g.size_is, omega (arith, g.here.after, g.here.long, items-short c.args.names.now g.done (take (17 * c.args.n) c.args.rows.now) c.requires.1, lining_room 17 (item_line c.args.names.now) g c.in-Some.row c.next.new.self s, length-take {A = ℕ} (17 * c.args.n) c.args.rows.now, ap (λ (x : MutBor (List ℕ)). length x.now) c.front-text.ensures.0))

pub loop-row-preserved : goal.loop-row-preserved
loop-row-preserved c = lining_next 17 (item_line c.args.names.now) c.loop-row.invariant c.in-Some.row c.next.new.self c.in-Some.ensures.steps c.put_item.ensures

pub returns : goal.returns
returns c =
    let p = items-shown c.args.names.now c.args.n c.args.rows.now c.loop-row.invariant c.in-None.ensures.steps.1.0 c.front-text.ensures.1 c.requires.0 c.requires.1 in
    grind (arith, common_steps, p)
