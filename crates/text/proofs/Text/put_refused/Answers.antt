-- One text after the other.
use Rattle.std.proofs.Common.{rules}
use Rattle.text.proofs.Putting.{puts_then}
use Rattle.text.proofs.Signs.{puts-detail}
use Rattle.text.proofs.Text.put_refused.Goals as goal

pub returns : goal.returns
returns c =
    let number = rw c.from.ensures at c.put_head.ensures in
    let first = puts-detail {z = c.args.first} (search rules) c.put_detail.ensures in
    let second = puts-detail {z = c.args.second} (search rules) c.put_detail-2.ensures in
    let third = puts-detail {z = c.args.third} (search rules) c.put_detail-3.ensures in
    puts_then (puts_then (puts_then (puts_then number first) second) third) c.put.ensures
