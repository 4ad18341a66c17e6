-- The sixteen places after the kind are the two arrays, one after the other.
use Rattle.std.proofs.Common.{◌≡◌, length, sym, rules, append-nil, []}
use Rattle.known.proofs.Places.{places-listed}
use Rattle.known.proofs.Known.row.Goals as goal

pub returns : goal.returns
returns c =
    let k = c.args.k in
    let rest = c.args.rest in
    let m : length k ≡ 8 = search rules in
    let n : length rest ≡ 8 = search rules in
    rw (sym (places-listed 8 0 k rest (sym m)), sym (append-nil rest), sym (places-listed 8 0 rest [] (sym n)))
