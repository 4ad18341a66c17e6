-- What the places from k on say, one place after another.
use Rattle.std.proofs.Common.{◌≡◌, drop, length, rules, arith}
use Rattle.bounds.proofs.Tails.{tail-last, again}
use Rattle.bounds.proofs.eight.Goals as goal

pub loop-k-init : goal.loop-k-init
loop-k-init c =
    let n : length c.args.bounds ≡ 8 = search rules in
    record { in_range = search rules; is = tail-last c.args.bounds (drop c.args.from c.args.row.now) c.args.rest n }

pub loop-k-preserved : goal.loop-k-preserved
loop-k-preserved c =
    let n : length c.args.bounds ≡ 8 = search rules in
    record {
      in_range = omega arith;
      is = again c.args.bounds c.args.row.now c.args.rest c.args.from c.loop-k.k n (omega arith) (omega arith) c.requires _ _
          c.loop-k.invariant.is c.held-found.ensures;
    }
