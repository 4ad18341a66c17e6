-- What the places from k on say, one place after another: nothing.
use Rattle.std.proofs.Common.{◌≡◌, ◌+◌, ◌-◌, drop, length, get_or, rules, arith}
use borrow.Author.Tests.{lt-ltb}
use Rattle.bounds.proofs.Tails.{tail-last, again}
use Rattle.bounds.proofs.are_below.Goals as goal

pub loop-k-init : goal.loop-k-init
loop-k-init c =
    let n : length c.args.bounds ≡ 8 = search rules in
    record { in_range = search rules; is = λ rest. tail-last c.args.bounds (drop c.args.from c.args.row.now) rest n }

pub loop-k-preserved : goal.loop-k-preserved
loop-k-preserved c =
    let n : length c.args.bounds ≡ 8 = search rules in
    record {
      in_range = omega arith;
      is = λ rest. again c.args.bounds c.args.row.now rest c.args.from c.loop-k.k n (omega arith) (omega arith) c.requires rest rest
          (c.loop-k.invariant.is rest) (rw (lt-ltb (get_or c.args.row.now (c.args.from + (c.loop-k.k - 1)) 0) (get_or c.args.bounds (c.loop-k.k - 1) 0) (omega arith)));
    }
