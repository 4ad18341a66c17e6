-- The digits that `io` writes are the fewest, and so those without leading zeros.
use Rattle.std.proofs.Common.{rules}
use Rattle.text.proofs.Decimals.{decimal-is, places_few}
use Rattle.text.proofs.Text.put_decimal.Goals as goal

pub returns : goal.returns
returns c = rw (c.decimal-k.ensures.digits, decimal-is _ _ (places_few _ _ (search rules) c.decimal-k.ensures.len) c.decimal-k.ensures.len) at c.put_bytes.ensures
