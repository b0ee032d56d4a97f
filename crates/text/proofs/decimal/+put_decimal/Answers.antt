-- `put_decimal` meets its contract: the digits of n / 10 are placed, then the last one behind them.
use native.Mathlib.Omega.{arith}
use Rattle.text.proofs.DecimalLaws.{decimal_large}
use Rattle.text.proofs.PlacedLaws.{then}
use Rattle.text.proofs.decimal.+put_decimal.Goals as goal

pub returns : goal.returns
returns t c = rw (decimal_large c.args.n (omega arith)) (then c.put_decimal-last.ensures (rw c.digit-2.ensures at c.put_byte-2.ensures))
