-- `decimal_len` meets its contract: each turn takes the last digit away and counts it, and one is left at the end.
use mathlib.Core.Path.{◌≡◌}
use Prim.Native.Nat.{◌+◌}
use lib.ListN.{length}
use Rattle.text.specs.Decimal.{decimal_of}
use Rattle.text.proofs.decimal.decimal_len.Given as goal

abbrev pub invariant-loop-rest : goal.invariant-loop-rest
invariant-loop-rest l = (l.len + length (decimal_of l.rest) ≡ length (decimal_of l.n) + 1)

abbrev pub decreases-loop-rest : goal.decreases-loop-rest
decreases-loop-rest l = l.rest
