-- `copy_sum` meets its contract. The loop's invariant: the first i bytes are copied, and the sum so far and the bytes that
-- are left add up to the whole.
use Rattle.codes.proofs.ChecksumLaws.{Summed}
use Rattle.telegram_bytes.proofs.LeafLaws.{Copied}
use Rattle.telegram_bytes.proofs.put.copy_sum.Given as goal

abbrev pub invariant-loop-i : goal.invariant-loop-i
invariant-loop-i l = Copied l.src l.initial.dst l.i l.dst × Summed l.src l.sum l.i l.total
