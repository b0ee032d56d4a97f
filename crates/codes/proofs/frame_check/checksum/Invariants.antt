-- `checksum` meets its contract. The invariant: the sum so far and the bytes that are left add up to the whole.
use Rattle.codes.proofs.ChecksumLaws.{Summed}
use Rattle.codes.proofs.frame_check.checksum.Given as goal

abbrev pub invariant-loop-b : goal.invariant-loop-b
invariant-loop-b l = Summed l.s 0 l.b-index l.sum
