-- `copy` meets its contract. The invariant: the buffer begins with what was copied and goes on as it was.
use Rattle.ground.proofs.FrontLaws.{Copied}
use Rattle.ground.proofs.buffers.copy.Given as goal

abbrev pub invariant-loop-i : goal.invariant-loop-i
invariant-loop-i l = Copied l.bytes l.initial.buffer l.i l.buffer
