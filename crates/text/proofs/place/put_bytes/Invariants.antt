-- After i turns the first i bytes are placed.
use lib.ListN.{take}
use Rattle.text.specs.Placed.{Placed}
use Rattle.text.proofs.place.put_bytes.Given as goal

abbrev pub invariant-loop-b : goal.invariant-loop-b
invariant-loop-b l = Placed l.initial.buf l.at (take l.b-index l.bytes) l.next l.buf
