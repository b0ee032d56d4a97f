-- After i turns the digits of the first i bytes are placed.
use lib.ListN.{take}
use Rattle.text.specs.Hex.{hex_of}
use Rattle.text.specs.Placed.{Placed}
use Rattle.text.proofs.hex.put_hex.Given as goal

abbrev pub invariant-loop-b : goal.invariant-loop-b
invariant-loop-b l = Placed l.initial.buf l.at (hex_of (take l.b-index l.bytes)) l.next l.buf
