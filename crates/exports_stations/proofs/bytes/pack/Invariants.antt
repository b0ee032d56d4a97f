-- `pack` meets its contract: the bytes of the flags so far are written.
use Rattle.std.proofs.Common.{◌≡◌, length, map}
use lib.Seq.{paste}
use Rattle.ground.specs.Bits.{digit}
use Rattle.exports_stations.proofs.bytes.pack.Given as goal

abbrev pub invariant-loop-i : goal.invariant-loop-i
invariant-loop-i l = (l.state ≡ paste l.initial.state 4 (map digit l.fn.ring.active_stations) l.i) × (length l.state ≡ 132)
