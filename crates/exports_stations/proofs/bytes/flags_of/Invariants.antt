-- `flags_of` meets its contract: the flags of the bytes so far are written.
use Rattle.std.proofs.Common.{◌≡◌, false, length, map, drop, replicate}
use lib.Seq.{paste}
use Rattle.exports_stations.specs.Bytes.{flag_of}
use Rattle.exports_stations.proofs.bytes.flags_of.Given as goal

abbrev pub invariant-loop-i : goal.invariant-loop-i
invariant-loop-i l = (l.flags ≡ paste (replicate 128 false) 0 (map flag_of (drop 4 l.bytes)) l.i) × (length l.flags ≡ 128)
