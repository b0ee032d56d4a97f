-- `flags_of` meets its contract: the flags of the bytes so far are written.
use Rattle.std.proofs.Common.{◌<◌, ◌≤◌, false, length, drop, replicate, ◌∙◌, arith, length-set, length-drop}
use Rattle.exports_stations.specs.Bytes.{flag_of}
use Rattle.exports_stations.proofs.MapLaws.{behind_four, map_done, map_turn}
use Rattle.exports_stations.proofs.bytes.flags_of.Goals as goal

pub loop-i-preserved : goal.loop-i-preserved
loop-i-preserved c =
    let four = behind_four c.args.bytes.now c.told-bytes in
    let inside : c.loop-i.i < length (drop 4 c.args.bytes.now) = rw four at c.loop-i-test.true in
    let room : c.loop-i.i < 128 = omega (arith, length-drop 4 c.args.bytes.now, c.told-bytes) in (
      rw (c.loop-i.invariant.0, four) (map_turn flag_of (replicate 128 false) 0 _ c.loop-i.i _ 0 (omega arith) room inside),
      simp length-set c.loop-i.invariant.1,
    )

pub returns : goal.returns
returns c =
    let four = behind_four c.args.bytes.now c.told-bytes in
    let end : length (drop 4 c.args.bytes.now) ≤ c.loop-i.i = rw four at c.loop-i-test.false in
    let most : c.loop-i.i ≤ length (drop 4 c.args.bytes.now) = rw four at c.loop-i.auto.i-end in
    c.loop-i.invariant.0 ∙ map_done flag_of (replicate 128 false) 0 _ c.loop-i.i (omega arith) (omega (arith, length-drop 4 c.args.bytes.now, c.told-bytes))
