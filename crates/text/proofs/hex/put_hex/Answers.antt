-- The digits of one byte more are placed.
use Rattle.text.proofs.HexLaws.{hex_turn}
use Rattle.text.proofs.hex.put_hex.Goals as goal

pub loop-b-preserved : goal.loop-b-preserved
loop-b-preserved c = hex_turn c.args.bytes.now _ c.loop-b-test.true c.loop-b.invariant c.put_hex_byte-next.ensures
