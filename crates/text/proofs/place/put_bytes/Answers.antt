-- One byte more is placed.
use Rattle.text.proofs.PlacedLaws.{bytes_turn}
use Rattle.text.proofs.place.put_bytes.Goals as goal

pub loop-b-preserved : goal.loop-b-preserved
loop-b-preserved c = bytes_turn c.args.bytes.now _ c.loop-b-test.true c.loop-b.invariant c.put_byte-next.ensures
