-- `Place::put_head` meets its contract: its five writes, one behind the other.
use Rattle.telegram_bytes.specs.Serialized.{coded_head}
use Rattle.telegram_bytes.proofs.LeafLaws.{covers_then}
use Rattle.telegram_bytes.proofs.put.Place.put_head.Goals as goal

pub returns : goal.returns
unfolding coded_head
returns c =
    let addresses = covers_then c.put_address.ensures c.put_address-2.ensures in
    covers_then (covers_then (covers_then addresses c.put_byte.ensures) c.put_sap.ensures) c.put_sap-2.ensures
