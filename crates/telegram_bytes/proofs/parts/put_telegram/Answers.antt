-- `put_telegram` meets its contract: start, head, PDU and end, one behind the other, are the telegram.
use Rattle.telegram_bytes.proofs.LengthLaws.{coded_bytes_length}
use Rattle.telegram_bytes.proofs.LeafLaws.{telegram_stored}
use Rattle.telegram_bytes.proofs.parts.put_telegram.Goals as goal

pub returns : goal.returns
returns c = (
  rw (coded_bytes_length, ← c.requires.length_is) c.in_ok-at.ensures.0,
  telegram_stored c.args.header c.args.pdu.now c.requires.length_is c.in_ok-at.ensures.1 c.put_head.ensures c.put_pdu-after_pdu.ensures c.put_end.ensures,
)
