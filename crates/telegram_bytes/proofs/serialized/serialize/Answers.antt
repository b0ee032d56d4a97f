-- `serialize` meets its contract: `put_telegram` tells whether there is room.
use Rattle.telegram_bytes.proofs.SerializedLaws.{fitted_serialized}
use Rattle.telegram_bytes.proofs.serialized.serialize.Goals as goal

pub returns : goal.returns
returns c =
    fitted_serialized c.args.header c.args.pdu.now c.args.buf.now c.if-header-gt127.false c.if-header-gt127-2.false
    (rw c.length_byte-l.ensures at c.if-l-gt249.false)
    c.put_telegram.result c.put_telegram.ensures c.ok_or.ensures.value
