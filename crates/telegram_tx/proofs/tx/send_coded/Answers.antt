-- `send_coded` meets its contract: what `serialize` answers and leaves, with the station that is to reply.
use Rattle.std.proofs.lemmas.Result.{err_from_is_err_and}
use Rattle.telegram_tx.proofs.CodedLaws.{sends_bytes, sends_refusal}
use Rattle.telegram_tx.proofs.tx.send_coded.Goals as goal

pub returns-in_err-bytes_sent : goal.returns-in_err-bytes_sent
returns-in_err-bytes_sent c =
    let a = c.args in
    let refusal = err_from_is_err_and c.from_residual.result c.from_residual.ensures.1 in
    let left = c.in_err-bytes_sent.ensures in
    rw (refusal.1, refusal.2) (sends_refusal a.header _ a.pdu.now a.buf.now _ left.1 _ left.0)

pub returns : goal.returns
returns c =
    let a = c.args in
    sends_bytes a.header _ a.pdu.now a.buf.now _ c.serialize.ensures.1 _ _ c.in_ok-bytes_sent.ensures.0 c.new.ensures
