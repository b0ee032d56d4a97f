-- `koy_write_data` meets its contract: answer and buffer are the writer's, which tests the function code's byte.
use Rattle.codes.specs.FunctionCodes.{function_code_of}
use Rattle.exports_telegrams.proofs.WriteLaws.{coded_of_lem}
use Rattle.exports_telegrams.specs.Write.{koy_write_data}
use Rattle.exports_telegrams.proofs.writing.koy_write_data.Goals as goal

pub returns : goal.returns
unfolding koy_write_data
returns c =
    let a = c.args in
    let w = rw c.header_of-header.ensures at c.send_coded_telegram.ensures in
    coded_of_lem (function_code_of a.fc) a.da a.sa a.dsap a.ssap a.fc a.pdu.now a.told.now a.buf.now
    w.0
    w.1
    (c.tell.ensures _)
