-- `send_coded_telegram` meets its contract: a byte that is no function code is 4; any other is written as the code that it is read as.
use borrow.Author.Rules.{rules}
use Rattle.std.proofs.Common.{refl, sym, ◌∙◌, rules}
use Rattle.codes.specs.FunctionCodes.{function_code_of}
use Rattle.telegram_tx.proofs.CodedLaws.{by_byte}
use Rattle.telegram_tx.proofs.tx.send_coded_telegram.Goals as goal

pub returns : goal.returns
returns c =
    let a = c.args in
    by_byte a.header a.pdu.now a.buf.now c.send_coded.result _ _ (function_code_of a.header.code) refl (search rules)
    (sym c.in-Some.is ∙ c.reply_to_byte.ensures)
    (rw (c.kept.ensures, c.then_some.ensures) at c.send_coded.ensures)
