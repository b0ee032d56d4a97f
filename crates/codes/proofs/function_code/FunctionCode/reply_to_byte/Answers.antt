-- `FunctionCode::reply_to_byte` meets its contract: what is told on either side of bit 6 is told of the whole byte.
use Rattle.std.proofs.Common.{◌∙◌, arith}
use Rattle.codes.proofs.FunctionCodeLaws.{request_reply, response_reply}
use Rattle.codes.proofs.function_code.FunctionCode.reply_to_byte.Goals as goal

pub returns-then-b-eq0 : goal.returns-then-b-eq0
returns-then-b-eq0 c = c.response_reply.ensures ∙ response_reply _ (λ set. omega (arith, c.if-b-eq0.true))

pub returns : goal.returns
returns c = c.request_reply.ensures ∙ request_reply _ (omega (arith, c.if-b-eq0.false))
