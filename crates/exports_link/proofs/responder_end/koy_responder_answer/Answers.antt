-- `koy_responder_answer` meets its contract: the call on the head, with the held reply behind it lent. By hand, since `grind` does not find what
-- the law `answered_over` takes.
use borrow.Author.Rules.{rules}
use Rattle.exports_link.proofs.CallLaws.{answered_over}
use Rattle.exports_link.proofs.responder_end.koy_responder_answer.Goals as goal

pub returns : goal.returns
returns c =
    answered_over c.args.state.now c.args.told.now c.args.reply.now c.args.buf.now (search rules) c.head_of.ensures c.answer-turn.result _ _ c.answer-turn.ensures
    c.finish.ensures.code c.finish.ensures.told c.finish.ensures.state
