-- `koy_initiator_submit` meets its contract: the call on the head, with the order behind it lent. By hand, since `grind` does not find what the
-- law `submits` takes.
use borrow.Author.Rules.{rules}
use Rattle.exports_link.proofs.CallLaws.{submits}
use Rattle.exports_link.proofs.initiator_end.koy_initiator_submit.Goals as goal

pub returns : goal.returns
returns c =
    submits c.args.state.now c.args.told.now c.args.order.now c.args.buf.now (search rules) c.head_of.ensures c.submit-turn.result _ _ c.submit-turn.ensures
    c.finish.ensures.code c.finish.ensures.told c.finish.ensures.state
