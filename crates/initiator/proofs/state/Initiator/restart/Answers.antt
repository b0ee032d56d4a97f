-- `Initiator::restart` meets its contract: the call on its head. By hand, since that promises for every order, and no tactic picks its own.
use Rattle.initiator.proofs.state.Initiator.restart.Goals as goal

pub returns : goal.returns
returns c = rw c.whole_turn.ensures (rw c.head_of.ensures at (c.restart-turn.ensures c.args.self.order))
