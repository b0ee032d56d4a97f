-- The three lines are placed one behind the other.
use Rattle.settings.proofs.WritingLaws.{text_placed}
use Rattle.settings.proofs.settings.put_text.Goals as goal

pub returns : goal.returns
returns c = text_placed _ _ _ c.put_line-peer_at.ensures c.put_line-tries_at.ensures c.put_line.ensures
