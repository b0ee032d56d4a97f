-- `put_refused` meets its contract: where there is room the line is placed at the front.
use native.Mathlib.Omega.{arith}
use Rattle.listing.proofs.AnswerLaws.{printed_done}
use Rattle.listing.proofs.whole.put_refused.Goals as goal

pub returns : goal.returns
returns c = printed_done _ _ (omega arith) c.put_bytes.ensures
