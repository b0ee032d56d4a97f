-- `clear` meets its contract: what is left to clear of the flags as they are is what was to be cleared of the flags as they came.
use Rattle.std.proofs.Common.{◌∙◌, length-set}
use Rattle.token_ring.proofs.FlagLaws.{cleared_step}
use Rattle.token_ring.proofs.flags.clear.Goals as goal

pub loop-at-preserved : goal.loop-at-preserved
loop-at-preserved c = (cleared_step _ _ _ c.loop-at-test.true ∙ c.loop-at.invariant.0, simp length-set c.loop-at.invariant.1)
