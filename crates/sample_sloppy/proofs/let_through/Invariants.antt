-- Each turn that goes on leaves fewer bytes.
use Rattle.std.proofs.Common.{length}
use Rattle.sample_sloppy.proofs.let_through.Given as goal

abbrev pub decreases-loop-telegram : goal.decreases-loop-telegram
decreases-loop-telegram l = length l.rest
