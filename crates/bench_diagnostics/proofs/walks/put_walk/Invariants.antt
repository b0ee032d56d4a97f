-- The cursor only rises.
use Rattle.std.proofs.Common.{◌-◌}
use Rattle.bench_diagnostics.proofs.walks.put_walk.Given as goal

abbrev pub decreases-loop-out : goal.decreases-loop-out
decreases-loop-out l = 18446744073709551616 - l.iter.cursor
