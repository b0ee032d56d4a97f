-- Each op takes a word from what is left of the line.
use Rattle.std.proofs.Common.{length}
use Rattle.bench_stations.proofs.stations.check_ops.Given as goal

abbrev pub decreases-loop-words : goal.decreases-loop-words
decreases-loop-words l = length l.words.rest.now
