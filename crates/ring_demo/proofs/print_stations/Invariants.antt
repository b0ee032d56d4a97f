-- Each time the search starts higher.
use Rattle.std.proofs.Common.{◌-◌}
use Rattle.ring_demo.proofs.print_stations.Given as goal

abbrev pub decreases-loop-station : goal.decreases-loop-station
decreases-loop-station g l = 256 - l.from
