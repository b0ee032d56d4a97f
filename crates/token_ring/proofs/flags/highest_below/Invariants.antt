-- `highest_below` meets its contract: what is found below the place reached is what is found below the start.
use Rattle.std.proofs.Common.{◌≡◌}
use Rattle.token_ring.specs.Flags.{highest_below}
use Rattle.token_ring.proofs.flags.highest_below.Given as goal

abbrev pub invariant-loop-at : goal.invariant-loop-at
invariant-loop-at l = highest_below l.at l.flags ≡ highest_below l.to l.flags
