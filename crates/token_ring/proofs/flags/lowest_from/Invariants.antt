-- `lowest_from` meets its contract: what is found from the place reached is what is found from the start.
use Rattle.std.proofs.Common.{◌≡◌}
use Rattle.token_ring.specs.Flags.{lowest_from}
use Rattle.token_ring.proofs.flags.lowest_from.Given as goal

abbrev pub invariant-loop-at : goal.invariant-loop-at
invariant-loop-at l = lowest_from l.at l.flags ≡ lowest_from l.from l.flags
