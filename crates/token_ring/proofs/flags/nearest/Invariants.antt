-- `nearest` meets its contract: the flags below the place reached give the least distance so far.
use denote.Param.{number}
use Rattle.token_ring.specs.Leaves.{Nearest, away}
use Rattle.token_ring.specs.contracts.flags.nearest.{ABOVE-type}
use Rattle.token_ring.proofs.flags.nearest.Given as goal

abbrev pub invariant-loop-at : goal.invariant-loop-at
invariant-loop-at g l = Nearest (away (ABOVE-type (number g.row.ABOVE)) l.from) l.at l.flags l.best
