-- `nearest` meets its contract: the flags below the place reached give the least distance so far.
use Rattle.std.proofs.Common.{◌≡◌, ◌∙◌, arith}
use Rattle.token_ring.proofs.NearestLaws.{away_small, nearest_turn}
use Rattle.token_ring.proofs.flags.nearest.Goals as goal
use Rattle.token_ring.proofs.flags.nearest.Goals.{then-on, else-on}

pub loop-at-preserved : goal.loop-at-preserved
loop-at-preserved g c =
    rw c.min-best.ensures
    (elim c.if-on.branch [
      | then-on w ↦ nearest_turn _ (away_small _ _) _ _ _ _ _ w.if-on.true (w.here-is ∙ w.away_from-here.ensures) c.loop-at.invariant
      | else-on w ↦ nearest_turn _ (away_small _ _) _ _ _ _ _ w.if-on.false w.here-is c.loop-at.invariant
    ])

pub returns-else-best-clause-least : goal.returns-else-best-clause-least
returns-else-best-clause-least g c = let e : c.loop-at.at ≡ 128 = omega arith in rw e at c.loop-at.invariant
