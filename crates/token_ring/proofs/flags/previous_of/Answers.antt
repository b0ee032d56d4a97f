-- `previous_of` meets its contract: the nearest station below our own place is the previous one.
use Rattle.std.proofs.Common.{◌∙◌}
use Rattle.token_ring.proofs.NearestLaws.{previous_found}
use Rattle.token_ring.proofs.flags.previous_of.Goals as goal

pub returns-in-Some : goal.returns-in-Some
returns-in-Some c =
    let e = c.place_below-from.ensures in
    c.away_from.ensures ∙ rw e (previous_found _ _ _ c.told-flags c.in-Some.ensures.small (rw e at c.in-Some.ensures.least))
