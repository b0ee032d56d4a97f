-- `next_of` meets its contract: the nearest station above our own place is the next one.
use Rattle.token_ring.proofs.NearestLaws.{next_found}
use Rattle.token_ring.proofs.flags.next_of.Goals as goal

pub returns-in-Some : goal.returns-in-Some
returns-in-Some c =
    let e = c.place_above-from.ensures in
    rw e (next_found _ _ _ c.told-flags c.in-Some.ensures.small (rw e at c.in-Some.ensures.least))
