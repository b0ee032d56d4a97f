-- `put_lines` meets its contract: behind the last item all lines are put.
use Rattle.listing.proofs.ListingLaws.{finishes}
use Rattle.listing.proofs.whole.put_lines.Goals as goal

pub returns-in_default : goal.returns-in_default
returns-in_default c =
    finishes c.loop-line.invariant c.item_at-item.ensures c.put_item-next.ensures c.in_default.is
