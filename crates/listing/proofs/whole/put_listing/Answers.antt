-- `put_listing` meets its contract: the first line and the lines are placed one behind the other.
use Rattle.std.proofs.Common.{rules}
use Rattle.text.proofs.PlacedLaws.{then}
use Rattle.listing.specs.Listing.{bytes_line, listing_in}
use Rattle.listing.proofs.whole.put_listing.Goals as goal

pub returns : goal.returns
unfolding listing_in bytes_line
returns c = search (rules, then)
