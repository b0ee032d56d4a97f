-- `put_place` meets its contract: its three fields are placed one behind the other.
use Rattle.std.proofs.Common.{rules}
use Rattle.text.proofs.PlacedLaws.{then}
use Rattle.listing_lines.specs.Lines.{place_of}
use Rattle.listing_lines.proofs.line.put_place.Goals as goal

pub returns : goal.returns
unfolding place_of
returns c = search (rules, then)
