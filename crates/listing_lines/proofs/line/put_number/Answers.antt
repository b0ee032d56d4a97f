-- `put_number` meets its contract: the name is placed, then the digits behind it.
use Rattle.std.proofs.Common.{rules}
use Rattle.text.proofs.PlacedLaws.{then}
use Rattle.listing_lines.proofs.line.put_number.Goals as goal

pub returns : goal.returns
returns c = search (rules, then)
