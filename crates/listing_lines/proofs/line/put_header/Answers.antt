-- `put_header` meets its contract: its four fields are placed one behind the other.
use Rattle.std.proofs.Common.{rules}
use Rattle.text.proofs.PlacedLaws.{then}
use Rattle.listing_lines.specs.Lines.{header_of}
use Rattle.listing_lines.proofs.line.put_header.Goals as goal

pub returns : goal.returns
unfolding header_of
returns c = search (rules, then)
