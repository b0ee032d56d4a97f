-- `put_content` meets its contract: its two fields and the line feed are placed one behind the other.
use Rattle.std.proofs.Common.{rules}
use Rattle.text.proofs.PlacedLaws.{then}
use Rattle.listing_lines.specs.Lines.{content_of}
use Rattle.listing_lines.proofs.line.put_content.Goals as goal

pub returns : goal.returns
unfolding content_of
returns c = search (rules, then)
