-- `put_end` meets its contract: the end, its place and the line feed are placed one behind the other.
use Rattle.std.proofs.Common.{rules}
use Rattle.text.proofs.PlacedLaws.{then}
use Rattle.listing_lines.specs.Lines.{end_of}
use Rattle.listing_lines.proofs.line.put_end.Goals as goal

pub returns : goal.returns
unfolding end_of
returns c = search (rules, then)
