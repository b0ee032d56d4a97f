-- `put_line` meets its contract: its three parts are placed one behind the other.
use Rattle.std.proofs.Common.{rules}
use Rattle.text.proofs.PlacedLaws.{then}
use Rattle.listing_lines.specs.Lines.{line_of}
use Rattle.listing_lines.proofs.line.put_line.Goals as goal

pub returns : goal.returns
unfolding line_of
returns c = search (rules, then)
