-- `put_figure` meets its contract: the name is placed, then the figure as its arm says.
use Rattle.std.proofs.Common.{rules}
use Rattle.text.proofs.PlacedLaws.{then}
use Rattle.listing_lines.proofs.line.put_figure.Goals as goal

pub returns-in-Some : goal.returns-in-Some
returns-in-Some c = rw c.in-Some.is (search (rules, then))

pub returns-in-None : goal.returns-in-None
returns-in-None c = rw c.in-None.is (search (rules, then))
