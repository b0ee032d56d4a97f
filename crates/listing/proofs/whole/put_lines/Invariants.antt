-- `put_lines` meets its contract: after each turn the lines up to the place are put, and those from there on are left.
use Prim.Native.Nat.{◌-◌}
use lib.ListN.{length}
use Rattle.listing.proofs.ListingLaws.{Progress}
use Rattle.listing.proofs.whole.put_lines.Given as goal

abbrev pub invariant-loop-line : goal.invariant-loop-line
invariant-loop-line l = Progress l.mode l.initial.buf l.to l.input l.buf l.next l.at

abbrev pub decreases-loop-line : goal.decreases-loop-line
decreases-loop-line l = length l.input - l.at
