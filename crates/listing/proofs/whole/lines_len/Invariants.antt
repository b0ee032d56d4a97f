-- `lines_len` meets its contract: after each turn the lines up to the place are counted, and those from there on are left.
use Prim.Native.Nat.{◌-◌}
use lib.ListN.{length}
use Rattle.listing.proofs.ListingLaws.{Counted}
use Rattle.listing.proofs.whole.lines_len.Given as goal

abbrev pub invariant-loop-line : goal.invariant-loop-line
invariant-loop-line l = Counted l.mode l.input l.len l.at

abbrev pub decreases-loop-line : goal.decreases-loop-line
decreases-loop-line l = length l.input - l.at
