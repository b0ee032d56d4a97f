-- `none_between` meets its contract: nothing is set from the start where none was counted and nothing is set from the place reached.
use Rattle.std.proofs.Common.{◌≡◌, ◌≤◌, ◌&&◌, eqb}
use Rattle.token_ring.specs.Flags.{quiet}
use Rattle.token_ring.proofs.flags.none_between.Given as goal

abbrev pub invariant-loop-at : goal.invariant-loop-at
invariant-loop-at l = (quiet l.from l.to l.flags ≡ (eqb l.count 0 && quiet l.at l.to l.flags)) × (l.count ≤ l.at)
