-- `clear` meets its contract: what is left to clear of the flags as they are is what was to be cleared of the flags as they came.
use Rattle.std.proofs.Common.{◌≡◌, length}
use Rattle.token_ring.specs.Flags.{cleared}
use Rattle.token_ring.proofs.flags.clear.Given as goal

abbrev pub invariant-loop-at : goal.invariant-loop-at
invariant-loop-at l = (cleared l.at l.to l.flags ≡ cleared l.from l.to l.initial.flags) × (length l.flags ≡ 128)
