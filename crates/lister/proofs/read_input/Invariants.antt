-- Each turn that goes on has read a byte, and what was read lies within the buffer.
use Rattle.std.proofs.Common.{◌≡◌, ◌-◌, ◌≤◌, length}
use Rattle.lister.proofs.read_input.Given as goal

abbrev pub invariant-loop-len : goal.invariant-loop-len
invariant-loop-len l = (length l.buf ≡ length l.initial.buf) × (l.len ≤ length l.initial.buf)

abbrev pub decreases-loop-len : goal.decreases-loop-len
decreases-loop-len l = length l.buf - l.len
