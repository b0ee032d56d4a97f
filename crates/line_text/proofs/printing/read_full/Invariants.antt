-- What was read lies within the buffer, and a turn that goes on has read a byte.
use Rattle.std.proofs.Common.{◌-◌, ◌≤◌, length}
use Rattle.line_text.proofs.printing.read_full.Given as goal

abbrev pub invariant-loop-len : goal.invariant-loop-len
invariant-loop-len l = l.len ≤ length l.buf

abbrev pub decreases-loop-len : goal.decreases-loop-len
decreases-loop-len l = length l.buf - l.len
