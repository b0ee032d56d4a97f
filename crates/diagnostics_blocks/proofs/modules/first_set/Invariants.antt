-- What is left to look at gives the whole search's answer.
use mathlib.Core.Path.{◌≡◌}
use Prim.Native.Nat.{◌-◌}
use Rattle.diagnostics_blocks.specs.Modules.{first_of, first_of_next, modules_of}
use Rattle.diagnostics_blocks.proofs.modules.first_set.Given as goal

abbrev pub invariant-loop-at : goal.invariant-loop-at
invariant-loop-at l = (first_of_next l.body (modules_of l.body - l.at) l.at ≡ first_of l.body l.from)
