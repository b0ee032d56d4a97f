-- `heard` meets its contract: the list has heard the passes so far.
use Rattle.std.proofs.Common.{◌≡◌, map, take}
use Rattle.ring_demo.specs.Played.{pass}
use Rattle.token_ring.specs.Passes.{after}
use Rattle.ring_demo.proofs.heard.Given as goal

abbrev pub invariant-loop-sa : goal.invariant-loop-sa
invariant-loop-sa l = l.ring ≡ after (map pass (take l.sa-index l.passes)) l.fn.ring
