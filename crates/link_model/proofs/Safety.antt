-- Our two ends keep the first sentence of demand 3: in every configuration the latest order is one that was never
-- handed up, or was handed up once, and so are all before it.
use Prim.Native.Nat.{ℕ}
use mathlib.Core.Bool.{Bool}
use mathlib.Core.List.{List}
use mathlib.Core.Option.{Option}
use Rattle.link_model.specs.Messages.{Message}
use Rattle.link_model.specs.Initiator.{Phase}
use Rattle.link_model.specs.Responder.{Row}
use Rattle.demand_3.specs.History.{History}
use Rattle.demand_3.specs.Line.{Call, run, start, Obeys}
use Rattle.demand_3.specs.Safe.{Safe}
use Rattle.link_model.specs.Ours.{ours}
use Rattle.link_model.proofs.Invariant.{gone_never, gone_once, waits, waited, never, once, Inv, at_rest, left_unserved, left_served, at_ready, at_asking, unserved, served}
use Rattle.link_model.proofs.Kept.{kept_safe}
use Rattle.link_model.proofs.Always.{always}

inv_safe : {p : Phase} {r : Row} {l : Option Message} {h : History} {u : Bool} → Inv p r l h u → Safe h
inv_safe (at_rest k l) = kept_safe k
inv_safe (left_unserved g k y) = kept_safe (never (gone_never g) k)
inv_safe (left_served g k y) = kept_safe (once (gone_once g) k)
inv_safe (at_ready k y l) = kept_safe k
inv_safe (at_asking k l) = kept_safe (never waits k)
inv_safe (unserved k y l) = kept_safe (never waits k)
inv_safe (served k y l) = kept_safe (once waited k)

pub ours_safe : (n : ℕ) (cs : List (Call ours)) → Obeys ours (start ours n) cs → Safe (run ours (start ours n) cs).past
ours_safe n cs o = inv_safe (always n cs o).ends
