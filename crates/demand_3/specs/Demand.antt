-- Demand 3, stated of any pair of ends: "With one initiator and one responder, on a line that may lose telegrams but
-- neither alters, doubles nor delays them, and with either end restarting at any moment: a confirmed order was
-- carried out exactly once and shows the reply made then; an order reported not sent was never carried out; an
-- unknown or pending one at most once; and orders are carried out in the order submitted. If neither end has
-- restarted since the opening began, the cabinet answers at once, and one permitted try of the opening and one of the
-- order pass both ways, the order is confirmed." Beside it stands what it takes for granted: an order that may be submitted is taken.
use Rattle.std.specs.Prelude.{ℕ, List}
use Rattle.demand_3.specs.Line.{Pair, Call, start, run, Obeys}
use Rattle.link_rules.specs.Rules.{Permitted}
use Rattle.demand_3.specs.Safe.{Safe}
use Rattle.demand_3.specs.Live.{Live, Takes}

-- after every list of calls that the line's law allows, from two ends just made
pub record Demand (P : Pair) : Type 0 where
  pub safe : (n : ℕ) → Permitted n → (cs : List (Call P)) → Obeys P (start P n) cs → Safe (run P (start P n) cs).past
  pub live : (n : ℕ) → Permitted n → (cs : List (Call P)) → Obeys P (start P n) cs → Live P (run P (start P n) cs)
  pub takes : (n : ℕ) → Permitted n → (cs : List (Call P)) → Obeys P (start P n) cs → Takes P (run P (start P n) cs)
