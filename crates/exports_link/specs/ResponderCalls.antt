-- The calls of the responder as a program in another language makes them: `koy_responder_new` and the three below it.
use Rattle.std.specs.Prelude.{ℕ, List, [], ◌∷◌}
use Rattle.ground.specs.declared.part.Part.{Part}
use Rattle.link_rules.specs.Rules.{link_of}
use Rattle.exports_link.specs.Calls.{Call, NewCall, Crossing, crossed, new_call}
use Rattle.exports_link.specs.ResponderBytes.{responder_of, responder_bytes}
use Rattle.responder.specs.Calls.{hear_of, answer_of, restart_of}
use Rattle.responder.specs.Records.{made_of}
use Rattle.responder.specs.declared.state.Responder.{Responder}

-- an order that is handed up: its code, and its start and length in the heard bytes
abbrev pub order_code : Part → ℕ
order_code order = 106

abbrev pub order_numbers : Part → List ℕ
order_numbers order = order.start ∷ order.len ∷ []

abbrev pub responder_crosses : Crossing Responder Part
responder_crosses = record { bytes = responder_bytes; code = order_code; numbers = order_numbers; zeros = 0 ∷ [] }

-- the exported calls, on what was lent as it came
abbrev pub koy_responder_new : List ℕ → ℕ → ℕ → NewCall
koy_responder_new state own peer = new_call responder_crosses (made_of (link_of own peer)) state

abbrev pub koy_responder_hear : List ℕ → List ℕ → List ℕ → List ℕ → Call
koy_responder_hear state heard buf told = crossed responder_crosses state told (hear_of (responder_of state) heard buf)

abbrev pub koy_responder_answer : List ℕ → List ℕ → List ℕ → List ℕ → Call
koy_responder_answer state reply buf told = crossed responder_crosses state told (answer_of (responder_of state) reply buf)

-- the bytes of the record, restarted
abbrev pub koy_responder_restart : List ℕ → List ℕ
koy_responder_restart state = responder_bytes (restart_of (responder_of state))
