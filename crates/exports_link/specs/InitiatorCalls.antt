-- The calls of the initiator as a program in another language makes them: `koy_initiator_new` and the four below it.
use Rattle.std.specs.Prelude.{ℕ, List, [], ◌∷◌}
use Rattle.link_rules.specs.Rules.{link_of}
use Rattle.exports_link.specs.Calls.{Call, NewCall, Crossing, crossed, new_call}
use Rattle.exports_link.specs.InitiatorBytes.{initiator_of, initiator_bytes}
use Rattle.initiator.specs.Calls.{Outcome, confirmed, not_sent, unknown, submit_of, silence_of, hear_of, restart_of}
use Rattle.initiator.specs.Records.{made_of}
use Rattle.initiator.specs.declared.state.Initiator.{Initiator}

-- an outcome's code
abbrev pub outcome_code : Outcome → ℕ
outcome_code (confirmed reply tries) = 103
outcome_code (not_sent tries) = 104
outcome_code (unknown tries) = 105

-- start and length of the reply in the heard bytes; then the tries
abbrev pub outcome_numbers : Outcome → List ℕ
outcome_numbers (confirmed reply tries) = reply.start ∷ reply.len ∷ tries ∷ []
outcome_numbers (not_sent tries) = 0 ∷ 0 ∷ tries ∷ []
outcome_numbers (unknown tries) = 0 ∷ 0 ∷ tries ∷ []

abbrev pub initiator_crosses : Crossing Initiator Outcome
initiator_crosses = record { bytes = initiator_bytes; code = outcome_code; numbers = outcome_numbers; zeros = 0 ∷ 0 ∷ [] }

-- the exported calls, on what was lent as it came
abbrev pub koy_initiator_new : List ℕ → ℕ → ℕ → ℕ → NewCall
koy_initiator_new state own peer tries = new_call initiator_crosses (made_of (link_of own peer) tries) state

abbrev pub koy_initiator_submit : List ℕ → List ℕ → List ℕ → List ℕ → Call
koy_initiator_submit state order buf told = crossed initiator_crosses state told (submit_of (initiator_of state) order buf)

abbrev pub koy_initiator_silence : List ℕ → List ℕ → List ℕ → Call
koy_initiator_silence state buf told = crossed initiator_crosses state told (silence_of (initiator_of state) buf)

abbrev pub koy_initiator_hear : List ℕ → List ℕ → List ℕ → List ℕ → Call
koy_initiator_hear state heard buf told = crossed initiator_crosses state told (hear_of (initiator_of state) heard buf)

-- it is lent no buffer
abbrev pub koy_initiator_restart : List ℕ → List ℕ → Call
koy_initiator_restart state told = crossed initiator_crosses state told (restart_of (initiator_of state))
