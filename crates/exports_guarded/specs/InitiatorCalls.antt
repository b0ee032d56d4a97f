-- The guarded calls of the initiator: `koy_guarded_initiator_new` and the three below it. Its guard is one stamp.
use Rattle.std.specs.Prelude.{ℕ, List, [], ◌∷◌}
use Rattle.ground.specs.Pick.{if}
use Rattle.exports_link.specs.Calls.{Call}
use Rattle.exports_link.specs.InitiatorCalls.{koy_initiator_new, koy_initiator_submit, koy_initiator_silence, koy_initiator_hear}
use Rattle.exports_guarded.specs.Calls.{GuardedCall, GuardedNew, made_with, ignored}
use Rattle.guards.specs.Guards.{last_of, is_stale, stamp_after}

-- a call that is made at this moment, with its stamp
abbrev pub stamped : List ℕ → ℕ → Call → GuardedCall
stamped last moment c =
    record { code = c.code; told = c.told; state = c.state; guard = stamp_after c.code (last_of last) moment ∷ []; buffer = c.buffer }

-- the exported calls, on what was lent as it came
abbrev pub koy_guarded_initiator_new : List ℕ → List ℕ → ℕ → ℕ → ℕ → ℕ → GuardedNew
koy_guarded_initiator_new state last own peer tries moment = made_with last (moment ∷ []) (koy_initiator_new state own peer tries)

abbrev pub koy_guarded_initiator_submit : List ℕ → List ℕ → ℕ → List ℕ → List ℕ → List ℕ → GuardedCall
koy_guarded_initiator_submit state last moment order buf told = stamped last moment (koy_initiator_submit state order buf told)

abbrev pub koy_guarded_initiator_silence : List ℕ → List ℕ → ℕ → List ℕ → List ℕ → GuardedCall
koy_guarded_initiator_silence state last moment buf told = stamped last moment (koy_initiator_silence state buf told)

-- bytes that are stale are ignored, whatever the room
abbrev pub koy_guarded_initiator_hear : List ℕ → List ℕ → ℕ → ℕ → List ℕ → List ℕ → List ℕ → GuardedCall
koy_guarded_initiator_hear state last received moment heard buf told =
    if (is_stale last received) (ignored state last buf) (stamped last moment (koy_initiator_hear state heard buf told))
