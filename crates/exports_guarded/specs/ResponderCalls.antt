-- The guarded calls of the responder: `koy_guarded_responder_new` and the two below it. Its guard is a stamp and a number.
use Rattle.std.specs.Prelude.{ℕ, List, [], ◌∷◌, eqb, get_or}
use Rattle.ground.specs.Pick.{if}
use Rattle.exports_link.specs.Calls.{Call, unless_refused}
use Rattle.exports_link.specs.ResponderCalls.{koy_responder_new, koy_responder_hear, koy_responder_answer}
use Rattle.exports_guarded.specs.Calls.{GuardedCall, GuardedNew, made_with, ignored}
use Rattle.guards.specs.Guards.{last_of, handed_of, is_stale, stamp_after, number_after, number_told}

-- a call that is made at this moment: its two numbers and that of an order handed up, its stamp and its count
abbrev pub numbered : List ℕ → ℕ → List ℕ → Call → GuardedCall
numbered guard moment told c =
    record {
      code = c.code;
      told = unless_refused c.code told (get_or c.told 0 0 ∷ get_or c.told 1 0 ∷ number_told c.code (handed_of guard) ∷ []);
      state = c.state;
      guard = stamp_after c.code (last_of guard) moment ∷ number_after c.code (handed_of guard) ∷ [];
      buffer = c.buffer;
    }

-- the exported calls, on what was lent as it came
abbrev pub koy_guarded_responder_new : List ℕ → List ℕ → ℕ → ℕ → ℕ → GuardedNew
koy_guarded_responder_new state guard own peer moment = made_with guard (moment ∷ moment ∷ []) (koy_responder_new state own peer)

-- bytes that are stale are ignored, whatever the room
abbrev pub koy_guarded_responder_hear : List ℕ → List ℕ → ℕ → ℕ → List ℕ → List ℕ → List ℕ → GuardedCall
koy_guarded_responder_hear state guard received moment heard buf told =
    if (is_stale guard received) (ignored state guard buf) (numbered guard moment told (koy_responder_hear state heard buf (0 ∷ 0 ∷ [])))

-- no reply is owed to an order of another number: 21, whatever the room
abbrev pub koy_guarded_responder_answer : List ℕ → List ℕ → ℕ → ℕ → List ℕ → List ℕ → List ℕ → GuardedCall
koy_guarded_responder_answer state guard number moment reply buf told =
    if (eqb number (handed_of guard)) (numbered guard moment told (koy_responder_answer state reply buf (0 ∷ 0 ∷ [])))
    (record { code = 21; told = told; state = state; guard = guard; buffer = buf })
