-- What private functions promise each other. Nothing here has to be believed: no promise of a public call cites it.
use Rattle.std.specs.Prelude.{ℕ, List, Err, Ok, Result}
use Rattle.ground.specs.Part.{byte_at}
use Rattle.ground.specs.Refusals.{number_of}
use Rattle.ground.specs.declared.refusal.Refusal.{Refusal}
use Rattle.initiator.specs.declared.head.InitiatorHead.{InitiatorHead}
use Rattle.link_numbers.specs.Numbers.{phase_of, state_of}
use Rattle.link_rules.specs.Rules.{link_of}
use Rattle.responder.specs.declared.head.ResponderHead.{ResponderHead}

-- the initiator's record of these bytes without its order
unfoldable pub initiator_head_of : List ℕ → InitiatorHead
initiator_head_of s =
    record { link = link_of (byte_at s 0) (byte_at s 1); tries = byte_at s 2; phase = phase_of (byte_at s 3) (byte_at s 4); len = byte_at s 5 }

-- the responder's without its held reply
unfoldable pub responder_head_of : List ℕ → ResponderHead
responder_head_of s = record { link = link_of (byte_at s 0) (byte_at s 1); row = record { state = state_of (byte_at s 2); len = byte_at s 3 } }

-- the code that is given, or the refusal's number
abbrev pub code_given : Result ℕ Refusal → ℕ
code_given (Ok code) = code
code_given (Err refusal) = number_of refusal
