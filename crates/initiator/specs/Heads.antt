-- Document 01's initiator in two parts: its head by value, and its order in bytes that the caller lent. The calls are those of `Calls` on the
-- record that both parts make. Read `whole_of`, `head_after`, `shown_on`, `submit_on`, `silence_on`, `hear_on`.
use Rattle.std.specs.Prelude.{ℕ, List}
use Rattle.initiator.specs.Calls.{Outcome, shown_said, submit_of, silence_of, hear_of}
use Rattle.initiator.specs.declared.head.InitiatorHead.{InitiatorHead}
use Rattle.initiator.specs.declared.head.InitiatorHeadTurn.{InitiatorHeadTurn}
use Rattle.initiator.specs.declared.state.Initiator.{Initiator}
use Rattle.link_telegrams.specs.Turns.{Turn, saying, with_lent}

-- the record of a head and the bytes lent with it
abbrev pub whole_of : InitiatorHead → List ℕ → Initiator
whole_of head kept =
    record { link = head.link; tries = head.tries; phase = head.phase; order = kept; len = head.len }

-- the head that goes on after a call: another phase and another length, the rest stays
abbrev pub head_after : InitiatorHeadTurn → InitiatorHead → InitiatorHead
head_after t head = record { link = head.link; tries = head.tries; phase = t.phase; len = t.len }

-- what a call says, the record that both parts make at its end, and the buffer
abbrev pub shown_on : InitiatorHeadTurn → InitiatorHead → List ℕ → List ℕ → Turn Initiator Outcome
shown_on t head kept buf = saying (shown_said t.answer) (whole_of (head_after t head) kept) buf

-- the calls of `Calls`, where enough bytes are lent for an order
abbrev pub submit_on : InitiatorHead → List ℕ → List ℕ → List ℕ → Turn Initiator Outcome
submit_on head kept q buf = with_lent kept (whole_of head kept) buf (submit_of (whole_of head kept) q buf)

abbrev pub silence_on : InitiatorHead → List ℕ → List ℕ → Turn Initiator Outcome
silence_on head kept buf = with_lent kept (whole_of head kept) buf (silence_of (whole_of head kept) buf)

abbrev pub hear_on : InitiatorHead → List ℕ → List ℕ → List ℕ → Turn Initiator Outcome
hear_on head kept s buf = with_lent kept (whole_of head kept) buf (hear_of (whole_of head kept) s buf)
