-- What private functions promise each other. Nothing here has to be believed: no promise of a public call cites it.
use Rattle.std.specs.Prelude.{ℕ, Bool, true, false, List, ◌≡◌, length, Err, Ok, Result}
use Rattle.ground.specs.Pick.{if}
use Rattle.initiator.specs.declared.answer.InitiatorAnswer.{InitiatorAnswer}
use Rattle.initiator.specs.declared.answer.InitiatorAnswer.TheVariants as answer
use Rattle.initiator.specs.declared.head.InitiatorHead.{InitiatorHead}
use Rattle.initiator.specs.declared.head.InitiatorHeadTurn.{InitiatorHeadTurn}
use Rattle.initiator.specs.Calls.{Outcome, not_sent, unknown}
use Rattle.initiator.specs.declared.state.Initiator.{Initiator}
use Rattle.initiator.specs.declared.state.Phase.{Phase}
use Rattle.initiator.specs.declared.state.Phase.TheVariants.{Closed, Ready, Opening, Order}
use Rattle.link_rules.specs.declared.link.Link.{Link}
use Rattle.link_telegrams.specs.Headers.{opening_header, order_header}
use Rattle.link_telegrams.specs.Turns.{Said, tells, nothing}
use Rattle.telegram.specs.declared.header.DataTelegramHeader.{DataTelegramHeader}
use Rattle.telegram_tx.specs.Writing.{shown_writing, write_of, buffer_of}
use Rattle.ground.specs.declared.refusal.Refusal.{Refusal}
use Rattle.telegram_tx.specs.declared.tx.TelegramTxResponse.{TelegramTxResponse}

-- the head of a record
abbrev pub head_part : Initiator → InitiatorHead
head_part i = record { link = i.link; tries = i.tries; phase = i.phase; len = i.len }

-- the call says this, and nothing of the head changes
abbrev pub staying : InitiatorAnswer → InitiatorHead → InitiatorHeadTurn
staying answer head = record { answer = answer; phase = head.phase; len = head.len }

-- the writer's answer: the head goes on in another phase where it wrote, and stays where it refused
abbrev pub written_of : Result TelegramTxResponse Refusal → InitiatorHead → Phase → ℕ → InitiatorHeadTurn
written_of (Ok response) head phase len = record { answer = answer.Sent response.bytes_sent; phase = phase; len = len }
written_of (Err refusal) head phase len = staying (answer.Refused refusal) head

-- the header of the telegram of a phase
abbrev pub header_in : Link → Phase → DataTelegramHeader
header_in link Closed = opening_header link
header_in link (Ready b) = order_header link b
header_in link (Opening k) = opening_header link
header_in link (Order b k) = order_header link b

-- the phase that a submission begins, and how much of the order its first telegram has
abbrev pub first_phase : Phase → Phase
first_phase Closed = Opening 1
first_phase (Ready b) = Order b 1
first_phase (Opening k) = Opening k
first_phase (Order b k) = Order b k

abbrev pub first_len : Phase → ℕ → ℕ
first_len Closed n = 0
first_len (Ready b) n = n
first_len (Opening k) n = 0
first_len (Order b k) n = 0

-- what is reported of a pending order where no more is sent of it
abbrev pub given_up : Phase → Said Outcome
given_up Closed = nothing
given_up (Ready b) = nothing
given_up (Opening k) = tells (not_sent k)
given_up (Order b k) = tells (unknown k)

-- the functions that write the telegram of a phase: the writer's answer, and the buffer
pub record Wrote (head : InitiatorHead) (phase : Phase) (len : ℕ) (pdu : List ℕ) (t : InitiatorHeadTurn) (before after : List ℕ) : Type 0 where
  pub result : Result TelegramTxResponse Refusal
  pub answered : shown_writing result ≡ write_of (header_in head.link phase) pdu (length before)
  pub turn : t ≡ written_of result head phase len
  pub buffer : after ≡ buffer_of (header_in head.link phase) pdu before

abbrev pub was_sent : InitiatorAnswer → Bool
was_sent (answer.Sent n) = true
was_sent (answer.Confirmed reply tries) = false
was_sent (answer.NotSent tries) = false
was_sent (answer.Unknown tries) = false
was_sent answer.Nothing = false
was_sent (answer.Refused refusal) = false

-- the lent bytes: another order stands there where a telegram was written
abbrev pub kept_after : InitiatorAnswer → List ℕ → List ℕ → List ℕ
kept_after answer kept next = if (was_sent answer) next kept
