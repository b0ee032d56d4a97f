-- Document 01, "Initiator": what each call answers, the record that it leaves, and the buffer. Read `submit_of`, `silence_of`,
-- `hear_of`, `restart_of`; the words `Said` and `Turn` are those of `link_telegrams`.
use Rattle.std.specs.Prelude.{ℕ, ◌+◌, Bool, List, [], ltb, length}
use Rattle.ground.specs.Front.{copied_to}
use Rattle.ground.specs.Pick.{if}
use Rattle.ground.specs.Refusals.{number_of}
use Rattle.ground.specs.declared.part.Part.{Part}
use Rattle.ground.specs.declared.returned.Returned.{Returned}
use Rattle.initiator.specs.Records.{order_of}
use Rattle.initiator.specs.declared.answer.InitiatorAnswer.{InitiatorAnswer}
use Rattle.initiator.specs.declared.answer.InitiatorAnswer.TheVariants as answer
use Rattle.initiator.specs.declared.state.Initiator.{Initiator}
use Rattle.initiator.specs.declared.state.Phase.{Phase}
use Rattle.initiator.specs.declared.state.Phase.TheVariants.{Closed, Ready, Opening, Order}
use Rattle.link_rules.specs.Rules.{wrong_length}
use Rattle.link_telegrams.specs.Headers.{opening_header, order_header, cycled_bit}
use Rattle.link_telegrams.specs.Heard.{reply_heard_of}
use Rattle.link_telegrams.specs.Turns.{Said, sent, tells, nothing, refused, Turn, saying, refusing, writes_of, with_room}
use Rattle.link_telegrams.specs.declared.headers.Bit.{Bit}
use Rattle.link_telegrams.specs.declared.headers.Bit.TheVariants.{Low}
use Rattle.link_telegrams.specs.declared.heard.ReplyHeard.{ReplyHeard}
use Rattle.link_telegrams.specs.declared.heard.ReplyHeard.TheVariants as heard

-- what the application is told: the outcome of its order with the tries of its last phase; "confirmed, showing the reply as part of
-- the heard bytes"
pub data Outcome : Type 0 where
  confirmed : Part → ℕ → Outcome
  not_sent : ℕ → Outcome
  unknown : ℕ → Outcome

-- what a call answers, with document 01's number
abbrev pub shown_said : InitiatorAnswer → Said Outcome
shown_said (answer.Sent n) = sent n
shown_said (answer.Confirmed reply tries) = tells (confirmed reply tries)
shown_said (answer.NotSent tries) = tells (not_sent tries)
shown_said (answer.Unknown tries) = tells (unknown tries)
shown_said answer.Nothing = nothing
shown_said (answer.Refused refusal) = refused (number_of refusal)

abbrev pub shown_turn : Returned InitiatorAnswer Initiator → List ℕ → Turn Initiator Outcome
shown_turn t buf = saying (shown_said t.answer) t.after buf

-- the record in another phase
abbrev pub in_phase : Initiator → Phase → Initiator
in_phase i phase =
    record {
      link = i.link;
      tries = i.tries;
      phase = phase;
      order = i.order;
      len = i.len;
    }

-- the record with an order that is pending from now on
abbrev pub keeping : Initiator → List ℕ → Initiator
keeping i q =
    record {
      link = i.link;
      tries = i.tries;
      phase = i.phase;
      order = copied_to i.order q;
      len = length q;
    }

-- the record with no order pending
abbrev pub ended : Initiator → Phase → Initiator
ended i phase =
    record { link = i.link; tries = i.tries; phase = phase; order = i.order; len = 0 }

-- the call says this, and no order is pending any more
abbrev pub ends_of : Said Outcome → Initiator → Phase → List ℕ → Turn Initiator Outcome
ends_of said i phase buf = saying said (ended i phase) buf

-- the opening is sent, for the k-th time; i is the record that the call was given, j the one that goes on
abbrev pub sends_opening : Initiator → Initiator → ℕ → List ℕ → Turn Initiator Outcome
sends_opening i j k buf = writes_of i (in_phase j (Opening k)) (opening_header j.link) [] buf

-- the order is sent under its bit, for the k-th time
abbrev pub sends_order : Initiator → Initiator → Bit → ℕ → List ℕ → Turn Initiator Outcome
sends_order i j b k buf = writes_of i (in_phase j (Order b k)) (order_header j.link b) (order_of j) buf

-- 16: "order empty or above 246"
abbrev pub wrong_order : List ℕ → Bool
wrong_order q = wrong_length (length q)

-- "Submitting sends the opening if closed, else the order"; "Submitting 10, 17, 16"
abbrev pub submit_in : Phase → Initiator → List ℕ → List ℕ → Turn Initiator Outcome
submit_in Closed i q buf = if (wrong_order q) (refusing 16 i buf) (sends_opening i (keeping i q) 1 buf)
submit_in (Ready b) i q buf = if (wrong_order q) (refusing 16 i buf) (sends_order i (keeping i q) b 1 buf)
submit_in (Opening k) i q buf = refusing 17 i buf
submit_in (Order b k) i q buf = refusing 17 i buf

unfoldable pub submit_of : Initiator → List ℕ → List ℕ → Turn Initiator Outcome
submit_of i q buf = with_room i buf (submit_in i.phase i q buf)

-- "Silence reported: the same telegram again, until the tries of that phase are used; then not sent (opening) or unknown
-- (order, and closed with First)"; "ignored ... silence with nothing pending"
abbrev pub silence_in : Phase → Initiator → List ℕ → Turn Initiator Outcome
silence_in Closed i buf = saying nothing i buf
silence_in (Ready b) i buf = saying nothing i buf
silence_in (Opening k) i buf = if (ltb k i.tries) (sends_opening i i (k + 1) buf) (ends_of (tells (not_sent k)) i Closed buf)
silence_in (Order b k) i buf = if (ltb k i.tries) (sends_order i i b (k + 1) buf) (ends_of (tells (unknown k)) i Closed buf)

unfoldable pub silence_of : Initiator → List ℕ → Turn Initiator Outcome
silence_of i buf = with_room i buf (silence_in i.phase i buf)

-- "Awaited reply from the peer to us: cycle; after an opening send the order, after an order confirmed, showing the reply as
-- part of the heard bytes. All else is ignored"
abbrev pub awaiting_ok : ReplyHeard → Initiator → List ℕ → Turn Initiator Outcome
awaiting_ok heard.Ok i buf = sends_order i i Low 1 buf
awaiting_ok (heard.Reply reply) i buf = saying nothing i buf
awaiting_ok heard.Nothing i buf = saying nothing i buf

abbrev pub awaiting_reply : Bit → ℕ → ReplyHeard → Initiator → List ℕ → Turn Initiator Outcome
awaiting_reply b k heard.Ok i buf = saying nothing i buf
awaiting_reply b k (heard.Reply reply) i buf = ends_of (tells (confirmed reply k)) i (Ready (cycled_bit b)) buf
awaiting_reply b k heard.Nothing i buf = saying nothing i buf

abbrev pub hear_in : Phase → ReplyHeard → Initiator → List ℕ → Turn Initiator Outcome
hear_in Closed h i buf = saying nothing i buf
hear_in (Ready b) h i buf = saying nothing i buf
hear_in (Opening k) h i buf = awaiting_ok h i buf
hear_in (Order b k) h i buf = awaiting_reply b k h i buf

unfoldable pub hear_of : Initiator → List ℕ → List ℕ → Turn Initiator Outcome
hear_of i s buf = with_room i buf (hear_in i.phase (reply_heard_of i.link s) i buf)

-- "Restart reports a pending order as silence at the last try would"; "closed with First when ... restarted"
abbrev pub restart_in : Phase → Initiator → Turn Initiator Outcome
restart_in Closed i = ends_of nothing i Closed []
restart_in (Ready b) i = ends_of nothing i Closed []
restart_in (Opening k) i = ends_of (tells (not_sent k)) i Closed []
restart_in (Order b k) i = ends_of (tells (unknown k)) i Closed []

-- it is lent no buffer
unfoldable pub restart_of : Initiator → Turn Initiator Outcome
restart_of i = restart_in i.phase i
