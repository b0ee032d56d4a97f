-- Our two ends over any way to write messages as telegrams, with rooms and with the lengths that are refused. What a
-- telegram is, only the codec knows.
use Rattle.std.specs.Prelude.{Bool, true, ◌&&◌, ◌||◌, ◌≡◌}
use Rattle.std.proofs.Math.Option.{map}
use Rattle.ground.specs.Pick.{if}
use Rattle.link_model.specs.Messages.{Bit, Message, opening, ok, order, reply, other, is_opening}
use Rattle.demand_3.specs.Turns.{Bytes, Turn, refusing, ignoring}
use Rattle.link_model.specs.Initiator.{Initiator, new_initiator, submit_of, silence_of, hear_of, restart_of}
use Rattle.link_model.specs.Responder.{Row, new_row, same_bit, row_hears, row_answers}
use Rattle.demand_3.specs.Line.{Pair}

-- what a telegram is to the responder
pub data Request : Type 0 where
  an_opening : Request
  an_order : Bit → Bytes → Request
  no_request : Request

-- what a telegram is to the initiator
pub data Response : Type 0 where
  an_ok : Response
  a_reply : Bytes → Response
  no_response : Response

abbrev pub request_of : Request → Message
request_of an_opening = opening
request_of (an_order b q) = order b q
request_of no_request = other

abbrev pub response_of : Response → Message
response_of an_ok = ok
response_of (a_reply p) = reply p
response_of no_response = other

pub record Codec : Type 1 where
  pub Telegram : Type 0
  -- the lent buffer, and whether it is enough: 255 bytes
  pub Room : Type 0
  pub enough : Room → Bool
  -- "Order: … 1 to 246 bytes; its reply: … 0 to 246 bytes"
  pub orderable : Bytes → Bool
  pub answerable : Bytes → Bool
  -- the telegram of a message, and what a telegram is to each end
  pub put : Message → Telegram
  pub to_responder : Telegram → Request
  pub to_initiator : Telegram → Response
  -- what else the line may bring to an end in its present state
  pub StrayToInitiator : Initiator → Telegram → Type 0
  pub StrayToResponder : Row → Telegram → Type 0

-- What a request is to the responder as it stands: an order of a length that is not allowed counts only under the
-- stored bit. "Same bit: the held reply again …. Other bit: empty or above 246 bytes, nothing"
abbrev pub taken_of : Codec → Row → Request → Message
taken_of C r an_opening = opening
taken_of C r (an_order b q) = if (same_bit r b || C.orderable q) (order b q) other
taken_of C r no_request = other

-- a turn on messages, with its message put as a telegram
abbrev pub put_turn : {End Tale : Type 0} (C : Codec) → Turn End Message Tale → Turn End C.Telegram Tale
put_turn C t = record { next = t.next; writes = map C.put t.writes; says = t.says }

-- the two ends as a pair; a call with too little room, an order or an answer of another length, is refused
abbrev pub coded : Codec → Pair
coded C =
    record {
      Initiator = Initiator;
      Responder = Row;
      Telegram = C.Telegram;
      Room = C.Room;
      enough = C.enough;
      orderable = C.orderable;
      answerable = C.answerable;
      opens = λ t. is_opening (request_of (C.to_responder t));
      make_initiator = new_initiator;
      submit = λ i room q. if (C.enough room && C.orderable q) (put_turn C (submit_of i q)) (refusing i);
      silence = λ i room. if (C.enough room) (put_turn C (silence_of i)) (refusing i);
      initiator_hear = λ i room t. if (C.enough room) (put_turn C (hear_of i (response_of (C.to_initiator t)))) (refusing i);
      initiator_restart = λ i. put_turn C (restart_of i);
      make_responder = new_row;
      responder_hear = λ r room t. if (C.enough room) (put_turn C (row_hears r (taken_of C r (C.to_responder t)))) (refusing r);
      answer = λ r room p. if (C.enough room && C.answerable p) (put_turn C (row_answers r p)) (refusing r);
      responder_restart = λ r. new_row;
      StrayToInitiator = C.StrayToInitiator;
      StrayToResponder = C.StrayToResponder;
    }

-- What is asked of a codec, and nothing more: a message that is put is got back by the end that it is for and is
-- nothing to the end that wrote it, and what else the line may bring is ignored by the end in its present state.
pub record Faithful (C : Codec) : Type 0 where
  pub opening_heard : C.to_responder (C.put opening) ≡ an_opening
  pub order_heard : (b : Bit) (q : Bytes) → C.orderable q ≡ true → C.to_responder (C.put (order b q)) ≡ an_order b q
  pub ok_heard : C.to_initiator (C.put ok) ≡ an_ok
  pub reply_heard : (p : Bytes) → C.answerable p ≡ true → C.to_initiator (C.put (reply p)) ≡ a_reply p
  pub opening_echoed : C.to_initiator (C.put opening) ≡ no_response
  pub order_echoed : (b : Bit) (q : Bytes) → C.orderable q ≡ true → C.to_initiator (C.put (order b q)) ≡ no_response
  pub ok_echoed : C.to_responder (C.put ok) ≡ no_request
  pub reply_echoed : (p : Bytes) → C.answerable p ≡ true → C.to_responder (C.put (reply p)) ≡ no_request
  pub stray_to_initiator :
      (i : Initiator) (t : C.Telegram) → C.StrayToInitiator i t → hear_of i (response_of (C.to_initiator t)) ≡ ignoring i
  pub stray_to_responder :
      (r : Row) (t : C.Telegram) → C.StrayToResponder r t → row_hears r (request_of (C.to_responder t)) ≡ ignoring r
