-- The order link as it is called: the pair of ends that the promises of the calls of `Initiator` and `Responder` make, on their
-- records, the lent buffers and the bytes on the line. Demand 3 is stated of it. Read `order_link`, then what it is made of.
use Rattle.std.specs.Prelude.{ℕ, Bool, true, false, List, [], ◌≡◌, eqb, leb, length, take}
use Rattle.std.proofs.Math.Option.{Option, none, some}
use Rattle.ground.specs.Part.{shown_part}
use Rattle.ground.specs.Pick.{if}
use Rattle.ground.specs.declared.address.Address.{Address}
use Rattle.ground.specs.declared.part.Part.{Part}
use Rattle.initiator.specs.Calls as initiator
use Rattle.initiator.specs.Records as initiatorRecords
use Rattle.initiator.specs.declared.state.Initiator.{Initiator}
use Rattle.demand_3.specs.Line.{Pair}
use Rattle.demand_3.specs.Turns.{Outcome, confirmed, not_sent, unknown, Told, refused, nothing, tells, Turn}
use Rattle.link_rules.specs.Rules.{room, longest, turned}
use Rattle.link_rules.specs.declared.link.Link.{Link}
use Rattle.link_telegrams.specs.Heard.{request_heard_of}
use Rattle.link_telegrams.specs.Turns as call
use Rattle.link_telegrams.specs.declared.heard.RequestHeard.{RequestHeard}
use Rattle.link_telegrams.specs.declared.heard.RequestHeard.TheVariants as request
use Rattle.responder.specs.Calls as responder
use Rattle.responder.specs.Records as responderRecords
use Rattle.responder.specs.declared.state.Responder.{Responder}
use Rattle.telegram.specs.Reading.{Reading, whole, incomplete, refused as unread, read_of}
use Rattle.telegram.specs.declared.kinds.Telegram.TheVariants.{Data, Token, ShortConfirmation}

-- What a call of an end wrote is the front of the lent buffer, as long as the answer says.
abbrev pub wrote_of : {Tale : Type 0} → call.Said Tale → List ℕ → Option (List ℕ)
wrote_of (call.sent n) buf = some (take n buf)
wrote_of (call.tells tale) buf = none
wrote_of call.nothing buf = none
wrote_of (call.refused number) buf = none

-- what it told its application, as it is shown
abbrev pub told_of : {Tale Shown : Type 0} → (Tale → Shown) → call.Said Tale → Told Shown
told_of show (call.sent n) = nothing
told_of show (call.tells tale) = tells (show tale)
told_of show call.nothing = nothing
told_of show (call.refused number) = refused

-- a call of an end, whichever end it is
abbrev pub turn_of : {End Tale Shown : Type 0} → (Tale → Shown) → call.Turn End Tale → Turn End (List ℕ) Shown
turn_of show t = record { next = t.end; writes = wrote_of t.said t.buffer; says = told_of show t.said }

-- the initiator, having heard these bytes: "confirmed, showing the reply as part of the heard bytes"
abbrev pub outcome_shown : List ℕ → initiator.Outcome → Outcome
outcome_shown heard (initiator.confirmed reply tries) = confirmed (shown_part reply heard) tries
outcome_shown heard (initiator.not_sent tries) = not_sent tries
outcome_shown heard (initiator.unknown tries) = unknown tries

-- the responder: "hand the order up as part of the heard bytes, which is its carrying out"
abbrev pub order_shown : List ℕ → Part → List ℕ
order_shown heard order = shown_part order heard

-- from the one station to the other
abbrev pub goes : Address → Address → Address → Address → Bool
goes a b da sa = if (eqb sa.0 a.0) (eqb da.0 b.0) false

-- A telegram that "bears both addresses": it fills the n bytes and goes from the one station to the other, or back. Tokens,
-- bytes that are no telegram and bytes with more than one are not counted: these may be heard at any time.
abbrev pub bears_in : ℕ → Address → Address → Reading → Bool
bears_in n a b (whole (Data d) total) =
    if (eqb total n) (if (goes a b d.h.da d.h.sa) true (goes b a d.h.da d.h.sa)) false
bears_in n a b (whole (Token t) total) = false
bears_in n a b (whole ShortConfirmation total) = false
bears_in n a b incomplete = false
bears_in n a b (unread number) = false

unfoldable pub bears_both : Link → List ℕ → Bool
bears_both link s = bears_in (length s) link.own link.peer (read_of s)

-- an opening, as the responder hears it
abbrev pub is_opening : RequestHeard → Bool
is_opening request.Opening = true
is_opening (request.Order b q) = false
is_opening request.Nothing = false

-- The pair of ends; the link is as the initiator has it, and "the ends name each other". The promise of each call is an equation whose
-- right side stands here: on the record and the bytes that it was given, its answer, record and buffer at its end.
abbrev pub order_link : Link → Pair
order_link link =
    record {
      -- "Records come only from the calls that make and change them"
      Initiator = Initiator;
      Responder = Responder;
      -- what is written and heard is bytes; the room is the lent buffer, whatever stands in it
      Telegram = List ℕ;
      Room = List ℕ;
      -- `Initiator::new`, `submit`, `silence`, `hear` and `restart`
      make_initiator = λ tries. (initiatorRecords.made_of link tries).end;
      submit = λ i buf q. turn_of (outcome_shown []) (initiator.submit_of i q buf);
      silence = λ i buf. turn_of (outcome_shown []) (initiator.silence_of i buf);
      initiator_hear = λ i buf s. turn_of (outcome_shown s) (initiator.hear_of i s buf);
      initiator_restart = λ i. turn_of (outcome_shown []) (initiator.restart_of i);
      -- `Responder::new`, `hear`, `answer` and `restart`
      make_responder = (responderRecords.made_of (turned link)).end;
      responder_hear = λ r buf s. turn_of (order_shown s) (responder.hear_of r s buf);
      answer = λ r buf p. turn_of (order_shown []) (responder.answer_of r p buf);
      responder_restart = responder.restart_of;
      -- "link calls that may write want 255 bytes"
      enough = λ buf. leb room (length buf);
      -- an order of "1 to 246 bytes"
      orderable = λ q. if (leb 1 (length q)) (leb (length q) longest) false;
      -- "an answer of at most 246 bytes"
      answerable = λ p. leb (length p) longest;
      -- "Opening: First, empty PDU", from the initiator to the responder
      opens = λ s. is_opening (request_heard_of (turned link) s);
      -- "Nothing else on the line bears both addresses"
      StrayToInitiator = λ i s. bears_both link s ≡ false;
      StrayToResponder = λ r s. bears_both link s ≡ false;
    }
