-- Wrong boundaries for which demand 3 is refuted: each makes every call as the right one does, and then gives the driver something else back.
-- The records behind and the telegrams are ours, so that nothing but the boundary is at fault.
use Prim.Native.Nat.{ℕ, suc}
use mathlib.Core.List.{List, [], ◌∷◌}
use mathlib.Core.Path.{refl}
use lib.Dec.{eqb, lit≤}
use lib.ListN.{replicate}
use Rattle.codes.specs.Checksums.{sum_of, checksum_of}
use Rattle.codes.specs.FunctionCodes.{code_byte, function_code_of}
use Rattle.codes.specs.RequestTypes.{request_type_of}
use Rattle.codes.specs.Responses as responses
use Rattle.demand_3.specs.Demand.{Demand}
use Rattle.demand_3.specs.Line.{Pair, State, Call, submits, silent, initiator_hears, responder_hears, answers, step, start, in_flight}
use Rattle.demand_3.specs.Live.{Wide, Prompt, passes, passed, opens_first, order_at_once, says_nothing}
use Rattle.exports_link.specs.Bytes as bytes
use Rattle.exports_link.specs.Calls as exported
use Rattle.exports_link.specs.Calls.{is_refusal, crossed, new_call}
use Rattle.exports_link.specs.InitiatorCalls.{koy_initiator_submit, koy_initiator_hear}
use Rattle.link_numbers.specs.Numbers.{phase_of, state_of}
use Rattle.exports_link.specs.ResponderCalls.{koy_responder_hear}
use Rattle.exports_link_theorem.proofs.Runs.{link, lent, reply}
use Rattle.exports_link_theorem.specs.ExportedLink.{Lent, number, outcome_of, order_of, turn_of}
use Rattle.ground.specs.Front.{copied_to}
use Rattle.ground.specs.Pick.{if}
use Rattle.initiator.specs.Calls.{submit_of, silence_of, hear_of}
use Rattle.initiator.specs.Records.{made_of}
use Rattle.link_model.proofs.Wrong.Tools.{two_tries, done_twice, other_reply, second_outcome, not_confirmed}
use Rattle.link_rules.specs.Rules.{wrong_addresses, wrong_tries, wrong_length}
use Rattle.link_telegrams.specs.Headers.{opening_header, order_header, ok_header, reply_header}
use Rattle.link_telegrams.specs.Heard.{data_to_of, request_to_of, request_heard_of, reply_heard_of}
use Rattle.link_theorem.proofs.Runs.{opening, ok, order}
use Rattle.responder.specs.Calls as responder
use Rattle.responder.specs.Records as responderRecords
use Rattle.responder_row.specs.Rows.{row_hears, row_answers}
use Rattle.telegram.specs.Picture.{head_bytes, covered_bytes, length_byte, start_bytes, telegram_bytes}
use Rattle.telegram.specs.Reading.{header_at, saps_at, read_of}
use Rattle.telegram_tx.specs.Writing.{send_of, write_of}

-- what a boundary makes of a call that was lent these bytes of a record
abbrev Boundary : Type 0
Boundary = List ℕ → exported.Call → exported.Call

abbrev right : Boundary
right state c = c

-- the exported calls, but for what submitting and hearing give back
abbrev changed : Boundary → Boundary → Boundary → Pair
changed submitsSo initiatorSo responderSo =
    record {
      Initiator = List ℕ;
      Responder = List ℕ;
      Telegram = List ℕ;
      Room = Lent;
      make_initiator = link.make_initiator;
      submit = λ state lent q. turn_of (outcome_of []) (submitsSo state (koy_initiator_submit state q lent.buffer lent.told));
      silence = link.silence;
      initiator_hear = λ state lent s. turn_of (outcome_of s) (initiatorSo state (koy_initiator_hear state s lent.buffer lent.told));
      initiator_restart = link.initiator_restart;
      make_responder = link.make_responder;
      responder_hear = λ state lent s. turn_of (order_of s) (responderSo state (koy_responder_hear state s lent.buffer lent.told));
      answer = link.answer;
      responder_restart = link.responder_restart;
      enough = link.enough;
      orderable = link.orderable;
      answerable = link.answerable;
      opens = link.opens;
      StrayToInitiator = link.StrayToInitiator;
      StrayToResponder = link.StrayToResponder;
    }

-- the record's bytes stay as they came
abbrev unstored : Boundary
unstored state c = record { code = c.code; told = c.told; state = state; buffer = c.buffer }

-- so only with this code
abbrev unstored_with : ℕ → Boundary
unstored_with code state c = if (eqb c.code code) (unstored state c) c

-- with this code the first number is one more than it is
abbrev one_more_with : ℕ → Boundary
one_more_with code state c =
    if (eqb c.code code)
    (record { code = c.code; told = suc (number c.told 0) ∷ number c.told 1 ∷ number c.told 2 ∷ []; state = c.state; buffer = c.buffer })
    c

-- a refusal is told as 0
abbrev unrefused : Boundary
unrefused state c = record { code = if (is_refusal c.code) 0 c.code; told = c.told; state = c.state; buffer = c.buffer }

-- a responder that stores nothing of what it heard; one that does not store that it handed an order up; an initiator that does not store
-- that its order is confirmed
abbrev nothing_stored : Pair
nothing_stored = changed right right unstored

abbrev hand_up_unstored : Pair
hand_up_unstored = changed right right (unstored_with 106)

abbrev confirmation_unstored : Pair
confirmation_unstored = changed right (unstored_with 103) right

-- the place of the reply is told off by one; so is the length of the opening's and of the order's telegram
abbrev place_off_by_one : Pair
place_off_by_one = changed right (one_more_with 103) right

abbrev length_off_by_one : Pair
length_off_by_one = changed (one_more_with 102) (one_more_with 102) right

-- a submission that is refused is told as done
abbrev refusal_untold : Pair
refusal_untold = changed unrefused right right

-- the order 01 03 is carried out and answered; its reply is then in flight
abbrev answered : (initiatorSo : Boundary) → List (Call (changed right initiatorSo right)) → List (Call (changed right initiatorSo right))
answered initiatorSo cs =
    submits lent (0x01 ∷ 0x03 ∷ [])
    ∷ responder_hears lent opening
    ∷ initiator_hears lent ok
    ∷ responder_hears lent order
    ∷ answers lent (0x07 ∷ [])
    ∷ cs

-- a buffer of 254 bytes
abbrev short : Lent
short = record { buffer = replicate 254 0xFF; told = lent.told }

-- the order is submitted, and then the first try of each phase passes both ways, as far as they are written
abbrev submitted_to : (P : Pair) → P.Room → State P
submitted_to P r = step P (start P 2) (submits r (0x01 ∷ 0x03 ∷ []))

abbrev first_try : (P : Pair) → Wide P → Prompt P → State P → State P
first_try P w p s = passes P w p w s

pub record Refuted : Type 0 where
  -- with nothing lost and the application ready to answer, the order stays pending
  pub stores_nothing_heard : Demand nothing_stored → ⊥
  pub tells_another_length : Demand length_off_by_one → ⊥
  -- the order's second try is handed up again
  pub stores_no_handing_up : Demand hand_up_unstored → ⊥
  -- the confirmed order is tried again, and confirmed a second time
  pub stores_no_confirmation : Demand confirmation_unstored → ⊥
  -- the telegram's checksum is shown for the reply
  pub tells_the_reply_off_by_one : Demand place_off_by_one → ⊥
  -- an order that was never taken counts as submitted
  pub tells_no_refusal : Demand refusal_untold → ⊥

pub refuted : Refuted
unfolding crossed new_call phase_of state_of bytes.length_byte wrong_addresses wrong_tries wrong_length sum_of checksum_of code_byte function_code_of request_type_of responses.state_of responses.status_of header_at saps_at read_of head_bytes covered_bytes length_byte start_bytes telegram_bytes send_of write_of copied_to submit_of silence_of hear_of made_of opening_header order_header ok_header reply_header data_to_of request_to_of request_heard_of reply_heard_of responder.hear_of responder.answer_of responderRecords.made_of row_hears row_answers
refuted =
    record {
      stores_nothing_heard =
          λ d. not_confirmed 0 (first_try nothing_stored stored_room stored_answer (first_try nothing_stored stored_room stored_answer (submitted_to nothing_stored lent))).past (λ x. x)
          (d.live 2 two_tries [] tt lent (0x01 ∷ 0x03 ∷ []) (first_try nothing_stored stored_room stored_answer (first_try nothing_stored stored_room stored_answer (submitted_to nothing_stored lent))) tt refl
          (opens_first (record { k = 1; from_one = lit≤ tt; to_tries = lit≤ tt; tried = passed stored_room stored_answer stored_room })
          (record { k = 1; from_one = lit≤ tt; to_tries = lit≤ tt; tried = passed stored_room stored_answer stored_room })));
      tells_another_length =
          λ d. not_confirmed 0 (first_try length_off_by_one length_room length_answer (submitted_to length_off_by_one lent)).past (λ x. x)
          (d.live 2 two_tries [] tt lent (0x01 ∷ 0x03 ∷ []) (first_try length_off_by_one length_room length_answer (submitted_to length_off_by_one lent)) tt refl
          (order_at_once (record { k = 1; from_one = lit≤ tt; to_tries = lit≤ tt; tried = passed length_room length_answer length_room })));
      stores_no_handing_up =
          λ d. done_twice
          (d.safe 2 two_tries
          (submits lent (0x01 ∷ 0x03 ∷ [])
          ∷ responder_hears lent opening
          ∷ initiator_hears lent ok
          ∷ responder_hears lent order
          ∷ silent lent
          ∷ responder_hears lent order
          ∷ [])
          (tt, (in_flight, (in_flight, (in_flight, (tt, (in_flight, tt)))))));
      stores_no_confirmation =
          λ d. second_outcome
          (d.safe 2 two_tries
          (answered (unstored_with 103)
          (initiator_hears lent reply ∷ silent lent ∷ responder_hears lent order ∷ initiator_hears lent reply ∷ []))
          (tt, (in_flight, (in_flight, (in_flight, (tt, (in_flight, (tt, (in_flight, (in_flight, tt))))))))));
      tells_the_reply_off_by_one =
          λ d. other_reply tt
          (d.safe 2 two_tries (answered (one_more_with 103) (initiator_hears lent reply ∷ []))
          (tt, (in_flight, (in_flight, (in_flight, (tt, (in_flight, tt)))))));
      tells_no_refusal =
          λ d. not_confirmed 0 (first_try refusal_untold untold_room untold_answer (submitted_to refusal_untold short)).past (λ x. x)
          (d.live 2 two_tries [] tt short (0x01 ∷ 0x03 ∷ []) (first_try refusal_untold untold_room untold_answer (submitted_to refusal_untold short)) tt refl
          (says_nothing (record { k = 1; from_one = lit≤ tt; to_tries = lit≤ tt; tried = passed untold_room untold_answer untold_room })));
    }
  where
    stored_room : Wide nothing_stored
    stored_room = record { room = lent; is_enough = refl }

    stored_answer : Prompt nothing_stored
    stored_answer = record { bytes = 0x07 ∷ []; is_answerable = refl; into = stored_room }

    length_room : Wide length_off_by_one
    length_room = record { room = lent; is_enough = refl }

    length_answer : Prompt length_off_by_one
    length_answer = record { bytes = 0x07 ∷ []; is_answerable = refl; into = length_room }

    untold_room : Wide refusal_untold
    untold_room = record { room = lent; is_enough = refl }

    untold_answer : Prompt refusal_untold
    untold_answer = record { bytes = 0x07 ∷ []; is_answerable = refl; into = untold_room }
