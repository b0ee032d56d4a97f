-- Wrong ends on bytes for which demand 3 is refuted: ends that hear telegrams that are not for this link, that hear none, that
-- write another, or that take no order. On messages they cannot be told from ours; here what else the line may bring is fixed by the addresses.
use Prim.Native.Nat.{ℕ, ◌+◌}
use mathlib.Core.List.{List, [], ◌∷◌}
use mathlib.Core.Path.{refl}
use lib.Dec.{ltb, lit≤}
use lib.ListN.{length, replicate}
use Rattle.ground.specs.Front.{copied_to}
use Rattle.codes.specs.Checksums.{sum_of, checksum_of}
use Rattle.codes.specs.FunctionCodes.{code_byte, function_code_of}
use Rattle.ground.specs.Part.{shown_part}
use Rattle.ground.specs.Pick.{if}
use Rattle.codes.specs.RequestTypes.{request_type_of}
use Rattle.codes.specs.Responses.{state_of, status_of}
use Rattle.ground.specs.declared.address.Address.{Address}
use Rattle.ground.specs.declared.part.Part.{Part}
use Rattle.initiator.specs.Calls as initiator
use Rattle.initiator.specs.Calls.{submit_of, silence_of, hear_of}
use Rattle.initiator.specs.Records.{made_of}
use Rattle.initiator.specs.declared.state.Initiator.{Initiator}
use Rattle.initiator.specs.declared.state.Phase.{Phase}
use Rattle.initiator.specs.declared.state.Phase.TheVariants.{Closed, Ready, Opening, Order}
use Rattle.link_model.proofs.Wrong.Tools.{two_tries, never_done, done_twice, not_confirmed}
use Rattle.demand_3.specs.Demand.{Demand}
use Rattle.demand_3.specs.Line.{Pair, State, Call, step, start, submits, silent, initiator_hears, responder_hears, in_flight, stray}
use Rattle.demand_3.specs.Live.{Wide, Prompt, passes, passed, opens_first, order_at_once}
use Rattle.link_rules.specs.Rules.{wrong_addresses, wrong_tries, wrong_length, no_station}
use Rattle.link_telegrams.specs.Headers.{opening_header, order_header, ok_header, reply_header}
use Rattle.link_telegrams.specs.Heard.{data_to_of, request_to_of, request_heard_of, reply_heard_of}
use Rattle.link_telegrams.specs.Turns as turns
use Rattle.link_telegrams.specs.declared.headers.Bit.TheVariants.{High}
use Rattle.link_theorem.proofs.Runs.{link, room, opening, ok, order}
use Rattle.link_theorem.specs.OrderLink.{turn_of, outcome_shown, order_shown, bears_both}
use Rattle.responder.specs.Calls as responder
use Rattle.responder.specs.Records as responderRecords
use Rattle.responder_row.specs.Rows.{row_hears}
use Rattle.responder.specs.declared.state.Responder.{Responder}
use Rattle.telegram.specs.Picture.{head_bytes, covered_bytes, length_byte, start_bytes, telegram_bytes}
use Rattle.telegram.specs.Reading.{Reading, whole, incomplete, refused, header_at, saps_at, read_of}
use Rattle.telegram.specs.declared.kinds.Telegram.TheVariants.{Data, Token, ShortConfirmation}
use Rattle.telegram_tx.specs.Writing.{send_of, write_of}

-- our link, but for how the initiator submits and repeats, and how the ends hear
module _ (submitsSo : Initiator → List ℕ → List ℕ → turns.Turn Initiator initiator.Outcome) (repeatsSo : Initiator → List ℕ → turns.Turn Initiator initiator.Outcome) (initiatorSo : Initiator → List ℕ → List ℕ → turns.Turn Initiator initiator.Outcome) (responderSo : Responder → List ℕ → List ℕ → turns.Turn Responder Part) where
  abbrev changed : Pair
  changed =
      record {
        Initiator = Initiator;
        Responder = Responder;
        Telegram = List ℕ;
        Room = List ℕ;
        make_initiator = link.make_initiator;
        submit = λ i buf q. turn_of (outcome_shown []) (submitsSo i q buf);
        silence = λ i buf. turn_of (outcome_shown []) (repeatsSo i buf);
        initiator_hear = λ i buf s. turn_of (outcome_shown s) (initiatorSo i s buf);
        initiator_restart = link.initiator_restart;
        make_responder = link.make_responder;
        responder_hear = λ r buf s. turn_of (order_shown s) (responderSo r s buf);
        answer = link.answer;
        responder_restart = link.responder_restart;
        enough = link.enough;
        orderable = link.orderable;
        answerable = link.answerable;
        opens = link.opens;
        StrayToInitiator = link.StrayToInitiator;
        StrayToResponder = link.StrayToResponder;
      }

abbrev hearing : (Initiator → List ℕ → List ℕ → turns.Turn Initiator initiator.Outcome) → (Responder → List ℕ → List ℕ → turns.Turn Responder Part) → Pair
hearing initiatorSo responderSo = changed submit_of silence_of initiatorSo responderSo

-- the addresses that a data telegram bears; no station's where there is none
abbrev source_in : Reading → Address
source_in (whole (Data d) n) = d.h.sa
source_in (whole (Token t) n) = no_station
source_in (whole ShortConfirmation n) = no_station
source_in incomplete = no_station
source_in (refused k) = no_station

abbrev destination_in : Reading → Address
destination_in (whole (Data d) n) = d.h.da
destination_in (whole (Token t) n) = no_station
destination_in (whole ShortConfirmation n) = no_station
destination_in incomplete = no_station
destination_in (refused k) = no_station

-- an initiator that takes replies from any station
abbrev from_any : Pair
from_any =
    hearing
    (λ i s buf. turns.with_room i buf (initiator.hear_in i.phase (reply_heard_of (record { own = i.link.own; peer = source_in (read_of s) }) s) i buf))
    responder.hear_of

-- an initiator that takes the responder's replies to other stations
abbrev to_any : Pair
to_any =
    hearing
    (λ i s buf. turns.with_room i buf (initiator.hear_in i.phase (reply_heard_of (record { own = destination_in (read_of s); peer = i.link.peer }) s) i buf))
    responder.hear_of

-- a responder that hears requests of any station
abbrev of_any : Pair
of_any =
    hearing hear_of
    (λ r s buf. turns.with_room r buf (responder.hear_in (row_hears (request_heard_of (record { own = r.link.own; peer = source_in (read_of s) }) s) r.row) r buf))

-- ends whose reader refuses all bytes
abbrev deaf : Pair
deaf =
    hearing (λ i s buf. turns.with_room i buf (turns.saying turns.nothing i buf))
    (λ r s buf. turns.with_room r buf (turns.saying turns.nothing r buf))

-- an initiator that writes its opening as High, FCV set, in place of First
abbrev opens_high_of : Initiator → Initiator → ℕ → List ℕ → turns.Turn Initiator initiator.Outcome
opens_high_of i j k buf = turns.writes_of i (initiator.in_phase j (Opening k)) (order_header j.link High) [] buf

abbrev submits_high : Phase → Initiator → List ℕ → List ℕ → turns.Turn Initiator initiator.Outcome
submits_high Closed i q buf = if (initiator.wrong_order q) (turns.refusing 16 i buf) (opens_high_of i (initiator.keeping i q) 1 buf)
submits_high (Ready b) i q buf = initiator.submit_in (Ready b) i q buf
submits_high (Opening k) i q buf = initiator.submit_in (Opening k) i q buf
submits_high (Order b k) i q buf = initiator.submit_in (Order b k) i q buf

abbrev repeats_high : Phase → Initiator → List ℕ → turns.Turn Initiator initiator.Outcome
repeats_high Closed i buf = initiator.silence_in Closed i buf
repeats_high (Ready b) i buf = initiator.silence_in (Ready b) i buf
repeats_high (Opening k) i buf =
    if (ltb k i.tries) (opens_high_of i i (k + 1) buf) (initiator.ends_of (turns.tells (initiator.not_sent k)) i Closed buf)
repeats_high (Order b k) i buf = initiator.silence_in (Order b k) i buf

abbrev opens_high : Pair
opens_high =
    changed (λ i q buf. turns.with_room i buf (submits_high i.phase i q buf))
    (λ i buf. turns.with_room i buf (repeats_high i.phase i buf)) hear_of responder.hear_of

-- an initiator that refuses every order, and one that refuses those of 246 bytes
abbrev refuses_orders : Pair
refuses_orders = changed (λ i q buf. turns.refusing 16 i buf) silence_of hear_of responder.hear_of

abbrev refuses_longest : Pair
refuses_longest =
    changed (λ i q buf. if (ltb 245 (length q)) (turns.refusing 16 i buf) (submit_of i q buf)) silence_of hear_of responder.hear_of

-- the order 01 03 is submitted, and then a first try of the opening and one of the order pass both ways, as far as they are written
abbrev submitted_to : (P : Pair) → P.Room → State P
submitted_to P r = step P (start P 2) (submits r (0x01 ∷ 0x03 ∷ []))

abbrev first_try : (P : Pair) → Wide P → Prompt P → State P → State P
first_try P w p s = passes P w p w s

-- station 9's reply 07 to the initiator, the responder's reply 07 to station 9, station 9's opening to the responder
abbrev reply_from9 : List ℕ
reply_from9 = 0x68 ∷ 0x04 ∷ 0x04 ∷ 0x68 ∷ 0x02 ∷ 0x09 ∷ 0x08 ∷ 0x07 ∷ 0x1A ∷ 0x16 ∷ []

abbrev reply_to9 : List ℕ
reply_to9 = 0x68 ∷ 0x04 ∷ 0x04 ∷ 0x68 ∷ 0x09 ∷ 0x05 ∷ 0x08 ∷ 0x07 ∷ 0x1D ∷ 0x16 ∷ []

abbrev opening_from9 : List ℕ
opening_from9 = 0x10 ∷ 0x05 ∷ 0x09 ∷ 0x6C ∷ 0x7A ∷ 0x16 ∷ []

-- the order 01 03 is submitted, the link opened, and the initiator then hears this
abbrev confirmed_by : (P : Pair) → P.Room → P.Telegram → P.Telegram → P.Telegram → List (Call P)
confirmed_by P r s t u = submits r (0x01 ∷ 0x03 ∷ []) ∷ responder_hears r s ∷ initiator_hears r t ∷ initiator_hears r u ∷ []

pub record Refuted : Type 0 where
  -- the order is confirmed, and was never carried out
  pub takes_replies_from_any_station : Demand from_any → ⊥
  pub takes_replies_to_any_station : Demand to_any → ⊥
  -- station 9 opens the link between the order's two tries, and the order is carried out twice
  pub hears_requests_of_any_station : Demand of_any → ⊥
  -- with nothing lost and the application ready to answer, the order stays pending
  pub refuses_all_bytes : Demand deaf → ⊥
  pub opening_written_as_high : Demand opens_high → ⊥
  -- the very first order is not taken
  pub refuses_every_order : Demand refuses_orders → ⊥
  pub refuses_the_longest_order : Demand refuses_longest → ⊥

pub refuted : Refuted
unfolding wrong_addresses wrong_tries wrong_length sum_of checksum_of code_byte function_code_of request_type_of state_of status_of header_at saps_at read_of head_bytes covered_bytes length_byte start_bytes telegram_bytes send_of write_of shown_part copied_to submit_of silence_of hear_of made_of opening_header order_header ok_header reply_header data_to_of request_to_of request_heard_of reply_heard_of responder.hear_of responderRecords.made_of row_hears bears_both
refuted =
    record {
      takes_replies_from_any_station =
          λ d. never_done
          (d.safe 2 two_tries (confirmed_by from_any room opening ok reply_from9) (tt, (in_flight, (in_flight, (stray refl, tt)))));
      takes_replies_to_any_station =
          λ d. never_done
          (d.safe 2 two_tries (confirmed_by to_any room opening ok reply_to9) (tt, (in_flight, (in_flight, (stray refl, tt)))));
      hears_requests_of_any_station =
          λ d. done_twice
          (d.safe 2 two_tries
          (submits room (0x01 ∷ 0x03 ∷ [])
          ∷ responder_hears room opening
          ∷ initiator_hears room ok
          ∷ responder_hears room order
          ∷ responder_hears room opening_from9
          ∷ silent room
          ∷ responder_hears room order
          ∷ [])
          (tt, (in_flight, (in_flight, (in_flight, (stray refl, (tt, (in_flight, tt))))))));
      refuses_all_bytes =
          λ d. not_confirmed 0 (first_try deaf deaf_room deaf_answer (first_try deaf deaf_room deaf_answer (submitted_to deaf room))).past (λ x. x)
          (d.live 2 two_tries [] tt room (0x01 ∷ 0x03 ∷ []) (first_try deaf deaf_room deaf_answer (first_try deaf deaf_room deaf_answer (submitted_to deaf room))) tt refl
          (opens_first (record { k = 1; from_one = lit≤ tt; to_tries = lit≤ tt; tried = passed deaf_room deaf_answer deaf_room })
          (record { k = 1; from_one = lit≤ tt; to_tries = lit≤ tt; tried = passed deaf_room deaf_answer deaf_room })));
      opening_written_as_high =
          λ d. not_confirmed 0 (first_try opens_high high_room high_answer (submitted_to opens_high room)).past (λ x. x)
          (d.live 2 two_tries [] tt room (0x01 ∷ 0x03 ∷ []) (first_try opens_high high_room high_answer (submitted_to opens_high room)) tt refl
          (order_at_once (record { k = 1; from_one = lit≤ tt; to_tries = lit≤ tt; tried = passed high_room high_answer high_room })));
      refuses_every_order = λ d. d.takes 2 two_tries [] tt room (0x01 ∷ 0x03 ∷ []) refl refl refl;
      refuses_the_longest_order = λ d. d.takes 2 two_tries [] tt room (replicate 246 0x01) refl refl refl;
    }
  where
    deaf_room : Wide deaf
    deaf_room = record { room = room; is_enough = refl }

    deaf_answer : Prompt deaf
    deaf_answer = record { bytes = 0x07 ∷ []; is_answerable = refl; into = deaf_room }

    high_room : Wide opens_high
    high_room = record { room = room; is_enough = refl }

    high_answer : Prompt opens_high
    high_answer = record { bytes = 0x07 ∷ []; is_answerable = refl; into = high_room }
