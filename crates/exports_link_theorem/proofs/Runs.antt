-- Runs of the exported calls, computed on the bytes of their records: so that demand 3 does not hold for want of cases. The initiator is
-- station 2, the responder station 5; memory, buffers and told numbers come in with anything in them.
use Prim.Native.Nat.{ℕ}
use mathlib.Core.Bool.{false}
use mathlib.Core.List.{List, [], ◌∷◌, ◌++◌}
use mathlib.Core.Path.{◌≡◌, refl}
use lib.ListN.{replicate, take, length}
use Rattle.codes.specs.Checksums.{sum_of, checksum_of}
use Rattle.codes.specs.FunctionCodes.{code_byte, function_code_of}
use Rattle.codes.specs.RequestTypes.{request_type_of}
use Rattle.codes.specs.Responses as responses
use Rattle.demand_3.specs.History.{made, hand_up, ended, Entry, entry, History, history}
use Rattle.demand_3.specs.Line.{Pair, Call, submits, silent, initiator_hears, initiator_restarts, responder_hears, answers, start, run, Obeys, in_flight}
use Rattle.demand_3.specs.Turns.{confirmed}
use Rattle.exports_link.specs.Bytes as bytes
use Rattle.exports_link.specs.Calls as exported
use Rattle.exports_link.specs.Calls.{crossed, new_call}
use Rattle.exports_link.specs.InitiatorCalls.{koy_initiator_hear}
use Rattle.link_numbers.specs.Numbers.{phase_of, state_of}
use Rattle.exports_link_theorem.specs.ExportedLink.{Lent, Found, exported_link}
use Rattle.ground.specs.Front.{copied_to}
use Rattle.initiator.specs.Calls.{submit_of, silence_of, hear_of, restart_of}
use Rattle.initiator.specs.Records.{made_of}
use Rattle.link_rules.specs.Rules.{wrong_addresses, wrong_tries, wrong_length, link_of}
use Rattle.link_telegrams.specs.Headers.{opening_header, order_header, ok_header, reply_header}
use Rattle.link_telegrams.specs.Heard.{data_to_of, request_to_of, request_heard_of, reply_heard_of}
use Rattle.link_theorem.proofs.Runs.{opening, ok, order}
use Rattle.link_theorem.specs.OrderLink.{bears_both}
use Rattle.responder.specs.Calls as responder
use Rattle.responder.specs.Records as responderRecords
use Rattle.responder_row.specs.Rows.{row_hears, row_answers}
use Rattle.telegram.specs.Picture.{head_bytes, covered_bytes, length_byte, start_bytes, telegram_bytes}
use Rattle.telegram.specs.Reading.{header_at, saps_at, read_of}
use Rattle.telegram_tx.specs.Writing.{send_of, write_of}

-- memory as it was found, and told numbers left from another call
abbrev pub found : Found
found = record { initiator = replicate 252 0xA5; responder = replicate 250 0x5A; told = 17 ∷ 4 ∷ 9 ∷ [] }

-- stations 2 and 5
abbrev pub link : Pair
link = exported_link found (link_of 2 5)

-- a buffer of 255 bytes
abbrev pub lent : Lent
lent = record { buffer = replicate 255 0xFF; told = 17 ∷ 4 ∷ 9 ∷ [] }

-- 68 04 04 68 02 05 08 07 16 16: the reply 07 to the order 01 03
abbrev pub reply : List ℕ
reply = 0x68 ∷ 0x04 ∷ 0x04 ∷ 0x68 ∷ 0x02 ∷ 0x05 ∷ 0x08 ∷ 0x07 ∷ 0x16 ∷ 0x16 ∷ []

-- the order 02 at Low and at High, and the reply 08 to it
abbrev order_low : List ℕ
order_low = 0x68 ∷ 0x04 ∷ 0x04 ∷ 0x68 ∷ 0x05 ∷ 0x02 ∷ 0x5C ∷ 0x02 ∷ 0x65 ∷ 0x16 ∷ []

abbrev order_high : List ℕ
order_high = 0x68 ∷ 0x04 ∷ 0x04 ∷ 0x68 ∷ 0x05 ∷ 0x02 ∷ 0x7C ∷ 0x02 ∷ 0x85 ∷ 0x16 ∷ []

abbrev second_reply : List ℕ
second_reply = 0x68 ∷ 0x04 ∷ 0x04 ∷ 0x68 ∷ 0x02 ∷ 0x05 ∷ 0x08 ∷ 0x08 ∷ 0x17 ∷ 0x16 ∷ []

-- an order on a closed link up to its reply, which is in flight
abbrev answered_order : List (Call link)
answered_order =
    submits lent (0x01 ∷ 0x03 ∷ [])
    ∷ responder_hears lent opening
    ∷ initiator_hears lent ok
    ∷ responder_hears lent order
    ∷ answers lent (0x07 ∷ [])
    ∷ []

-- and with it heard: nothing is lost
abbrev ordinary : List (Call link)
ordinary = answered_order ++ (initiator_hears lent reply ∷ [])

-- what is then known of it: carried out once, its reply shown, one telegram written in each phase
abbrev first : Entry
first = entry (0x01 ∷ 0x03 ∷ []) (hand_up (0x01 ∷ 0x03 ∷ []) (made (0x07 ∷ [])) ∷ []) (ended (confirmed (0x07 ∷ []) 1)) 1 1

-- a second order on the open link; its first reply is lost, and the second try brings the held one
abbrev repeated : List (Call link)
repeated =
    submits lent (0x02 ∷ [])
    ∷ responder_hears lent order_high
    ∷ answers lent (0x08 ∷ [])
    ∷ silent lent
    ∷ responder_hears lent order_high
    ∷ initiator_hears lent second_reply
    ∷ []

-- The accident: the initiator restarts between two orders.
abbrev accident : List (Call link)
accident =
    initiator_restarts
    ∷ submits lent (0x02 ∷ [])
    ∷ responder_hears lent opening
    ∷ initiator_hears lent ok
    ∷ responder_hears lent order_low
    ∷ answers lent (0x08 ∷ [])
    ∷ initiator_hears lent second_reply
    ∷ []

-- a list of calls that the line's law allows, and what has happened after it
pub record Ends (cs : List (Call link)) (h : History) : Type 0 where
  pub lawful : Obeys link (start link 2) cs
  pub past : (run link (start link 2) cs).past ≡ h

-- what the call gives that confirms the order, on the bytes that the calls before it left
abbrev confirming : exported.Call
confirming = koy_initiator_hear (run link (start link 2) answered_order).initiator reply lent.buffer lent.told

pub record Runs : Type 0 where
  pub an_order_is_confirmed : Ends ordinary (history (first ∷ []) ((0x01 ∷ 0x03 ∷ []) ∷ []) false)
  -- KOY_CONFIRMED, the reply's byte at 7, one try; the record is then ready for High and holds no order
  pub by_code_and_numbers : (confirming.code ≡ 103) × (confirming.told ≡ 7 ∷ 1 ∷ 1 ∷ [])
  pub and_the_bytes_kept : take 6 confirming.state ≡ 2 ∷ 5 ∷ 2 ∷ 2 ∷ 0 ∷ 0 ∷ []
  pub as_many_as_came : length confirming.state ≡ 252
  -- the second order is carried out once, and shows its own reply
  pub a_lost_reply_is_repeated :
      Ends (ordinary ++ repeated)
      (history (entry (0x02 ∷ []) (hand_up (0x02 ∷ []) (made (0x08 ∷ [])) ∷ []) (ended (confirmed (0x08 ∷ []) 2)) 0 2 ∷ first ∷ [])
      ((0x02 ∷ []) ∷ (0x01 ∷ 0x03 ∷ []) ∷ []) false)
  pub the_accident_ends_well :
      Ends (ordinary ++ accident)
      (history (entry (0x02 ∷ []) (hand_up (0x02 ∷ []) (made (0x08 ∷ [])) ∷ []) (ended (confirmed (0x08 ∷ []) 1)) 1 1 ∷ first ∷ [])
      ((0x02 ∷ []) ∷ (0x01 ∷ 0x03 ∷ []) ∷ []) false)

pub runs : Runs
unfolding crossed new_call phase_of state_of bytes.length_byte wrong_addresses wrong_tries wrong_length sum_of checksum_of code_byte function_code_of request_type_of responses.state_of responses.status_of header_at saps_at read_of head_bytes covered_bytes length_byte start_bytes telegram_bytes send_of write_of copied_to submit_of silence_of hear_of restart_of made_of opening_header order_header ok_header reply_header data_to_of request_to_of request_heard_of reply_heard_of responder.hear_of responder.answer_of responderRecords.made_of row_hears row_answers bears_both
runs =
    record {
      an_order_is_confirmed =
          record { lawful = (tt, (in_flight, (in_flight, (in_flight, (tt, (in_flight, tt)))))); past = refl };
      by_code_and_numbers = (refl, refl);
      and_the_bytes_kept = refl;
      as_many_as_came = refl;
      a_lost_reply_is_repeated =
          record {
            lawful = (tt, (in_flight, (in_flight, (in_flight, (tt, (in_flight, (tt, (in_flight, (tt, (tt, (in_flight, (in_flight, tt))))))))))));
            past = refl;
          };
      the_accident_ends_well =
          record {
            lawful = (tt, (in_flight, (in_flight, (in_flight, (tt, (in_flight, (tt, (tt, (in_flight, (in_flight, (in_flight, (tt, (in_flight, tt)))))))))))));
            past = refl;
          };
    }
