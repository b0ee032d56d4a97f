-- Runs of the calls on the bytes of the line, computed: so that demand 3 does not hold for want of cases. The initiator is station 2,
-- the responder station 5, and each run is shown to be one that the line's law allows. Read `Runs`, then `LastSentence`.
use Prim.Native.Nat.{ℕ}
use mathlib.Core.Bool.{false}
use mathlib.Core.List.{List, [], ◌∷◌, ◌++◌}
use mathlib.Core.Path.{◌≡◌, refl, subst}
use lib.Dec.{lit≤, T, eqb}
use lib.ListN.{replicate}
use Rattle.ground.specs.Front.{copied_to}
use Rattle.codes.specs.Checksums.{sum_of, checksum_of}
use Rattle.codes.specs.FunctionCodes.{code_byte, function_code_of}
use Rattle.ground.specs.Part.{shown_part}
use Rattle.codes.specs.RequestTypes.{request_type_of}
use Rattle.codes.specs.Responses.{state_of, status_of}
use Rattle.initiator.specs.Calls.{submit_of, silence_of, hear_of, restart_of}
use Rattle.initiator.specs.Records.{made_of}
use Rattle.demand_3.specs.History.{made, hand_up, abandoned, ended, Entry, entry, History, history, openingSent}
use Rattle.demand_3.specs.Line.{Pair, State, Call, initiator_made, submits, silent, initiator_hears, initiator_restarts, responder_hears, answers, step, start, run, Obeys, in_flight, stray}
use Rattle.demand_3.specs.Live.{report_at, Confirmed, Wide, Prompt, passes, over, responder_serves, passed, again, Phases, opens_first}
use Rattle.demand_3.specs.Safe.{entries_of}
use Rattle.demand_3.specs.Turns.{confirmed, not_sent, unknown}
use Rattle.link_model.proofs.Wrong.Tools.{two_tries}
use Rattle.link_rules.specs.Rules.{Linked, link_of, wrong_addresses, wrong_tries, wrong_length}
use Rattle.link_telegrams.specs.Headers.{opening_header, order_header, ok_header, reply_header}
use Rattle.link_telegrams.specs.Heard.{data_to_of, request_to_of, request_heard_of, reply_heard_of}
use Rattle.link_theorem.proofs.Theorem.{demand_3}
use Rattle.link_theorem.specs.OrderLink.{bears_both, order_link}
use Rattle.responder.specs.Calls as responder
use Rattle.responder.specs.Records as responderRecords
use Rattle.responder_row.specs.Rows.{row_hears, row_answers}
use Rattle.telegram.specs.Picture.{head_bytes, covered_bytes, length_byte, start_bytes, telegram_bytes}
use Rattle.telegram.specs.Reading.{header_at, saps_at, read_of}
use Rattle.telegram_tx.specs.Writing.{send_of, write_of}

-- stations 2 and 5
abbrev pub link : Pair
link = order_link (link_of 2 5)

-- a buffer of 255 bytes
abbrev pub room : List ℕ
room = replicate 255 0

-- 10 05 02 6C 73 16: the opening; 10 02 05 00 07 16: its reply
abbrev pub opening : List ℕ
opening = 0x10 ∷ 0x05 ∷ 0x02 ∷ 0x6C ∷ 0x73 ∷ 0x16 ∷ []

abbrev pub ok : List ℕ
ok = 0x10 ∷ 0x02 ∷ 0x05 ∷ 0x00 ∷ 0x07 ∷ 0x16 ∷ []

-- 68 05 05 68 05 02 5C 01 03 67 16: the order 01 03 at Low, and the reply 07 to it
abbrev pub order : List ℕ
order = 0x68 ∷ 0x05 ∷ 0x05 ∷ 0x68 ∷ 0x05 ∷ 0x02 ∷ 0x5C ∷ 0x01 ∷ 0x03 ∷ 0x67 ∷ 0x16 ∷ []

abbrev reply : List ℕ
reply = 0x68 ∷ 0x04 ∷ 0x04 ∷ 0x68 ∷ 0x02 ∷ 0x05 ∷ 0x08 ∷ 0x07 ∷ 0x16 ∷ 0x16 ∷ []

-- the order 02 at Low and at High, and the reply 08 to it
abbrev order_low : List ℕ
order_low = 0x68 ∷ 0x04 ∷ 0x04 ∷ 0x68 ∷ 0x05 ∷ 0x02 ∷ 0x5C ∷ 0x02 ∷ 0x65 ∷ 0x16 ∷ []

abbrev order_high : List ℕ
order_high = 0x68 ∷ 0x04 ∷ 0x04 ∷ 0x68 ∷ 0x05 ∷ 0x02 ∷ 0x7C ∷ 0x02 ∷ 0x85 ∷ 0x16 ∷ []

abbrev second_reply : List ℕ
second_reply = 0x68 ∷ 0x04 ∷ 0x04 ∷ 0x68 ∷ 0x02 ∷ 0x05 ∷ 0x08 ∷ 0x08 ∷ 0x17 ∷ 0x16 ∷ []

-- DC 05 02: a token, which does not count as bearing both addresses
abbrev token : List ℕ
token = 0xDC ∷ 0x05 ∷ 0x02 ∷ []

-- an order on a closed link, with nothing lost
abbrev ordinary : List (Call link)
ordinary =
    submits room (0x01 ∷ 0x03 ∷ [])
    ∷ responder_hears room opening
    ∷ initiator_hears room ok
    ∷ responder_hears room order
    ∷ answers room (0x07 ∷ [])
    ∷ initiator_hears room reply
    ∷ []

-- what is then known of it: carried out once, its reply shown, one telegram written in each phase
abbrev first : Entry
first = entry (0x01 ∷ 0x03 ∷ []) (hand_up (0x01 ∷ 0x03 ∷ []) (made (0x07 ∷ [])) ∷ []) (ended (confirmed (0x07 ∷ []) 1)) 1 1

-- a second order on the open link; its first reply is lost, and the second try brings the held one
abbrev repeated : List (Call link)
repeated =
    submits room (0x02 ∷ [])
    ∷ responder_hears room order_high
    ∷ answers room (0x08 ∷ [])
    ∷ silent room
    ∷ responder_hears room order_high
    ∷ initiator_hears room second_reply
    ∷ []

-- the order 02 on a closed link, with nothing lost, and what is then known of it
abbrev opened_anew : List (Call link)
opened_anew =
    submits room (0x02 ∷ [])
    ∷ responder_hears room opening
    ∷ initiator_hears room ok
    ∷ responder_hears room order_low
    ∷ answers room (0x08 ∷ [])
    ∷ initiator_hears room second_reply
    ∷ []

abbrev second : Entry
second = entry (0x02 ∷ []) (hand_up (0x02 ∷ []) (made (0x08 ∷ [])) ∷ []) (ended (confirmed (0x08 ∷ []) 1)) 1 1

-- The accident: the initiator restarts between two orders.
abbrev accident : List (Call link)
accident = initiator_restarts ∷ opened_anew

-- The telegram heard after a restart: the order is in flight when the initiator restarts, and is heard and answered then.
abbrev heard_late : List (Call link)
heard_late =
    submits room (0x01 ∷ 0x03 ∷ [])
    ∷ responder_hears room opening
    ∷ initiator_hears room ok
    ∷ initiator_restarts
    ∷ responder_hears room order
    ∷ answers room (0x07 ∷ [])
    ∷ initiator_hears room reply
    ∷ []

-- The same with the initiator's record made anew: no one is left to report the order that is in flight.
abbrev heard_abandoned : List (Call link)
heard_abandoned =
    submits room (0x01 ∷ 0x03 ∷ [])
    ∷ responder_hears room opening
    ∷ initiator_hears room ok
    ∷ initiator_made 2
    ∷ responder_hears room order
    ∷ answers room (0x07 ∷ [])
    ∷ initiator_hears room reply
    ∷ []

-- the first opening is lost, and the second passes
abbrev opened_at_second : List (Call link)
opened_at_second =
    submits room (0x01 ∷ 0x03 ∷ [])
    ∷ silent room
    ∷ responder_hears room opening
    ∷ initiator_hears room ok
    ∷ responder_hears room order
    ∷ answers room (0x07 ∷ [])
    ∷ initiator_hears room reply
    ∷ []

-- the order is carried out; its reply is lost, and so is the order's second try
abbrev cut_off : List (Call link)
cut_off =
    submits room (0x01 ∷ 0x03 ∷ [])
    ∷ responder_hears room opening
    ∷ initiator_hears room ok
    ∷ responder_hears room order
    ∷ answers room (0x07 ∷ [])
    ∷ silent room
    ∷ silent room
    ∷ []

-- all tries of an opening are lost: the first to an echo, the second to noise, with a silence refused for want of room between
abbrev dead_line : List (Call link)
dead_line =
    submits room (0x02 ∷ [])
    ∷ initiator_hears room opening
    ∷ silent (replicate 254 0)
    ∷ silent room
    ∷ responder_hears room token
    ∷ silent room
    ∷ []

-- a list of calls that the line's law allows, and what has happened after it
pub record Ends (cs : List (Call link)) (h : History) : Type 0 where
  pub lawful : Obeys link (start link 2) cs
  pub past : (run link (start link 2) cs).past ≡ h

-- a buffer with room, and an answer at once
abbrev wide : Wide link
wide = record { room = room; is_enough = refl }

abbrev prompt : Prompt link
prompt = record { bytes = 0x07 ∷ []; is_answerable = refl; into = wide }

-- The last sentence in its own terms: the order is submitted, and the first try of each phase passes both ways.
abbrev submitted_first : State link
submitted_first = step link (start link 2) (submits room (0x01 ∷ 0x03 ∷ []))

abbrev passed_at_first : State link
passed_at_first = passes link wide prompt wide (passes link wide prompt wide submitted_first)

-- It is submitted, and the second try of each phase passes: the first opening is lost; the first order is handed up and answered at
-- once, and the reply is lost.
abbrev opened : State link
opened = passes link wide prompt wide (step link submitted_first (silent room))

abbrev passed_at_second : State link
passed_at_second =
    passes link wide prompt wide
    (step link (step link (step link opened (responder_hears room order)) (answers room (0x07 ∷ []))) (silent room))

pub record Runs : Type 0 where
  pub an_order_is_confirmed : Ends ordinary (history (first ∷ []) ((0x01 ∷ 0x03 ∷ []) ∷ []) false)
  -- the second order is carried out once, and shows its own reply
  pub a_lost_reply_is_repeated :
      Ends (ordinary ++ repeated)
      (history (entry (0x02 ∷ []) (hand_up (0x02 ∷ []) (made (0x08 ∷ [])) ∷ []) (ended (confirmed (0x08 ∷ []) 2)) 0 2 ∷ first ∷ [])
      ((0x02 ∷ []) ∷ (0x01 ∷ 0x03 ∷ []) ∷ []) false)
  pub the_accident_ends_well :
      Ends (ordinary ++ accident) (history (second ∷ first ∷ []) ((0x02 ∷ []) ∷ (0x01 ∷ 0x03 ∷ []) ∷ []) false)
  -- the order is reported unknown, and carried out afterwards; its late reply is no second outcome
  pub an_order_is_heard_after_the_restart :
      Ends heard_late
      (history (entry (0x01 ∷ 0x03 ∷ []) (hand_up (0x01 ∷ 0x03 ∷ []) (made (0x07 ∷ [])) ∷ []) (ended (unknown 1)) 1 1 ∷ [])
      ((0x01 ∷ 0x03 ∷ []) ∷ []) false)
  -- nothing is ever reported of the order, and it is carried out afterwards; the next one shows its own reply
  pub an_abandoned_order_is_heard :
      Ends (heard_abandoned ++ opened_anew)
      (history (second ∷ entry (0x01 ∷ 0x03 ∷ []) (hand_up (0x01 ∷ 0x03 ∷ []) (made (0x07 ∷ [])) ∷ []) abandoned 1 1 ∷ [])
      ((0x02 ∷ []) ∷ (0x01 ∷ 0x03 ∷ []) ∷ []) false)
  -- the tries that are reported are those of the order's phase
  pub the_second_opening_passes :
      Ends opened_at_second
      (history (entry (0x01 ∷ 0x03 ∷ []) (hand_up (0x01 ∷ 0x03 ∷ []) (made (0x07 ∷ [])) ∷ []) (ended (confirmed (0x07 ∷ []) 1)) 2 1 ∷ [])
      ((0x01 ∷ 0x03 ∷ []) ∷ []) false)
  pub an_order_ends_unknown :
      Ends cut_off
      (history (entry (0x01 ∷ 0x03 ∷ []) (hand_up (0x01 ∷ 0x03 ∷ []) (made (0x07 ∷ [])) ∷ []) (ended (unknown 2)) 1 2 ∷ [])
      ((0x01 ∷ 0x03 ∷ []) ∷ []) false)
  pub both_phases_pass : report_at 0 (entries_of passed_at_first.past) ≡ ended (confirmed (0x07 ∷ []) 1)
  pub a_dead_line_sends_nothing : Ends dead_line (history (entry (0x02 ∷ []) [] (ended (not_sent 2)) 2 0 ∷ []) [] false)

pub runs : Runs
unfolding wrong_addresses wrong_tries wrong_length sum_of checksum_of code_byte function_code_of request_type_of state_of status_of header_at saps_at read_of head_bytes covered_bytes length_byte start_bytes telegram_bytes send_of write_of shown_part copied_to submit_of silence_of hear_of restart_of made_of opening_header order_header ok_header reply_header data_to_of request_to_of request_heard_of reply_heard_of responder.hear_of responder.answer_of responderRecords.made_of row_hears row_answers bears_both
runs =
    record {
      an_order_is_confirmed =
          record { lawful = (tt, (in_flight, (in_flight, (in_flight, (tt, (in_flight, tt)))))); past = refl };
      a_lost_reply_is_repeated =
          record {
            lawful = (tt, (in_flight, (in_flight, (in_flight, (tt, (in_flight, (tt, (in_flight, (tt, (tt, (in_flight, (in_flight, tt))))))))))));
            past = refl;
          };
      the_accident_ends_well =
          record {
            lawful = (tt, (in_flight, (in_flight, (in_flight, (tt, (in_flight, (tt, (tt, (in_flight, (in_flight, (in_flight, (tt, (in_flight, tt)))))))))))));
            past = refl;
          };
      an_order_is_heard_after_the_restart =
          record { lawful = (tt, (in_flight, (in_flight, (tt, (in_flight, (tt, (in_flight, tt))))))); past = refl };
      an_abandoned_order_is_heard =
          record {
            lawful =
                (tt, (in_flight, (in_flight, (two_tries, (in_flight, (tt, (in_flight, (tt, (in_flight, (in_flight, (in_flight, (tt, (in_flight, tt)))))))))))));
            past = refl;
          };
      the_second_opening_passes =
          record { lawful = (tt, (tt, (in_flight, (in_flight, (in_flight, (tt, (in_flight, tt))))))); past = refl };
      an_order_ends_unknown =
          record { lawful = (tt, (in_flight, (in_flight, (in_flight, (tt, (tt, (tt, tt))))))); past = refl };
      both_phases_pass = refl;
      a_dead_line_sends_nothing =
          record { lawful = (tt, (in_flight, (tt, (tt, (stray refl, (tt, tt)))))); past = refl };
    }

linked : Linked (link_of 2 5)
linked = record { own_small = lit≤ tt; peer_small = lit≤ tt; differ = λ e. subst (λ n. T (eqb 2 n)) e tt }

-- The last sentence of demand 3, applied: its premise is met by a run, the theorem says that the order is confirmed, and so it is.
pub record LastSentence : Type 0 where
  -- "for some k from 1 to the tries": here 2 in each phase
  pub premise : Phases link openingSent submitted_first passed_at_second
  pub conclusion : Confirmed 0 passed_at_second.past
  pub computed : report_at 0 (entries_of passed_at_second.past) ≡ ended (confirmed (0x07 ∷ []) 2)

second_tries : Phases link openingSent submitted_first passed_at_second
unfolding wrong_addresses wrong_tries wrong_length sum_of checksum_of code_byte function_code_of request_type_of state_of status_of header_at saps_at read_of head_bytes covered_bytes length_byte start_bytes telegram_bytes send_of write_of shown_part copied_to submit_of silence_of hear_of restart_of made_of opening_header order_header ok_header reply_header data_to_of request_to_of request_heard_of reply_heard_of responder.hear_of responder.answer_of responderRecords.made_of row_hears row_answers bears_both
second_tries =
    opens_first
    (record { k = 2; from_one = lit≤ tt; to_tries = lit≤ tt; tried = again over wide (passed wide prompt wide) })
    (record {
      k = 2;
      from_one = lit≤ tt;
      to_tries = lit≤ tt;
      tried = again (responder_serves room order in_flight (0x01 ∷ 0x03 ∷ []) refl prompt over) wide (passed wide prompt wide);
    })

pub last_sentence : LastSentence
unfolding wrong_addresses wrong_tries wrong_length sum_of checksum_of code_byte function_code_of request_type_of state_of status_of header_at saps_at read_of head_bytes covered_bytes length_byte start_bytes telegram_bytes send_of write_of shown_part copied_to submit_of silence_of hear_of restart_of made_of opening_header order_header ok_header reply_header data_to_of request_to_of request_heard_of reply_heard_of responder.hear_of responder.answer_of responderRecords.made_of row_hears row_answers bears_both
last_sentence =
    record {
      premise = second_tries;
      conclusion = (demand_3 (link_of 2 5) linked).live 2 two_tries [] tt room (0x01 ∷ 0x03 ∷ []) passed_at_second tt refl second_tries;
      computed = refl;
    }
