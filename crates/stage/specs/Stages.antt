-- A stage after each step, by the definitions of the two ends. Read `fresh`, then `submit_step` and what follows it.
use Rattle.std.specs.Prelude.{ℕ, ◌+◌, List, ltb, replicate}
use Rattle.ground.specs.Part.{shown_part}
use Rattle.ground.specs.Pick.{if}
use Rattle.ground.specs.declared.part.Part.{Part}
use Rattle.ground.specs.declared.returned.Returned.{Returned}
use Rattle.initiator.specs.Calls as initiator
use Rattle.initiator.specs.Calls.{Outcome, confirmed, not_sent, unknown}
use Rattle.initiator.specs.Records as initiatorRecords
use Rattle.initiator.specs.declared.answer.InitiatorAnswer.{InitiatorAnswer}
use Rattle.initiator.specs.declared.state.Initiator.{Initiator}
use Rattle.link_rules.specs.Rules.{room, default_tries, turned}
use Rattle.link_rules.specs.declared.link.Link.{Link}
use Rattle.link_telegrams.specs.Turns.{Said, sent, tells, nothing, refused, Turn}
use Rattle.responder.specs.Calls as responder
use Rattle.responder.specs.Records as responderRecords
use Rattle.responder.specs.declared.answer.ResponderAnswer.{ResponderAnswer}
use Rattle.responder.specs.declared.state.Responder.{Responder}
use Rattle.stage.specs.declared.state.Stage.{Stage}
use Rattle.stage.specs.declared.state.Tally.{Tally}

-- the link of every scene, as its initiator has it: the head end's station, and the cabinet's
abbrev pub scene_link : Link
scene_link = record { own = record { 0 = 2 }; peer = record { 0 = 5 } }

abbrev pub no_tally : Tally
no_tally = record { orders = 0; confirmed = 0; not_sent = 0; unknown = 0; carried_out = 0 }

-- both ends made, with the default number of tries, and nothing on the line
abbrev pub fresh : Stage
fresh =
    record {
      initiator = initiatorRecords.closed_of scene_link default_tries;
      responder = responderRecords.blank_of (turned scene_link);
      line = replicate room 0;
      len = 0;
      tally = no_tally;
    }

-- the same stage with these ends; what is on the line stays there
abbrev pub with_ends : Stage → Initiator → Responder → Stage
with_ends s i r = record { initiator = i; responder = r; line = s.line; len = s.len; tally = s.tally }

-- both ends made, the initiator with so many tries; with a number of tries that is refused, what stands beside the refusal
abbrev pub fresh_with : ℕ → Stage
fresh_with tries = with_ends fresh (initiatorRecords.made_of scene_link tries).end fresh.responder

-- the telegram on the line
abbrev pub on_line : Stage → List ℕ
on_line s = shown_part (record { start = 0; len = s.len }) s.line

-- a number of the tally stops at 255
abbrev pub one_more : ℕ → ℕ
one_more n = if (ltb n 255) (n + 1) n

-- the bytes that a call of an end wrote
abbrev pub sent_by : {Tale : Type 0} → Said Tale → ℕ
sent_by (sent n) = n
sent_by (tells tale) = 0
sent_by nothing = 0
sent_by (refused number) = 0

-- a submission that wrote something took the order
abbrev pub taken_by : ℕ → Tally → Tally
taken_by wrote t =
    if (ltb 0 wrote)
    (record { orders = one_more t.orders; confirmed = t.confirmed; not_sent = t.not_sent; unknown = t.unknown; carried_out = t.carried_out })
    t

-- what an application is told is counted
abbrev pub counted_by : {Tale : Type 0} → (Tale → Tally → Tally) → Said Tale → Tally → Tally
counted_by count (sent n) t = t
counted_by count (tells tale) t = count tale t
counted_by count nothing t = t
counted_by count (refused number) t = t

-- an order's outcome
abbrev pub outcome_counted : Outcome → Tally → Tally
outcome_counted (confirmed reply tries) t =
    record { orders = t.orders; confirmed = one_more t.confirmed; not_sent = t.not_sent; unknown = t.unknown; carried_out = t.carried_out }
outcome_counted (not_sent tries) t =
    record { orders = t.orders; confirmed = t.confirmed; not_sent = one_more t.not_sent; unknown = t.unknown; carried_out = t.carried_out }
outcome_counted (unknown tries) t =
    record { orders = t.orders; confirmed = t.confirmed; not_sent = t.not_sent; unknown = one_more t.unknown; carried_out = t.carried_out }

abbrev pub ended_by : Said Outcome → Tally → Tally
ended_by said t = counted_by outcome_counted said t

-- "hand the order up ..., which is its carrying out"
abbrev pub order_counted : Part → Tally → Tally
order_counted order t =
    record { orders = t.orders; confirmed = t.confirmed; not_sent = t.not_sent; unknown = t.unknown; carried_out = one_more t.carried_out }

abbrev pub carried_out_by : Said Part → Tally → Tally
carried_out_by said t = counted_by order_counted said t

-- a call of an end on a stage: its answer with document 01's number, and the stage afterwards
pub record Stepped (Tale : Type 0) : Type 0 where
  pub said : Said Tale
  pub stage : Stage

abbrev pub shown_initiator_step : Returned InitiatorAnswer Stage → Stepped Outcome
shown_initiator_step step = record { said = initiator.shown_said step.answer; stage = step.after }

abbrev pub shown_responder_step : Returned ResponderAnswer Stage → Stepped Part
shown_responder_step step = record { said = responder.shown_said step.answer; stage = step.after }

-- the end's record is what its call leaves; the line holds what the call wrote, and nothing where it wrote nothing
abbrev pub after_initiator : Stage → Turn Initiator Outcome → Tally → Stepped Outcome
after_initiator s t tally =
    record {
      said = t.said;
      stage = record { initiator = t.end; responder = s.responder; line = t.buffer; len = sent_by t.said; tally = tally };
    }

unfoldable pub after_responder : Stage → Turn Responder Part → Stepped Part
after_responder s t =
    record {
      said = t.said;
      stage =
          record {
            initiator = s.initiator;
            responder = t.end;
            line = t.buffer;
            len = sent_by t.said;
            tally = carried_out_by t.said s.tally;
          };
    }

unfoldable pub submitted : Stage → Turn Initiator Outcome → Stepped Outcome
submitted s t = after_initiator s t (taken_by (sent_by t.said) s.tally)

unfoldable pub ended : Stage → Turn Initiator Outcome → Stepped Outcome
ended s t = after_initiator s t (ended_by t.said s.tally)

-- the calls of the initiator, each lent the line's bytes as its buffer
abbrev pub submit_step : Stage → List ℕ → Stepped Outcome
submit_step s order = submitted s (initiator.submit_of s.initiator order s.line)

abbrev pub silence_step : Stage → Stepped Outcome
silence_step s = ended s (initiator.silence_of s.initiator s.line)

abbrev pub initiator_hear_step : Stage → Stepped Outcome
initiator_hear_step s = ended s (initiator.hear_of s.initiator (on_line s) s.line)

-- the calls of the responder
abbrev pub responder_hear_step : Stage → Stepped Part
responder_hear_step s = after_responder s (responder.hear_of s.responder (on_line s) s.line)

abbrev pub answer_step : Stage → List ℕ → Stepped Part
answer_step s reply = after_responder s (responder.answer_of s.responder reply s.line)

-- the line loses the telegram on it
abbrev pub lost_of : Stage → Stage
lost_of s = record { initiator = s.initiator; responder = s.responder; line = s.line; len = 0; tally = s.tally }

-- "with either end restarting at any moment": also while a telegram is in flight, which stays in flight over a restart and over the
-- making of a record anew.
-- the initiator restarts: "Restart reports a pending order as silence at the last try would"
unfoldable pub restarted_by : Stage → Turn Initiator Outcome → Stepped Outcome
restarted_by s t =
    record {
      said = t.said;
      stage =
          record {
            initiator = t.end;
            responder = s.responder;
            line = s.line;
            len = s.len;
            tally = ended_by t.said s.tally;
          };
    }

abbrev pub restart_step : Stage → Stepped Outcome
restart_step s = restarted_by s (initiator.restart_of s.initiator)

-- the initiator has "one made anew"
abbrev pub anew_of : Stage → Stage
anew_of s = with_ends s fresh.initiator s.responder

-- the responder has "one made anew"
abbrev pub responder_anew_of : Stage → Stage
responder_anew_of s = with_ends s s.initiator fresh.responder

-- the responder "forgets all"
abbrev pub restarted_of : Stage → Stage
restarted_of s = with_ends s s.initiator (responder.restart_of s.responder)
