-- Our two ends, on messages, as a pair of ends; and any two ends on messages, so that wrong ones can be held against
-- the same demand.
use Rattle.std.specs.Prelude.{ℕ, Bool, true, ◌≡◌}
use Rattle.ground.specs.Pick.{if}
use Rattle.link_model.specs.Messages.{Message, is_opening}
use Rattle.demand_3.specs.Turns.{Bytes, Outcome, Turn, refusing, ignoring}
use Rattle.link_model.specs.Initiator.{new_initiator, submit_of, silence_of, hear_of, restart_of}
use Rattle.link_model.specs.Responder.{row_hears, row_answers, new_row}
use Rattle.demand_3.specs.Line.{Pair}

-- a head end on messages M; a call that may write is told whether it has room
pub record AnyInitiator (M : Type 0) : Type 1 where
  pub End : Type 0
  pub new : ℕ → End
  pub submit : End → Bool → Bytes → Turn End M Outcome
  pub silence : End → Bool → Turn End M Outcome
  pub hear : End → Bool → M → Turn End M Outcome
  pub restart : End → Turn End M Outcome

-- a cabinet on messages M
pub record AnyResponder (M : Type 0) : Type 1 where
  pub End : Type 0
  pub new : End
  pub hear : End → Bool → M → Turn End M Bytes
  pub answer : End → Bool → Bytes → Turn End M Bytes
  pub restart : End → End

-- the two as a pair; beside the telegram in flight an end hears what it ignores in its present state
abbrev pub linked : {M : Type 0} → (M → Bool) → AnyInitiator M → AnyResponder M → Pair
linked {M} isFirst h c =
    record {
      Initiator = h.End;
      Responder = c.End;
      Telegram = M;
      Room = Bool;
      enough = λ room. room;
      orderable = λ q. true;
      answerable = λ p. true;
      opens = isFirst;
      make_initiator = h.new;
      submit = h.submit;
      silence = h.silence;
      initiator_hear = h.hear;
      initiator_restart = h.restart;
      make_responder = c.new;
      responder_hear = c.hear;
      answer = c.answer;
      responder_restart = c.restart;
      StrayToInitiator = λ i m. h.hear i true m ≡ ignoring i;
      StrayToResponder = λ r m. c.hear r true m ≡ ignoring r;
    }

-- ends by their rules: without room a call is refused
module _ {M E : Type 0} where
  abbrev pub initiator_by :
      (ℕ → E) → (E → Bytes → Turn E M Outcome) → (E → Turn E M Outcome) → (E → M → Turn E M Outcome) → (E → Turn E M Outcome) → AnyInitiator M
  initiator_by new submit silence hear restart =
      record {
        End = E;
        new = new;
        submit = λ i room q. if room (submit i q) (refusing i);
        silence = λ i room. if room (silence i) (refusing i);
        hear = λ i room m. if room (hear i m) (refusing i);
        restart = restart;
      }

  abbrev pub responder_by : E → (E → M → Turn E M Bytes) → (E → Bytes → Turn E M Bytes) → (E → E) → AnyResponder M
  responder_by new hear answer restart =
      record {
        End = E;
        new = new;
        hear = λ r room m. if room (hear r m) (refusing r);
        answer = λ r room p. if room (answer r p) (refusing r);
        restart = restart;
      }

abbrev pub our_initiator : AnyInitiator Message
our_initiator = initiator_by new_initiator submit_of silence_of hear_of restart_of

abbrev pub our_responder : AnyResponder Message
our_responder = responder_by new_row row_hears row_answers (λ r. new_row)

abbrev pub ours : Pair
ours = linked is_opening our_initiator our_responder
