-- The order link as a driver in another language calls it: the pair of ends that the promises of `koy_initiator_…` and `koy_responder_…`
-- make, on the bytes of their records. What was written and what was told is read off code, numbers and buffer as
-- bindings/c/koyandefa.h says. Demand 3 is stated of it. Read `exported_link`, then what it is made of.
use Rattle.std.specs.Prelude.{ℕ, false, List, [], ◌≡◌, eqb, leb, length, take, drop, get_or}
use Rattle.std.proofs.Math.Option.{Option, none, some}
use Rattle.ground.specs.Pick.{if}
use Rattle.demand_3.specs.Line.{Pair}
use Rattle.demand_3.specs.Turns.{Outcome, confirmed, not_sent, unknown, Told, refused, nothing, tells, Turn}
use Rattle.exports_link.specs.Calls.{Call}
use Rattle.exports_link.specs.InitiatorCalls.{koy_initiator_new, koy_initiator_submit, koy_initiator_silence, koy_initiator_hear, koy_initiator_restart}
use Rattle.exports_link.specs.ResponderCalls.{koy_responder_new, koy_responder_hear, koy_responder_answer, koy_responder_restart}
use Rattle.link_rules.specs.Rules.{room}
use Rattle.link_rules.specs.declared.link.Link.{Link}
use Rattle.link_theorem.specs.OrderLink.{bears_both, order_link}

-- What a driver lends to a call beside the record: the buffer, and the array that it is told numbers in. Whatever stands in them.
pub record Lent : Type 0 where
  pub buffer : List ℕ
  pub told : List ℕ

-- What stood in memory: where the two records are made, and in the array that is lent to the initiator's restart.
pub record Found : Type 0 where
  pub initiator : List ℕ
  pub responder : List ℕ
  pub told : List ℕ

-- told[at]
abbrev pub number : List ℕ → ℕ → ℕ
number told at = get_or told at 0

-- KOY_SENT: "a telegram stands at the front of the buffer", "[0] the telegram's length"
abbrev pub wrote_of : Call → Option (List ℕ)
wrote_of c = if (eqb c.code 102) (some (take (number c.told 0) c.buffer)) none

-- "heard[told[0]], told[1] bytes"
abbrev pub heard_part : List ℕ → Call → List ℕ
heard_part heard c = take (number c.told 1) (drop (number c.told 0) heard)

-- 0 and KOY_SENT have nothing to tell the application; every code that is not named is a refusal
abbrev pub done_of : {Tale : Type 0} → ℕ → Told Tale
done_of code = if (eqb code 0) nothing (if (eqb code 102) nothing refused)

-- The initiator, lent these heard bytes. KOY_CONFIRMED: "the reply is heard[told[0]], told[1] bytes; [2] tries"; KOY_NOT_SENT,
-- KOY_UNKNOWN: "[2] tries".
abbrev pub outcome_of : List ℕ → Call → Told Outcome
outcome_of heard c =
    if (eqb c.code 103) (tells (confirmed (heard_part heard c) (number c.told 2)))
    (if (eqb c.code 104) (tells (not_sent (number c.told 2)))
    (if (eqb c.code 105) (tells (unknown (number c.told 2))) (done_of c.code)))

-- The responder. KOY_HANDED_UP: "the order is heard[told[0]], told[1] bytes".
abbrev pub order_of : List ℕ → Call → Told (List ℕ)
order_of heard c = if (eqb c.code 106) (tells (heard_part heard c)) (done_of c.code)

-- a call, as the driver reads it
abbrev pub turn_of : {Tale : Type 0} → (Call → Told Tale) → Call → Turn (List ℕ) (List ℕ) Tale
turn_of says c = record { next = c.state; writes = wrote_of c; says = says c }

-- The pair of ends; the link is as the initiator has it. The promise of each exported call is an equation whose right side stands here.
abbrev pub exported_link : Found → Link → Pair
exported_link found link =
    record {
      -- the bytes of a record, as the call before left them
      Initiator = List ℕ;
      Responder = List ℕ;
      Telegram = List ℕ;
      Room = Lent;
      -- `koy_initiator_new`, `koy_initiator_submit`, `koy_initiator_silence`, `koy_initiator_hear`, `koy_initiator_restart`
      make_initiator = λ tries. (koy_initiator_new found.initiator link.own.0 link.peer.0 tries).state;
      submit = λ state lent q. turn_of (outcome_of []) (koy_initiator_submit state q lent.buffer lent.told);
      silence = λ state lent. turn_of (outcome_of []) (koy_initiator_silence state lent.buffer lent.told);
      initiator_hear = λ state lent s. turn_of (outcome_of s) (koy_initiator_hear state s lent.buffer lent.told);
      initiator_restart = λ state. turn_of (outcome_of []) (koy_initiator_restart state found.told);
      -- `koy_responder_new`, `koy_responder_hear`, `koy_responder_answer`, `koy_responder_restart`
      make_responder = (koy_responder_new found.responder link.peer.0 link.own.0).state;
      responder_hear = λ state lent s. turn_of (order_of s) (koy_responder_hear state s lent.buffer lent.told);
      answer = λ state lent p. turn_of (order_of []) (koy_responder_answer state p lent.buffer lent.told);
      responder_restart = koy_responder_restart;
      -- "Calls that may write want 255 bytes of room"
      enough = λ lent. leb room (length lent.buffer);
      -- what document 01 says of orders, answers and the line, as of the calls by value
      orderable = (order_link link).orderable;
      answerable = (order_link link).answerable;
      opens = (order_link link).opens;
      StrayToInitiator = λ state s. bears_both link s ≡ false;
      StrayToResponder = λ state s. bears_both link s ≡ false;
    }
