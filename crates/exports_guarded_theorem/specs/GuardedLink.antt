-- The order link as a driver calls it with a guard: the pair of ends that the promises of `koy_guarded_initiator_…` and
-- `koy_guarded_responder_…` make, on the bytes of their records and on their guards. Demand 3 is stated of it, and that an answer names what it
-- answers. Read `guarded_link`, `link_by_number`, then what they are made of.
use Rattle.std.specs.Prelude.{ℕ, suc, ◌+◌, List, [], ◌∷◌, ◌≡◌, false, leb, length}
use Rattle.demand_3.specs.Line.{Pair}
use Rattle.demand_3.specs.Numbers.{Numbering}
use Rattle.demand_3.specs.Turns.{Told, Turn}
use Rattle.exports_guarded.specs.Calls.{GuardedCall, GuardedNew}
use Rattle.guards.specs.Guards.{last_of, handed_of}
use Rattle.exports_guarded.specs.InitiatorCalls.{koy_guarded_initiator_new, koy_guarded_initiator_submit, koy_guarded_initiator_silence, koy_guarded_initiator_hear}
use Rattle.exports_guarded.specs.ResponderCalls.{koy_guarded_responder_new, koy_guarded_responder_hear, koy_guarded_responder_answer}
use Rattle.exports_link.specs.Calls.{Call}
use Rattle.exports_link.specs.InitiatorCalls.{koy_initiator_restart}
use Rattle.exports_link.specs.ResponderCalls.{koy_responder_restart}
use Rattle.exports_link_theorem.specs.ExportedLink.{Found, number, wrote_of, outcome_of, order_of}
use Rattle.link_rules.specs.Rules.{room}
use Rattle.link_rules.specs.declared.link.Link.{Link}
use Rattle.link_theorem.specs.OrderLink.{bears_both, order_link}

-- What a driver lends to a call beside record and guard: the buffer, the array that it is told numbers in, the stamp of the call; and of
-- what is heard how long after this end's last telegram it was received, so that it is never older: "nor delays".
pub record Lent : Type 0 where
  pub buffer : List ℕ
  pub told : List ℕ
  pub moment : ℕ
  pub later : ℕ

-- an initiator: its bytes, and its guard, which is one stamp
pub record GuardedInitiator : Type 0 where
  pub state : List ℕ
  pub last : ℕ

-- a responder: its bytes, and its guard, a stamp and the number of the last order handed up
pub record GuardedResponder : Type 0 where
  pub state : List ℕ
  pub last : ℕ
  pub handed : ℕ

abbrev pub stamp_of : GuardedInitiator → List ℕ
stamp_of i = i.last ∷ []

abbrev pub guard_of : GuardedResponder → List ℕ
guard_of r = r.last ∷ r.handed ∷ []

-- the stamp of bytes that were received so long after the last telegram
abbrev pub received_at : ℕ → ℕ → ℕ
received_at last later = suc (last + later)

-- code, numbers, bytes and buffer, as of the call without a guard
abbrev pub unguarded : GuardedCall → Call
unguarded c = record { code = c.code; told = c.told; state = c.state; buffer = c.buffer }

abbrev pub initiator_turn : {Tale : Type 0} → (Call → Told Tale) → GuardedCall → Turn GuardedInitiator (List ℕ) Tale
initiator_turn says c =
    record { next = record { state = c.state; last = last_of c.guard }; writes = wrote_of (unguarded c); says = says (unguarded c) }

abbrev pub responder_turn : {Tale : Type 0} → (Call → Told Tale) → GuardedCall → Turn GuardedResponder (List ℕ) Tale
responder_turn says c =
    record {
      next = record { state = c.state; last = last_of c.guard; handed = handed_of c.guard };
      writes = wrote_of (unguarded c);
      says = says (unguarded c);
    }

abbrev pub initiator_made : GuardedNew → GuardedInitiator
initiator_made c = record { state = c.state; last = last_of c.guard }

abbrev pub responder_made : GuardedNew → GuardedResponder
responder_made c = record { state = c.state; last = last_of c.guard; handed = handed_of c.guard }

-- the plain restart of the bytes; the guard stays
abbrev pub restarted : GuardedInitiator → Call → GuardedCall
restarted i c = record { code = c.code; told = c.told; state = c.state; guard = stamp_of i; buffer = c.buffer }

-- hearing, and an answer with a number
abbrev pub hears : GuardedResponder → Lent → List ℕ → GuardedCall
hears r lent s =
    koy_guarded_responder_hear r.state (guard_of r) (received_at r.last lent.later) lent.moment s lent.buffer lent.told

abbrev pub answers_with : GuardedResponder → Lent → ℕ → List ℕ → GuardedCall
answers_with r lent k p = koy_guarded_responder_answer r.state (guard_of r) k lent.moment p lent.buffer lent.told

-- The pair of ends; the link is as the initiator has it, moment the stamp with which records are made. An answer of the pair is one with the
-- number of the last order handed up.
abbrev pub guarded_link : Found → ℕ → Link → Pair
guarded_link found moment link =
    record {
      Initiator = GuardedInitiator;
      Responder = GuardedResponder;
      Telegram = List ℕ;
      Room = Lent;
      make_initiator =
          λ tries.
          initiator_made (koy_guarded_initiator_new found.initiator (0 ∷ []) link.own.0 link.peer.0 tries moment);
      submit =
          λ i lent q.
          initiator_turn (outcome_of []) (koy_guarded_initiator_submit i.state (stamp_of i) lent.moment q lent.buffer lent.told);
      silence =
          λ i lent.
          initiator_turn (outcome_of []) (koy_guarded_initiator_silence i.state (stamp_of i) lent.moment lent.buffer lent.told);
      initiator_hear =
          λ i lent s.
          initiator_turn (outcome_of s)
          (koy_guarded_initiator_hear i.state (stamp_of i) (received_at i.last lent.later) lent.moment s lent.buffer lent.told);
      initiator_restart = λ i. initiator_turn (outcome_of []) (restarted i (koy_initiator_restart i.state found.told));
      make_responder =
          responder_made (koy_guarded_responder_new found.responder (0 ∷ 0 ∷ []) link.peer.0 link.own.0 moment);
      responder_hear = λ r lent s. responder_turn (order_of s) (hears r lent s);
      answer = λ r lent p. responder_turn (order_of []) (answers_with r lent r.handed p);
      responder_restart = λ r. record { state = koy_responder_restart r.state; last = r.last; handed = r.handed };
      enough = λ lent. leb room (length lent.buffer);
      orderable = (order_link link).orderable;
      answerable = (order_link link).answerable;
      opens = (order_link link).opens;
      StrayToInitiator = λ i s. bears_both link s ≡ false;
      StrayToResponder = λ r s. bears_both link s ≡ false;
    }

-- "told[2]": the number of the order handed up; and an answer with any number
abbrev pub link_by_number : (found : Found) (moment : ℕ) (link : Link) → Numbering (guarded_link found moment link)
link_by_number found moment link =
    record {
      number = λ r lent s. number (hears r lent s).told 2;
      answer_by = λ r lent k p. responder_turn (order_of []) (answers_with r lent k p);
    }
