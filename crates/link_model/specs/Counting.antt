-- Any pair of ends, with a responder that numbers the orders it hands up and is answered by number: what the guarded ends add, on any records.
use Rattle.std.specs.Prelude.{ℕ, suc, eqb}
use Rattle.ground.specs.Pick.{if}
use Rattle.demand_3.specs.Line.{Pair}
use Rattle.demand_3.specs.Numbers.{Numbering}
use Rattle.demand_3.specs.Turns.{Bytes, Told, refused, nothing, tells, Turn, refusing}

-- the responder's record, and how many orders it has handed up
pub record Counting (End : Type 0) : Type 0 where
  pub end : End
  pub handed : ℕ

abbrev pub counted_on : {A : Type 0} → Told A → ℕ → ℕ
counted_on refused n = n
counted_on nothing n = n
counted_on (tells a) n = suc n

-- a call of the responder, and the count after it
abbrev pub counted : {E T : Type 0} → ℕ → Turn E T Bytes → Turn (Counting E) T Bytes
counted n t = record { next = record { end = t.next; handed = counted_on t.says n }; writes = t.writes; says = t.says }

abbrev pub counting : Pair → Pair
counting P =
    record {
      Initiator = P.Initiator;
      Responder = Counting P.Responder;
      Telegram = P.Telegram;
      Room = P.Room;
      make_initiator = P.make_initiator;
      submit = P.submit;
      silence = P.silence;
      initiator_hear = P.initiator_hear;
      initiator_restart = P.initiator_restart;
      make_responder = record { end = P.make_responder; handed = 0 };
      responder_hear = λ r room t. counted r.handed (P.responder_hear r.end room t);
      answer = λ r room p. counted r.handed (P.answer r.end room p);
      -- a restart forgets what the responder remembers, and goes on counting
      responder_restart = λ r. record { end = P.responder_restart r.end; handed = r.handed };
      enough = P.enough;
      orderable = P.orderable;
      answerable = P.answerable;
      opens = P.opens;
      StrayToInitiator = P.StrayToInitiator;
      StrayToResponder = λ r t. P.StrayToResponder r.end t;
    }

-- hearing gives the count with the order that it counted; an answer with another number is refused
abbrev pub by_count : (P : Pair) → Numbering (counting P)
by_count P =
    record {
      number = λ r room t. suc r.handed;
      answer_by = λ r room k p. if (eqb k r.handed) ((counting P).answer r room p) (refusing r);
    }
