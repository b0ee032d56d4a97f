-- Any pair of ends that can be called as document 01 has it; the calls; the line between them; and the runs.
use Rattle.std.specs.Prelude.{ℕ, Bool, true, false, List, [], ◌∷◌}
use Rattle.std.proofs.Math.Option.{Option, none, some}
use Rattle.link_rules.specs.Rules.{Permitted}
use Rattle.demand_3.specs.Turns.{Bytes, Outcome, confirmed, not_sent, unknown, Told, refused, nothing, tells, Turn}
use Rattle.demand_3.specs.History.{History, no_history, submitted, Sent, nothingSent, openingSent, orderSent, counted, reported, left_pending, noted, answered, opening_heard}

-- Two ends: what their records are, what they write and hear, and what each call gives.
pub record Pair : Type 1 where
  pub Initiator : Type 0
  pub Responder : Type 0
  pub Telegram : Type 0
  -- the buffer that a call is lent
  pub Room : Type 0
  -- the initiator: made with a number of tries, and its calls
  pub make_initiator : ℕ → Initiator
  pub submit : Initiator → Room → Bytes → Turn Initiator Telegram Outcome
  pub silence : Initiator → Room → Turn Initiator Telegram Outcome
  pub initiator_hear : Initiator → Room → Telegram → Turn Initiator Telegram Outcome
  pub initiator_restart : Initiator → Turn Initiator Telegram Outcome
  -- the responder: made, and its calls
  pub make_responder : Responder
  pub responder_hear : Responder → Room → Telegram → Turn Responder Telegram Bytes
  pub answer : Responder → Room → Bytes → Turn Responder Telegram Bytes
  pub responder_restart : Responder → Responder
  -- The rest is not the ends' to choose: in a pair of ends on bytes it is what document 01 says.
  -- Room enough: "link calls that may write want 255 bytes".
  pub enough : Room → Bool
  -- An order that may be submitted: "1 to 246 bytes".
  pub orderable : Bytes → Bool
  -- An answer that the application may give: "of at most 246 bytes".
  pub answerable : Bytes → Bool
  -- An opening: "First, empty PDU".
  pub opens : Telegram → Bool
  -- What else the line may bring to an end in its present state, beside the telegram in flight: "Nothing else on the
  -- line bears both addresses".
  pub StrayToInitiator : Initiator → Telegram → Type 0
  pub StrayToResponder : Responder → Telegram → Type 0

-- What a run has come to: the two records, the telegram in flight, the tries of the initiator in hand; whether the
-- link is closed by document 01's rule, whatever the initiator makes of it; whether neither end has restarted since
-- the opening began; and the history.
pub record State (P : Pair) : Type 0 where
  pub initiator : P.Initiator
  pub responder : P.Responder
  pub line : Option P.Telegram
  pub tries : ℕ
  pub is_closed : Bool
  pub unbroken : Bool
  pub past : History

-- every call of document 01
pub data Call (P : Pair) : Type 0 where
  -- the head end: its record made anew with so many tries, an order submitted, silence reported, bytes heard, a restart
  initiator_made : ℕ → Call P
  submits : P.Room → Bytes → Call P
  silent : P.Room → Call P
  initiator_hears : P.Room → P.Telegram → Call P
  initiator_restarts : Call P
  -- the cabinet: its record made anew, bytes heard, the application's answer, a restart
  responder_made : Call P
  responder_hears : P.Room → P.Telegram → Call P
  answers : P.Room → Bytes → Call P
  responder_restarts : Call P

-- a confirmed order leaves the link open, every other outcome closed
abbrev pub closed_by : Told Outcome → Bool → Bool
closed_by refused b = b
closed_by nothing b = b
closed_by (tells (confirmed r k)) b = false
closed_by (tells (not_sent k)) b = true
closed_by (tells (unknown k)) b = true

-- an order accepted on a closed link begins an opening: from then on it is seen whether an end restarts
abbrev pub begun : Told Outcome → Bool → Bool → Bool
begun refused is_closed unbroken = unbroken
begun nothing true unbroken = true
begun nothing false unbroken = unbroken
begun (tells o) true unbroken = true
begun (tells o) false unbroken = unbroken

-- a telegram that is no opening belongs to the order's phase
abbrev pub sent_as : Bool → Sent
sent_as true = openingSent
sent_as false = orderSent

-- what is in flight after a restart: what the restart wrote, or else what was in flight before it
abbrev pub still_or : {T : Type 0} → Option T → Option T → Option T
still_or none l = l
still_or (some t) l = some t

module _ (P : Pair) where
  -- what the initiator wrote
  abbrev pub sent_of : Option P.Telegram → Sent
  sent_of none = nothingSent
  sent_of (some t) = sent_as (P.opens t)

  -- what a call of the initiator leaves: c says whether the link was closed, u whether neither end had restarted
  -- since the opening began, and h is the history with the order that the call submitted
  abbrev pub initiator_done : State P → Bool → Bool → History → Turn P.Initiator P.Telegram Outcome → State P
  initiator_done s c u h t =
      record {
        initiator = t.next;
        responder = s.responder;
        line = t.writes;
        tries = s.tries;
        is_closed = closed_by t.says c;
        unbroken = u;
        past = reported t.says (counted (sent_of t.writes) h);
      }

  -- what a restart of the initiator leaves: the link closed, and what was in flight still in flight
  abbrev pub restart_done : State P → Turn P.Initiator P.Telegram Outcome → State P
  restart_done s t =
      record {
        initiator = t.next;
        responder = s.responder;
        line = still_or t.writes s.line;
        tries = s.tries;
        is_closed = closed_by t.says true;
        unbroken = false;
        past = reported t.says (counted (sent_of t.writes) s.past);
      }

  -- what a call of the responder leaves: h is the history with what the call heard or answered
  abbrev pub responder_done : State P → History → Turn P.Responder P.Telegram Bytes → State P
  responder_done s h t =
      record {
        initiator = s.initiator;
        responder = t.next;
        line = t.writes;
        tries = s.tries;
        is_closed = s.is_closed;
        unbroken = s.unbroken;
        past = noted t.says h;
      }

  -- One call. What it wrote is in flight afterwards, and what was in flight before is gone: "a written telegram is
  -- heard in the very next call of the two ends, or never". But "with either end restarting at any moment", also while a
  -- telegram is in flight: over a restart, and over the making of a record anew, the telegram stays in flight.
  abbrev pub step : State P → Call P → State P
  step s (initiator_made n) =
      record {
        initiator = P.make_initiator n;
        responder = s.responder;
        line = s.line;
        tries = n;
        is_closed = true;
        unbroken = false;
        past = left_pending s.past;
      }
  step s (submits room q) =
      let t = P.submit s.initiator room q in
      initiator_done s s.is_closed (begun t.says s.is_closed s.unbroken) (submitted t.says q s.past) t
  step s (silent room) = initiator_done s s.is_closed s.unbroken s.past (P.silence s.initiator room)
  step s (initiator_hears room m) =
      initiator_done s s.is_closed s.unbroken s.past (P.initiator_hear s.initiator room m)
  step s initiator_restarts = restart_done s (P.initiator_restart s.initiator)
  step s responder_made =
      record {
        initiator = s.initiator;
        responder = P.make_responder;
        line = s.line;
        tries = s.tries;
        is_closed = s.is_closed;
        unbroken = false;
        past = s.past;
      }
  step s (responder_hears room m) =
      let t = P.responder_hear s.responder room m in responder_done s (opening_heard t.says (P.opens m) s.past) t
  step s (answers room p) =
      let t = P.answer s.responder room p in responder_done s (answered t.says p s.past) t
  step s responder_restarts =
      record {
        initiator = s.initiator;
        responder = P.responder_restart s.responder;
        line = s.line;
        tries = s.tries;
        is_closed = s.is_closed;
        unbroken = false;
        past = s.past;
      }

  -- both ends made, the line empty
  abbrev pub start : ℕ → State P
  start n =
      record {
        initiator = P.make_initiator n;
        responder = P.make_responder;
        line = none;
        tries = n;
        is_closed = true;
        unbroken = true;
        past = no_history;
      }

  -- a run: the calls one after the other
  abbrev pub run : State P → List (Call P) → State P
  run s [] = s
  run s (c ∷ cs) = run (step s c) cs

-- what may be heard: the telegram in flight, or what else the line may bring
pub data Heard {T : Type 0} (Stray : T → Type 0) : Option T → T → Type 0 where
  in_flight : {t : T} → Heard Stray (some t) t
  stray : {l : Option T} {t : T} → Stray t → Heard Stray l t

module _ (P : Pair) where
  -- The line's law, call by call: it "may lose telegrams but neither alters, doubles nor delays them". Every call is
  -- free but for what is heard; a call with too short a room, or refused for another reason, is a call as any other.
  abbrev pub Lawful : State P → Call P → Type 0
  Lawful s (initiator_made n) = Permitted n
  Lawful s (submits room q) = Unit {0}
  Lawful s (silent room) = Unit {0}
  Lawful s (initiator_hears room t) = Heard (P.StrayToInitiator s.initiator) s.line t
  Lawful s initiator_restarts = Unit {0}
  Lawful s responder_made = Unit {0}
  Lawful s (responder_hears room t) = Heard (P.StrayToResponder s.responder) s.line t
  Lawful s (answers room p) = Unit {0}
  Lawful s responder_restarts = Unit {0}

  -- a list of calls that the line's law allows
  abbrev pub Obeys : State P → List (Call P) → Type 0
  Obeys s [] = Unit {0}
  Obeys s (c ∷ cs) = Lawful s c × Obeys (step P s c) cs
