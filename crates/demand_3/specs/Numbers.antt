-- Answers by number, stated of any pair of ends: hearing gives a number with each order that it hands up, and the application answers with a
-- number, at any time and as often as it likes. Then the reply that a confirmed order shows was given for that very handing up. Read
-- `AnswersByNumber`.
use Rattle.std.specs.Prelude.{ℕ, suc, ◌≤◌, length, List, [], ◌∷◌, ◌++◌, ◌⊎◌, ◌≡◌}
use Rattle.std.proofs.Math.Option.{Option}
use Rattle.demand_3.specs.Turns.{Bytes, confirmed, Told, refused, nothing, tells, Turn, refusing}
use Rattle.demand_3.specs.History.{ended, Entry, noted, answered}
use Rattle.demand_3.specs.Line.{Pair, State, Call, initiator_made, submits, silent, initiator_hears, initiator_restarts, responder_made, responder_hears, answers, responder_restarts, still_or, step, start, Lawful}
use Rattle.demand_3.specs.Safe.{Every, report_of, entries_of}
use Rattle.link_rules.specs.Rules.{Permitted}

-- a pair of ends that is answered by number; an answer of the pair itself is one with the number of the order that was handed up last
pub record Numbering (P : Pair) : Type 0 where
  -- the number that hearing gives with an order that it hands up
  pub number : P.Responder → P.Room → P.Telegram → ℕ
  -- an answer with a number
  pub answer_by : P.Responder → P.Room → ℕ → Bytes → Turn P.Responder P.Telegram Bytes

-- A handing up is named by the number that hearing gave with it and by the responder's record that gave it, the first one made being 0: where
-- a record is made anew, its numbers begin anew too.
pub record Label : Type 0 where
  pub life : ℕ
  pub number : ℕ

-- an answer that the application gave, whether it was taken or not
pub record Answer : Type 0 where
  pub to : Label
  pub reply : Bytes

-- Which record of the responder is in hand; for each order, latest first, its handings up, latest first; and all answers given.
pub record Log : Type 0 where
  pub life : ℕ
  pub handed : List (List Label)
  pub gave : List Answer

abbrev pub no_log : Log
no_log = record { life = 0; handed = []; gave = [] }

-- an order that is accepted has not been handed up yet
abbrev pub ordered : {A : Type 0} → Told A → List (List Label) → List (List Label)
ordered refused ms = ms
ordered nothing ms = [] ∷ ms
ordered (tells a) ms = [] ∷ ms

-- a handing up is the latest order's
abbrev pub labelled : {A : Type 0} → Told A → Label → List (List Label) → List (List Label)
labelled refused l ms = ms
labelled nothing l ms = ms
labelled (tells a) l [] = []
labelled (tells a) l (m ∷ ms) = (l ∷ m) ∷ ms

-- a refused answer leaves what is in flight in flight
abbrev pub line_after : {A T : Type 0} → Told A → Option T → Option T → Option T
line_after refused w l = still_or w l
line_after nothing w l = w
line_after (tells a) w l = w

-- one of a list
abbrev pub Among : {A : Type 0} → A → List A → Type 0
Among a [] = ⊥
Among a (b ∷ bs) = (a ≡ b) ⊎ Among a bs

abbrev pub flat : {A : Type 0} → List (List A) → List A
flat [] = []
flat (xs ∷ xss) = xs ++ flat xss

-- no two of a list are the same
abbrev pub Different : {A : Type 0} → List A → Type 0
Different [] = Unit {0}
Different (a ∷ bs) = Every (λ b. a ≡ b → ⊥) bs × Different bs

-- an order that is confirmed was handed up once, and its reply was given for that handing up
abbrev pub ItsOwn : List Answer → Entry → List Label → Type 0
ItsOwn gave e m =
    (r : Bytes) (k : ℕ) → report_of e ≡ ended (confirmed r k)
    → (l : Label) × (m ≡ l ∷ []) × Among (record { to = l; reply = r }) gave

abbrev pub AllTheirOwn : List Answer → List Entry → List (List Label) → Type 0
AllTheirOwn gave [] [] = Unit {0}
AllTheirOwn gave [] (m ∷ ms) = ⊥
AllTheirOwn gave (e ∷ es) [] = ⊥
AllTheirOwn gave (e ∷ es) (m ∷ ms) = ItsOwn gave e m × AllTheirOwn gave es ms

module _ (P : Pair) (N : Numbering P) where
  -- what a call leaves in the log
  abbrev pub logged : State P → Call P → Log → Log
  logged s (initiator_made n) g = g
  logged s (submits room q) g =
      record { life = g.life; handed = ordered (P.submit s.initiator room q).says g.handed; gave = g.gave }
  logged s (silent room) g = g
  logged s (initiator_hears room t) g = g
  logged s initiator_restarts g = g
  logged s responder_made g = record { life = suc g.life; handed = g.handed; gave = g.gave }
  logged s (responder_hears room t) g =
      record {
        life = g.life;
        handed =
            labelled (P.responder_hear s.responder room t).says
            (record { life = g.life; number = N.number s.responder room t }) g.handed;
        gave = g.gave;
      }
  logged s (answers room p) g = g
  logged s responder_restarts g = g

  -- an answer with a number
  abbrev pub answered_by : State P → Bytes → Turn P.Responder P.Telegram Bytes → State P
  answered_by s p t =
      record {
        initiator = s.initiator;
        responder = t.next;
        line = line_after t.says t.writes s.line;
        tries = s.tries;
        is_closed = s.is_closed;
        unbroken = s.unbroken;
        past = noted t.says (answered t.says p s.past);
      }

  abbrev pub given_by : ℕ → Bytes → Log → Log
  given_by k p g =
      record {
        life = g.life;
        handed = g.handed;
        gave = record { to = record { life = g.life; number = k }; reply = p } ∷ g.gave;
      }

  -- where the application answers by number, no answer is given without one
  abbrev pub WithNumber : Call P → Type 0
  WithNumber (initiator_made n) = Unit {0}
  WithNumber (submits room q) = Unit {0}
  WithNumber (silent room) = Unit {0}
  WithNumber (initiator_hears room t) = Unit {0}
  WithNumber initiator_restarts = Unit {0}
  WithNumber responder_made = Unit {0}
  WithNumber (responder_hears room t) = Unit {0}
  WithNumber (answers room p) = ⊥
  WithNumber responder_restarts = Unit {0}

  -- a run on the line of demand 3, with its log: what has come about after lawful calls, each with any number
  pub data Comes : State P → Log → Type 0 where
    begins : (n : ℕ) → Permitted n → Comes (start P n) no_log
    goes_on :
        {s : State P} {g : Log} → Comes s g → (c : Call P) → Lawful P s c → WithNumber c
        → Comes (step P s c) (logged s c g)
    is_answered :
        {s : State P} {g : Log} → Comes s g → (room : P.Room) (k : ℕ) (p : Bytes)
        → Comes (answered_by s p (N.answer_by s.responder room k p)) (given_by k p g)

  -- Whatever the application answers and when: each confirmed order shows a reply that was given for its own handing up; no two handings up
  -- bear the same label, as long as there are no more of them than numbers; an answer with the number that hearing gave is the pair's own
  -- answer, so that demand 3 speaks of it; and one that is not taken changes nothing.
  pub record AnswersByNumber (numbers : ℕ) : Type 0 where
    pub its_own : {s : State P} {g : Log} → Comes s g → AllTheirOwn g.gave (entries_of s.past) g.handed
    pub different : {s : State P} {g : Log} → Comes s g → suc (length (flat g.handed)) ≤ numbers → Different (flat g.handed)
    pub its_number :
        {s : State P} {g : Log} → Comes s g → (room into : P.Room) (t : P.Telegram) (q p : Bytes)
        → (P.responder_hear s.responder room t).says ≡ tells q
        → N.answer_by (P.responder_hear s.responder room t).next into (N.number s.responder room t) p
        ≡ P.answer (P.responder_hear s.responder room t).next into p
    pub not_taken :
        {s : State P} {g : Log} → Comes s g → (room : P.Room) (k : ℕ) (p : Bytes)
        → (N.answer_by s.responder room k p).says ≡ refused → N.answer_by s.responder room k p ≡ refusing s.responder
