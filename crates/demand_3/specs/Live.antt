-- The last sentence of demand 3, of any pair of ends: "If neither end has restarted since the opening began, the
-- cabinet answers at once, and one permitted try of the opening and one of the order pass both ways, the order is
-- confirmed." It speaks of the line and the callers alone: an end that writes nothing, or never reaches the order's
-- phase, is not excused. Nor is one that refuses orders: which are taken stands at the end.
use Rattle.std.specs.Prelude.{ℕ, suc, ◌≤◌, eqb, length, Bool, true, false, ◌||◌, List, [], ◌∷◌, ◌≡◌}
use Rattle.std.proofs.Math.Option.{Option, none, some}
use Rattle.ground.specs.Pick.{if}
use Rattle.demand_3.specs.Turns.{Bytes, confirmed, Told, refused, nothing, tells}
use Rattle.demand_3.specs.History.{Report, pending, abandoned, ended, Entry, History, Sent, nothingSent, openingSent, orderSent}
use Rattle.demand_3.specs.Line.{Pair, State, submits, silent, initiator_hears, responder_hears, answers, step, sent_of, Heard, in_flight, stray, Lawful}
use Rattle.demand_3.specs.Safe.{report_of, entries_of}

-- what was reported of the order with this number, counted from 0 as submitted
abbrev pub report_at : ℕ → List Entry → Report
report_at n [] = pending
report_at n (e ∷ es) = if (eqb n (length es)) (report_of e) (report_at n es)

-- "the order is confirmed"
abbrev pub Confirmed : ℕ → History → Type 0
Confirmed n h = (r : Bytes) × (k : ℕ) × (report_at n (entries_of h) ≡ ended (confirmed r k))

-- a call was not refused
abbrev pub Accepted : {A : Type 0} → Told A → Type 0
Accepted refused = ⊥
Accepted nothing = Unit {0}
Accepted (tells a) = Unit {0}

-- is an order pending; one that was left pending by a record made anew is not pending in the record in hand
abbrev pub is_pending : Report → Bool
is_pending pending = true
is_pending abandoned = false
is_pending (ended o) = false

abbrev pub any_pending : List Entry → Bool
any_pending [] = false
any_pending (e ∷ es) = is_pending (report_of e) || any_pending es

-- a call told nothing
abbrev pub Silent : {A : Type 0} → Told A → Type 0
Silent refused = Unit {0}
Silent nothing = Unit {0}
Silent (tells a) = ⊥

-- what is in flight in a phase: its try, what was written in answer to the try, or anything else or nothing
pub data Flight : Type 0 where
  theTry theAnswer another : Flight

module _ {T : Type 0} {Stray : T → Type 0} where
  -- what is in flight after the responder has heard it
  abbrev pub answer_to : {l : Option T} {t : T} → Flight → Heard Stray l t → Flight
  answer_to theTry in_flight = theAnswer
  answer_to theTry (stray e) = another
  answer_to theAnswer h = another
  answer_to another h = another

  -- the initiator hears it, and that is not the passing of a try: it has no room, or it hears anything but what was
  -- written in answer to the try
  abbrev pub Missed : {l : Option T} {t : T} → Flight → Bool → Heard Stray l t → Type 0
  Missed f false h = Unit {0}
  Missed theTry true h = Unit {0}
  Missed theAnswer true in_flight = ⊥
  Missed theAnswer true (stray e) = Unit {0}
  Missed another true h = Unit {0}

module _ (P : Pair) where
  -- a buffer with room
  pub record Wide : Type 0 where
    pub room : P.Room
    pub is_enough : P.enough room ≡ true

  -- an answer at once: "an answer of at most 246 bytes with 255 bytes of room"
  pub record Prompt : Type 0 where
    pub bytes : Bytes
    pub is_answerable : P.answerable bytes ≡ true
    pub into : Wide

  -- the answer at once, where the call before handed an order up
  abbrev pub answers_at_once : Prompt → Told Bytes → State P → State P
  answers_at_once p refused s = s
  answers_at_once p nothing s = s
  answers_at_once p (tells q) s = step P s (answers p.into.room p.bytes)

  -- the line does not lose what is in flight to the responder: it is heard with room, and an order handed up is
  -- answered at once
  abbrev pub reaches_responder : Wide → Prompt → Option P.Telegram → State P → State P
  reaches_responder w p none s = s
  reaches_responder w p (some t) s =
      answers_at_once p (P.responder_hear s.responder w.room t).says (step P s (responder_hears w.room t))

  -- the line does not lose what is in flight to the initiator: it is heard with room
  abbrev pub reaches_initiator : Wide → Option P.Telegram → State P → State P
  reaches_initiator w none s = s
  reaches_initiator w (some t) s = step P s (initiator_hears w.room t)

  -- "the line loses neither the … try nor what is written in answer, each heard with room": where an end wrote
  -- nothing, nothing is heard
  abbrev pub passes : Wide → Prompt → Wide → State P → State P
  passes w p v s = let r = reaches_responder w p s.line s in reaches_initiator v r.line r

  -- What happens between two tries, as the line and the callers have it: silence reported without room, orders
  -- submitted, anything that the line may bring to either end, answers to older orders. An order handed up then is
  -- answered at once. Only a try that passes both ways is left out.
  pub data Between : Flight → State P → State P → Type 0 where
    over : {f : Flight} {s : State P} → Between f s s
    silent_short :
        {f : Flight} {s z : State P} (room : P.Room) → P.enough room ≡ false → Between another (step P s (silent room)) z
        → Between f s z
    submits_beside :
        {f : Flight} {s z : State P} (room : P.Room) (q : Bytes) → Between another (step P s (submits room q)) z → Between f s z
    initiator_misses :
        {f : Flight} {s z : State P} (room : P.Room) (t : P.Telegram) (h : Lawful P s (initiator_hears room t))
        → Missed f (P.enough room) h → Between another (step P s (initiator_hears room t)) z → Between f s z
    responder_attends :
        {f : Flight} {s z : State P} (room : P.Room) (t : P.Telegram) (h : Lawful P s (responder_hears room t))
        → Silent (P.responder_hear s.responder room t).says → Between (answer_to f h) (step P s (responder_hears room t)) z
        → Between f s z
    responder_serves :
        {f : Flight} {s z : State P} (room : P.Room) (t : P.Telegram) (h : Lawful P s (responder_hears room t)) (q : Bytes)
        → (P.responder_hear s.responder room t).says ≡ tells q → (p : Prompt)
        → Between (answer_to f h) (step P (step P s (responder_hears room t)) (answers p.into.room p.bytes)) z → Between f s z
    answers_late :
        {f : Flight} {s z : State P} (room : P.Room) (p : Bytes) → Between another (step P s (answers room p)) z → Between f s z

  -- a phase in which the k-th try passes: "silence is reported, with room, k - 1 times, and then the line loses
  -- neither the k-th try nor what is written in answer"
  pub data Tried : ℕ → State P → State P → Type 0 where
    passed : {s : State P} (w : Wide) (p : Prompt) (v : Wide) → Tried 1 s (passes w p v s)
    again :
        {k : ℕ} {s m z : State P} → Between theTry s m → (w : Wide) → Tried k (step P m (silent w.room)) z
        → Tried (suc k) s z

  -- "for some k from 1 to the tries"
  pub record Phase (s z : State P) : Type 0 where
    pub k : ℕ
    pub from_one : 1 ≤ k
    pub to_tries : k ≤ s.tries
    pub tried : Tried k s z

  -- "one permitted try of the opening and one of the order pass both ways", "in each phase that is reached": the
  -- opening's phase where an opening was written on submitting, then the order's
  pub data Phases : Sent → State P → State P → Type 0 where
    opens_first : {s m z : State P} → Phase s m → Phase m z → Phases openingSent s z
    order_at_once : {s z : State P} → Phase s z → Phases orderSent s z
    says_nothing : {s z : State P} → Phase s z → Phases nothingSent s z

  -- The last sentence of demand 3, after any run: an order is submitted and accepted, neither end has restarted since
  -- the opening began, the cabinet answers at once, and one try passes in each phase; then the order is confirmed. What
  -- is refused is no order.
  abbrev pub Live : State P → Type 0
  Live s =
      (room : P.Room) (q : Bytes) (z : State P) → Accepted (P.submit s.initiator room q).says
      → (step P s (submits room q)).unbroken ≡ true
      → Phases (sent_of P (P.submit s.initiator room q).writes) (step P s (submits room q)) z
      → Confirmed (length (entries_of s.past)) z.past

  -- After any run an order of "1 to 246 bytes", submitted with room and with none pending, is accepted. With which number
  -- any other is refused is the promise of the call and not demand 3's.
  abbrev pub Takes : State P → Type 0
  Takes s =
      (room : P.Room) (q : Bytes) → P.enough room ≡ true → P.orderable q ≡ true → any_pending (entries_of s.past) ≡ false
      → Accepted (P.submit s.initiator room q).says
