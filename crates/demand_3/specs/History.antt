-- What has happened in a run, as demand 3 speaks of it: the orders, latest first, with their carryings-out and their
-- outcomes. It is made from the calls and their answers alone, whatever the ends' records are.
use Rattle.std.specs.Prelude.{ℕ, suc, Bool, true, false, List, [], ◌∷◌, map}
use Rattle.demand_3.specs.Turns.{Bytes, Outcome, Told, refused, nothing, tells}

-- the reply to an order that was handed up: "the first answer accepted after it was handed up and before the next opening"
pub data Given : Type 0 where
  awaited : Given
  made : Bytes → Given
  dropped : Given

-- a handing up, which is a carrying out: the bytes handed up, and the reply
pub data HandUp : Type 0 where
  hand_up : Bytes → Given → HandUp

-- what the application of the head end knows of an order
pub data Report : Type 0 where
  pending : Report
  -- pending for ever: the initiator's record was made anew
  abandoned : Report
  ended : Outcome → Report

-- an order submitted: its bytes, its carryings-out, what was reported of it, and how many telegrams the initiator
-- wrote for it in the opening's phase and in the order's
pub data Entry : Type 0 where
  entry : Bytes → List HandUp → Report → ℕ → ℕ → Entry

-- the orders, latest first; the bytes of every handing up, latest first; and whether ever an outcome was reported
-- with no order pending
pub data History : Type 0 where
  history : List Entry → List Bytes → Bool → History

-- nothing has happened yet
abbrev pub no_history : History
no_history = history [] [] false

-- an order is accepted: it is the latest one from now on
abbrev pub submitted : Told Outcome → Bytes → History → History
submitted refused q h = h
submitted nothing q (history es cs x) = history (entry q [] pending 0 0 ∷ es) cs x
submitted (tells o) q (history es cs x) = history (entry q [] pending 0 0 ∷ es) cs x

-- what the initiator wrote in a call
pub data Sent : Type 0 where
  nothingSent openingSent orderSent : Sent

-- the telegrams of the latest order are counted by phase
abbrev pub counted : Sent → History → History
counted nothingSent h = h
counted openingSent (history [] cs x) = history [] cs x
counted openingSent (history (entry q u r o n ∷ es) cs x) = history (entry q u r (suc o) n ∷ es) cs x
counted orderSent (history [] cs x) = history [] cs x
counted orderSent (history (entry q u r o n ∷ es) cs x) = history (entry q u r o (suc n) ∷ es) cs x

-- an outcome is reported: of the latest order, which must be pending
abbrev pub outcome : Outcome → History → History
outcome t (history [] cs x) = history [] cs true
outcome t (history (entry q u pending o n ∷ es) cs x) = history (entry q u (ended t) o n ∷ es) cs x
outcome t (history (entry q u abandoned o n ∷ es) cs x) = history (entry q u abandoned o n ∷ es) cs true
outcome t (history (entry q u (ended r) o n ∷ es) cs x) = history (entry q u (ended r) o n ∷ es) cs true

-- what a call of the initiator tells
abbrev pub reported : Told Outcome → History → History
reported refused h = h
reported nothing h = h
reported (tells t) h = outcome t h

-- the initiator's record is made anew: "a restart whose pending order stays pending"
abbrev pub left_pending : History → History
left_pending (history [] cs x) = history [] cs x
left_pending (history (entry q u pending o n ∷ es) cs x) = history (entry q u abandoned o n ∷ es) cs x
left_pending (history (entry q u abandoned o n ∷ es) cs x) = history (entry q u abandoned o n ∷ es) cs x
left_pending (history (entry q u (ended r) o n ∷ es) cs x) = history (entry q u (ended r) o n ∷ es) cs x

-- An order is handed up. It counts for the latest order: but for restarts, the telegram heard was written in the call
-- before, so no order was submitted since. An end that carries an older order out late is not let off by that: the bytes are then
-- another order's, and that they are the latest one's is a clause of the demand.
abbrev pub handed_up : Bytes → History → History
handed_up p (history [] cs x) = history [] (p ∷ cs) x
handed_up p (history (entry q u r o n ∷ es) cs x) = history (entry q (hand_up p awaited ∷ u) r o n ∷ es) (p ∷ cs) x

-- what a call of the responder tells
abbrev pub noted : Told Bytes → History → History
noted refused h = h
noted nothing h = h
noted (tells p) h = handed_up p h

-- what becomes of the replies that are still awaited
abbrev pub settled : Given → HandUp → HandUp
settled g (hand_up p awaited) = hand_up p g
settled g (hand_up p (made r)) = hand_up p (made r)
settled g (hand_up p dropped) = hand_up p dropped

abbrev pub settled_in : Given → Entry → Entry
settled_in g (entry q u r o n) = entry q (map (settled g) u) r o n

abbrev pub settled_all : Given → History → History
settled_all g (history es cs x) = history (map (settled_in g) es) cs x

-- an answer is accepted: it is the reply to each order that was handed up and awaits its reply
abbrev pub answered : Told Bytes → Bytes → History → History
answered refused p h = h
answered nothing p h = settled_all (made p) h
answered (tells q) p h = settled_all (made p) h

-- the responder hears an opening, in a call that is not refused: no later answer is the reply to an earlier order
abbrev pub opening_heard : Told Bytes → Bool → History → History
opening_heard refused first h = h
opening_heard nothing false h = h
opening_heard nothing true h = settled_all dropped h
opening_heard (tells p) false h = h
opening_heard (tells p) true h = settled_all dropped h
