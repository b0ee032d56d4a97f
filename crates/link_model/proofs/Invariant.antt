-- The invariant of our two ends: one constructor for each configuration that a run can come to. What makes it last is
-- in three places: the row's bit is the other one as long as the pending order was not handed up (`Ready`), and the
-- pending order's own once it was (`Served`); a reply in flight in the order's phase is the pending order's own
-- (`SentLine`); and the opening's reply is in flight only while the row has dropped what it owed (`AskLine`).
use Prim.Native.Nat.{ℕ, suc}
use mathlib.Core.Bool.{Bool, false}
use mathlib.Core.List.{List, [], ◌∷◌}
use mathlib.Core.Option.{Option, none, some}
use Rattle.link_model.specs.Messages.{Bit, low, high, Message, opening, ok, order, reply}
use Rattle.demand_3.specs.Turns.{Bytes, confirmed, not_sent, unknown}
use Rattle.link_model.specs.Initiator.{Phase, closed, ready, opening_phase, order_phase}
use Rattle.link_model.specs.Responder.{Row, blank, opened, owes, holds}
use Rattle.demand_3.specs.History.{Given, awaited, made, hand_up, Report, pending, abandoned, ended, Entry, entry, History, history}

-- an order that was never handed up: its report, and the telegrams written in its two phases
pub data Never : Report → ℕ → ℕ → Type 0 where
  waits : {o n : ℕ} → Never pending o n
  left : {o n : ℕ} → Never abandoned o n
  unsent : {o : ℕ} → Never (ended (not_sent o)) o 0
  lost : {o n : ℕ} → Never (ended (unknown (suc n))) o (suc n)

-- an order that was handed up once: its report, its reply, and the telegrams written in its two phases
pub data Once : Report → Given → ℕ → ℕ → Type 0 where
  waited : {g : Given} {o n : ℕ} → Once pending g o n
  left_once : {g : Given} {o n : ℕ} → Once abandoned g o n
  shown : {p : Bytes} {o n : ℕ} → Once (ended (confirmed p (suc n))) (made p) o (suc n)
  lost_once : {g : Given} {o n : ℕ} → Once (ended (unknown (suc n))) g o (suc n)

-- an order that the head end has given up: left pending by a record made anew, or reported unknown by a restart
pub data Gone : Report → ℕ → ℕ → Type 0 where
  gone_left : {o n : ℕ} → Gone abandoned o n
  gone_lost : {o n : ℕ} → Gone (ended (unknown (suc n))) o (suc n)

pub gone_never : {r : Report} {o n : ℕ} → Gone r o n → Never r o n
gone_never gone_left = left
gone_never gone_lost = lost

pub gone_once : {r : Report} {g : Given} {o n : ℕ} → Gone r o n → Once r g o n
gone_once gone_left = left_once
gone_once gone_lost = lost_once

-- the orders, and with them all that was handed up
pub data Kept : List Entry → List Bytes → Type 0 where
  empty : Kept [] []
  never :
      {q : Bytes} {r : Report} {o n : ℕ} {es : List Entry} {cs : List Bytes}
      → Never r o n → Kept es cs → Kept (entry q [] r o n ∷ es) cs
  once :
      {q : Bytes} {g : Given} {r : Report} {o n : ℕ} {es : List Entry} {cs : List Bytes}
      → Once r g o n → Kept es cs → Kept (entry q (hand_up q g ∷ []) r o n ∷ es) (q ∷ cs)

-- The row is such that an order under this bit is handed up, if any is stored: the other bit, and nothing owed. The
-- flag says that neither end has restarted since the opening began: then a bit is stored.
pub data Ready : Bool → Bit → Row → Type 0 where
  blank_row : {b : Bit} → Ready false b blank
  just_opened : {u : Bool} → Ready u low opened
  held_high : {u : Bool} {p : Bytes} → Ready u low (holds high p)
  held_low : {u : Bool} {p : Bytes} → Ready u high (holds low p)

-- the row has handed up the order under this bit, whose reply is as given
pub data Served : Bool → Bit → Row → Given → Type 0 where
  forgotten : {b : Bit} {g : Given} → Served false b blank g
  owing : {u : Bool} {b : Bit} → Served u b (owes b) awaited
  holding : {u : Bool} {b : Bit} {p : Bytes} → Served u b (holds b p) (made p)

-- what may be in flight with nothing pending, closed: no order
pub data ClosedLine : Option Message → Type 0 where
  none_c : ClosedLine none
  opening_c : ClosedLine (some opening)
  ok_c : ClosedLine (some ok)
  reply_c : {p : Bytes} → ClosedLine (some (reply p))

-- with nothing pending, open
pub data ReadyLine : Option Message → Type 0 where
  none_r : ReadyLine none
  reply_r : {p : Bytes} → ReadyLine (some (reply p))

-- in the opening's phase
pub data AskLine : Bool → Row → Option Message → Type 0 where
  none_a : {u : Bool} {r : Row} → AskLine u r none
  opening_a : {u : Bool} {r : Row} → AskLine u r (some opening)
  ok_a : {u : Bool} {r : Row} → Ready u low r → AskLine u r (some ok)
  reply_a : {u : Bool} {r : Row} {p : Bytes} → AskLine u r (some (reply p))

-- in the order's phase, the order not handed up
pub data OrderLine : Bit → Bytes → Option Message → Type 0 where
  none_o : {b : Bit} {q : Bytes} → OrderLine b q none
  order_o : {b : Bit} {q : Bytes} → OrderLine b q (some (order b q))

-- in the order's phase, the order handed up and its reply as given
pub data SentLine : Bit → Bytes → Given → Option Message → Type 0 where
  none_s : {b : Bit} {q : Bytes} {g : Given} → SentLine b q g none
  order_s : {b : Bit} {q : Bytes} {g : Given} → SentLine b q g (some (order b q))
  reply_s : {b : Bit} {q p : Bytes} → SentLine b q (made p) (some (reply p))

-- the initiator's phase, the row, what is in flight, the history, and whether neither end has restarted since the
-- opening began
pub data Inv : Phase → Row → Option Message → History → Bool → Type 0 where
  -- nothing pending, closed
  at_rest :
      {r : Row} {l : Option Message} {es : List Entry} {cs : List Bytes} {u : Bool}
      → Kept es cs → ClosedLine l → Inv closed r l (history es cs false) u
  -- the same, with the order in flight that was pending before a restart or a record made anew: not handed up, or once
  left_unserved :
      {b : Bit} {q : Bytes} {t : Report} {o n : ℕ} {r : Row} {es : List Entry} {cs : List Bytes} {u : Bool}
      → Gone t o n → Kept es cs → Ready false b r
      → Inv closed r (some (order b q)) (history (entry q [] t o n ∷ es) cs false) u
  left_served :
      {b : Bit} {q : Bytes} {g : Given} {t : Report} {o n : ℕ} {r : Row} {es : List Entry} {cs : List Bytes} {u : Bool}
      → Gone t o n → Kept es cs → Served false b r g
      → Inv closed r (some (order b q)) (history (entry q (hand_up q g ∷ []) t o n ∷ es) (q ∷ cs) false) u
  -- nothing pending, open
  at_ready :
      {b : Bit} {r : Row} {l : Option Message} {es : List Entry} {cs : List Bytes} {u : Bool}
      → Kept es cs → Ready u b r → ReadyLine l → Inv (ready b) r l (history es cs false) u
  -- the opening's phase
  at_asking :
      {q : Bytes} {k : ℕ} {r : Row} {l : Option Message} {es : List Entry} {cs : List Bytes} {u : Bool}
      → Kept es cs → AskLine u r l
      → Inv (opening_phase q (suc k)) r l (history (entry q [] pending (suc k) 0 ∷ es) cs false) u
  -- the order's phase, the order not handed up, or once
  unserved :
      {b : Bit} {q : Bytes} {o k : ℕ} {r : Row} {l : Option Message} {es : List Entry} {cs : List Bytes} {u : Bool}
      → Kept es cs → Ready u b r → OrderLine b q l
      → Inv (order_phase b q (suc k)) r l (history (entry q [] pending o (suc k) ∷ es) cs false) u
  served :
      {b : Bit} {q : Bytes} {g : Given} {o k : ℕ} {r : Row} {l : Option Message} {es : List Entry} {cs : List Bytes} {u : Bool}
      → Kept es cs → Served u b r g → SentLine b q g l
      → Inv (order_phase b q (suc k)) r l (history (entry q (hand_up q g ∷ []) pending o (suc k) ∷ es) (q ∷ cs) false) u
