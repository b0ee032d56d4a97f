-- What an end ignores wherever it stands: what it wrote itself, and what is no message of the link.
use Prim.Native.Nat.{ℕ}
use mathlib.Core.Path.{◌≡◌, refl}
use Rattle.link_model.specs.Messages.{Message, opening, ok, order, reply, other}
use Rattle.demand_3.specs.Turns.{ignoring}
use Rattle.link_model.specs.Initiator.{Phase, closed, ready, opening_phase, order_phase, hear_in}
use Rattle.link_model.specs.Responder.{Row, row_hears}

-- who wrote a message
abbrev pub FromInitiator : Message → Type 0
FromInitiator opening = Unit {0}
FromInitiator ok = ⊥
FromInitiator (order b q) = Unit {0}
FromInitiator (reply p) = ⊥
FromInitiator other = ⊥

abbrev pub FromResponder : Message → Type 0
FromResponder opening = ⊥
FromResponder ok = Unit {0}
FromResponder (order b q) = ⊥
FromResponder (reply p) = Unit {0}
FromResponder other = ⊥

-- an initiator ignores what it wrote itself, and what is no message of the link
pub ignores_own :
    (n : ℕ) (p : Phase) (m : Message) → FromInitiator m → hear_in n p m ≡ ignoring (record { tries = n; phase = p })
ignores_own n closed m y = refl
ignores_own n (ready b) m y = refl
ignores_own n (opening_phase q k) opening y = refl
ignores_own n (opening_phase q k) ok y = absurd y
ignores_own n (opening_phase q k) (order b p) y = refl
ignores_own n (opening_phase q k) (reply p) y = absurd y
ignores_own n (opening_phase q k) other y = absurd y
ignores_own n (order_phase b q k) opening y = refl
ignores_own n (order_phase b q k) ok y = absurd y
ignores_own n (order_phase b q k) (order c p) y = refl
ignores_own n (order_phase b q k) (reply p) y = absurd y
ignores_own n (order_phase b q k) other y = absurd y

pub ignores_other : (n : ℕ) (p : Phase) → hear_in n p other ≡ ignoring (record { tries = n; phase = p })
ignores_other n closed = refl
ignores_other n (ready b) = refl
ignores_other n (opening_phase q k) = refl
ignores_other n (order_phase b q k) = refl

-- a responder ignores what it wrote itself
pub ignores_answers : (r : Row) (m : Message) → FromResponder m → row_hears r m ≡ ignoring r
ignores_answers r opening y = absurd y
ignores_answers r ok y = refl
ignores_answers r (order b q) y = absurd y
ignores_answers r (reply p) y = refl
ignores_answers r other y = absurd y
