-- Document 01, "Initiator": the head end's rules, on messages.
use Rattle.std.specs.Prelude.{ℕ, suc, ltb, Bool, true, false}
use Rattle.std.proofs.Math.Option.{none, some}
use Rattle.link_model.specs.Messages.{Bit, low, cycled, Message, opening, ok, order, reply, other}
use Rattle.demand_3.specs.Turns.{Bytes, Outcome, confirmed, not_sent, unknown, nothing, tells, Turn, refusing, ignoring}

-- where the initiator stands
pub data Phase : Type 0 where
  -- nothing pending, closed with First
  closed : Phase
  -- nothing pending, open: the bit that the next order takes
  ready : Bit → Phase
  -- the opening's phase: the pending order, and the telegrams written in the phase
  opening_phase : Bytes → ℕ → Phase
  -- the order's phase: the order's bit, the pending order, and the telegrams written in the phase
  order_phase : Bit → Bytes → ℕ → Phase

-- the tries of the link, and where it stands
pub record Initiator : Type 0 where
  pub tries : ℕ
  pub phase : Phase

-- a call of the initiator: it may write a message, and may tell an outcome
abbrev pub InitiatorTurn : Type 0
InitiatorTurn = Turn Initiator Message Outcome

-- closed with First when new
abbrev pub new_initiator : ℕ → Initiator
new_initiator n = record { tries = n; phase = closed }

-- the next phase with the telegram written in it
abbrev pub goes_on : ℕ → Phase → Message → InitiatorTurn
goes_on n p m = record { next = record { tries = n; phase = p }; writes = some m; says = nothing }

-- the pending order's outcome is reported
abbrev pub ends : ℕ → Phase → Outcome → InitiatorTurn
ends n p o = record { next = record { tries = n; phase = p }; writes = none; says = tells o }

-- "Submitting sends the opening if closed, else the order"; with an order pending it is refused
abbrev pub submit_in : ℕ → Phase → Bytes → InitiatorTurn
submit_in n closed q = goes_on n (opening_phase q 1) opening
submit_in n (ready b) q = goes_on n (order_phase b q 1) (order b q)
submit_in n (opening_phase p k) q = refusing (record { tries = n; phase = opening_phase p k })
submit_in n (order_phase b p k) q = refusing (record { tries = n; phase = order_phase b p k })

-- "Silence reported: the same telegram again, until the tries of that phase are used; then not sent (opening) or
-- unknown (order, and closed with First)"; with nothing pending it is ignored. The test says whether a try is left.
abbrev pub silence_in : Bool → ℕ → Phase → InitiatorTurn
silence_in left n closed = ignoring (record { tries = n; phase = closed })
silence_in left n (ready b) = ignoring (record { tries = n; phase = ready b })
silence_in true n (opening_phase q k) = goes_on n (opening_phase q (suc k)) opening
silence_in false n (opening_phase q k) = ends n closed (not_sent k)
silence_in true n (order_phase b q k) = goes_on n (order_phase b q (suc k)) (order b q)
silence_in false n (order_phase b q k) = ends n closed (unknown k)

-- is a try of the phase left
abbrev pub try_left : ℕ → Phase → Bool
try_left n closed = false
try_left n (ready b) = false
try_left n (opening_phase q k) = ltb k n
try_left n (order_phase b q k) = ltb k n

-- "Awaited reply …: cycle (First to Low); after an opening send the order, after an order confirmed, showing the
-- reply. All else is ignored"
abbrev pub hear_in : ℕ → Phase → Message → InitiatorTurn
hear_in n closed m = ignoring (record { tries = n; phase = closed })
hear_in n (ready b) m = ignoring (record { tries = n; phase = ready b })
hear_in n (opening_phase q k) opening = ignoring (record { tries = n; phase = opening_phase q k })
hear_in n (opening_phase q k) ok = goes_on n (order_phase low q 1) (order low q)
hear_in n (opening_phase q k) (order b p) = ignoring (record { tries = n; phase = opening_phase q k })
hear_in n (opening_phase q k) (reply p) = ignoring (record { tries = n; phase = opening_phase q k })
hear_in n (opening_phase q k) other = ignoring (record { tries = n; phase = opening_phase q k })
hear_in n (order_phase b q k) opening = ignoring (record { tries = n; phase = order_phase b q k })
hear_in n (order_phase b q k) ok = ignoring (record { tries = n; phase = order_phase b q k })
hear_in n (order_phase b q k) (order c p) = ignoring (record { tries = n; phase = order_phase b q k })
hear_in n (order_phase b q k) (reply p) = ends n (ready (cycled b)) (confirmed p k)
hear_in n (order_phase b q k) other = ignoring (record { tries = n; phase = order_phase b q k })

-- "Restart reports a pending order as silence at the last try would", and leaves the link closed
abbrev pub restart_in : ℕ → Phase → InitiatorTurn
restart_in n closed = ignoring (new_initiator n)
restart_in n (ready b) = ignoring (new_initiator n)
restart_in n (opening_phase q k) = ends n closed (not_sent k)
restart_in n (order_phase b q k) = ends n closed (unknown k)

-- the four calls
abbrev pub submit_of : Initiator → Bytes → InitiatorTurn
submit_of i q = submit_in i.tries i.phase q

abbrev pub silence_of : Initiator → InitiatorTurn
silence_of i = silence_in (try_left i.tries i.phase) i.tries i.phase

abbrev pub hear_of : Initiator → Message → InitiatorTurn
hear_of i m = hear_in i.tries i.phase m

abbrev pub restart_of : Initiator → InitiatorTurn
restart_of i = restart_in i.tries i.phase
