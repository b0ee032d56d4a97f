-- Document 01's trap: "Letting an opening, which is new each time, carry an order". There is one telegram, which
-- opens and orders at once; the cabinet hands up whatever it carries, and its answer confirms the order.
use Prim.Native.Nat.{ℕ, suc}
use mathlib.Core.Bool.{Bool, true, false}
use mathlib.Core.List.{[], ◌∷◌}
use mathlib.Core.Option.{none, some}
use Rattle.demand_3.specs.Turns.{Bytes, Outcome, confirmed, not_sent, nothing, tells, Turn, refusing, ignoring}
use Rattle.link_model.specs.Initiator.{Initiator, Phase, closed, ready, opening_phase, order_phase, new_initiator, try_left}
use Rattle.demand_3.specs.Demand.{Demand}
use Rattle.link_model.specs.Ours.{AnyInitiator, initiator_by, AnyResponder, responder_by}
use Rattle.link_model.proofs.Scenes.{order, silence, to_cabinet, P, unsafe}
use Rattle.link_model.proofs.Wrong.Tools.{one_try, two_tries, done_twice, sent_yet}

pub data Letter : Type 0 where
  carries : Bytes → Letter
  confirms : Bytes → Letter

abbrev opens : Letter → Bool
opens (carries q) = true
opens (confirms p) = false

abbrev CarryingTurn : Type 0
CarryingTurn = Turn Initiator Letter Outcome

abbrev sends_opening : ℕ → Bytes → ℕ → CarryingTurn
sends_opening n q k = record { next = record { tries = n; phase = opening_phase q k }; writes = some (carries q); says = nothing }

abbrev stops : ℕ → Outcome → CarryingTurn
stops n o = record { next = new_initiator n; writes = none; says = tells o }

abbrev submit : Initiator → Phase → Bytes → CarryingTurn
submit i closed q = sends_opening i.tries q 1
submit i (ready b) q = sends_opening i.tries q 1
submit i (opening_phase p k) q = refusing i
submit i (order_phase b p k) q = refusing i

abbrev again : Bool → Initiator → Phase → CarryingTurn
again left i closed = ignoring i
again left i (ready b) = ignoring i
again true i (opening_phase q k) = sends_opening i.tries q (suc k)
again false i (opening_phase q k) = stops i.tries (not_sent k)
again left i (order_phase b p k) = ignoring i

abbrev hear : Initiator → Phase → Letter → CarryingTurn
hear i closed m = ignoring i
hear i (ready b) m = ignoring i
hear i (opening_phase q k) (carries p) = ignoring i
hear i (opening_phase q k) (confirms p) = stops i.tries (confirmed p k)
hear i (order_phase b p k) m = ignoring i

abbrev carrying_head : AnyInitiator Letter
carrying_head =
    initiator_by new_initiator (λ i q. submit i i.phase q) (λ i. again (try_left i.tries i.phase) i i.phase)
    (λ i m. hear i i.phase m) (λ i. again false i i.phase)

-- the cabinet knows only whether it owes an answer
abbrev attend : Bool → Letter → Turn Bool Letter Bytes
attend owed (carries q) = record { next = true; writes = none; says = tells q }
attend owed (confirms p) = ignoring owed

abbrev answer : Bool → Bytes → Turn Bool Letter Bytes
answer true p = record { next = false; writes = some (confirms p); says = nothing }
answer false p = refusing false

abbrev carrying_cabinet : AnyResponder Letter
carrying_cabinet = responder_by false attend answer (λ r. false)

-- a lost answer, and the order is carried out twice
pub an_opening_that_carries_the_order : Demand (P opens carrying_head carrying_cabinet) → ⊥
an_opening_that_carries_the_order =
    unsafe opens carrying_head carrying_cabinet 2 two_tries (order (1 ∷ []) ∷ to_cabinet ∷ silence ∷ to_cabinet ∷ []) done_twice

-- and it is reported not sent though it was carried out
pub an_opening_not_sent_though_carried_out : Demand (P opens carrying_head carrying_cabinet) → ⊥
an_opening_not_sent_though_carried_out =
    unsafe opens carrying_head carrying_cabinet 1 one_try (order (1 ∷ []) ∷ to_cabinet ∷ silence ∷ []) sent_yet
