-- Wrong head ends beside our cabinet: each is ours but for one rule.
use Prim.Native.Nat.{ℕ, suc, pred}
use mathlib.Core.Bool.{Bool, true, false}
use mathlib.Core.List.{List, [], ◌∷◌}
use mathlib.Core.Option.{none, some}
use mathlib.Core.Path.{refl}
use Rattle.link_model.specs.Messages.{low, high, cycled, Message, opening, ok, order, reply, other, is_opening}
use Rattle.demand_3.specs.Turns.{Bytes, Outcome, confirmed, not_sent, unknown, Told, refused, nothing, tells, Turn, refusing}
use Rattle.link_model.specs.Initiator.{Initiator, InitiatorTurn, Phase, closed, ready, opening_phase, order_phase, new_initiator, goes_on, ends as reports, submit_of, silence_of, hear_of, restart_of}
use Rattle.demand_3.specs.Safe.{tries_of, Safe}
use Rattle.demand_3.specs.Demand.{Demand}
use Rattle.link_model.specs.Ours.{AnyInitiator, initiator_by, our_initiator, our_responder}
use Rattle.link_model.proofs.Scenes.{Doing, order as orders, silence, head_restarts, answer, to_cabinet, to_head, short_head, whole, andRefused, andEchoed, andOrdered, P, ends, unsafe, untaken, unopened, unanswered, unwritten}
use Rattle.link_model.proofs.Wrong.Tools.{one_try, two_tries, never_done, done_twice, sent_yet, other_reply, other_tries, second_outcome}

-- the demand is refuted for this head end
abbrev Refuted : AnyInitiator Message → Type 0
Refuted h = Demand (P is_opening h our_responder) → ⊥

-- head ends that are wrong in one call
abbrev submitting : (Initiator → Bytes → InitiatorTurn) → AnyInitiator Message
submitting f = initiator_by new_initiator f silence_of hear_of restart_of

abbrev hushing : (Initiator → InitiatorTurn) → AnyInitiator Message
hushing f = initiator_by new_initiator submit_of f hear_of restart_of

abbrev hearing : (Initiator → Message → InitiatorTurn) → AnyInitiator Message
hearing f = initiator_by new_initiator submit_of silence_of f restart_of

abbrev restarting : (Initiator → InitiatorTurn) → AnyInitiator Message
restarting f = initiator_by new_initiator submit_of silence_of hear_of f

-- our turn, but where it reports an outcome, the phase and the outcome are these
abbrev instead_of : Told Outcome → (Outcome → InitiatorTurn) → InitiatorTurn → InitiatorTurn
instead_of refused f t = t
instead_of nothing f t = t
instead_of (tells o) f t = f o

abbrev reporting : (Initiator → Outcome → Phase) → (Initiator → Outcome → Outcome) → Initiator → InitiatorTurn → InitiatorTurn
reporting f g i t = instead_of t.says (λ o. reports i.tries (f i o) (g i o)) t

-- the link is opened and the first order reaches the cabinet
abbrev first : List Doing → List Doing
first ds = orders (1 ∷ []) ∷ to_cabinet ∷ to_head ∷ to_cabinet ∷ ds

-- then a second order is sent and its answer heard
abbrev second : List Doing
second = orders (2 ∷ []) ∷ to_cabinet ∷ to_head ∷ []

-- scenes that lead to a history which is not safe, with one try and with two
fails : (h : AnyInitiator Message) (ds : List Doing) → (Safe (ends is_opening h our_responder 2 ds).past → ⊥) → Refuted h
fails h ds bad = unsafe is_opening h our_responder 2 two_tries ds bad

fails_at_once : (h : AnyInitiator Message) (ds : List Doing) → (Safe (ends is_opening h our_responder 1 ds).past → ⊥) → Refuted h
fails_at_once h ds bad = unsafe is_opening h our_responder 1 one_try ds bad

-- it confirms on submitting
abbrev confirms_at_once : AnyInitiator Message
confirms_at_once = submitting (λ i q. reports i.tries closed (confirmed [] 0))

pub confirms_on_submitting : Refuted confirms_at_once
confirms_on_submitting = fails confirms_at_once (orders (1 ∷ []) ∷ []) never_done

-- it reports unknown on submitting
abbrev unknown_at_once : AnyInitiator Message
unknown_at_once = submitting (λ i q. record { next = i; writes = some opening; says = tells (unknown 1) })

pub unknown_on_submitting : Refuted unknown_at_once
unknown_on_submitting = unopened is_opening unknown_at_once our_responder 2 two_tries [] (1 ∷ []) (7 ∷ []) [] [] tt refl refl tt tt (λ x. x)

-- it always reports unknown where it should confirm
abbrev always_unknown : AnyInitiator Message
always_unknown = hearing (λ i m. reporting (λ i o. closed) (λ i o. unknown (tries_of o)) i (hear_of i m))

pub always_unknown_lem : Refuted always_unknown
always_unknown_lem = unopened is_opening always_unknown our_responder 2 two_tries [] (1 ∷ []) (7 ∷ []) [] [] tt refl refl tt tt (λ x. x)

-- it invents the tries: the limit in place of the telegrams written
abbrev invents_tries : AnyInitiator Message
invents_tries = hearing (λ i m. reporting (λ i o. ready high) (λ i o. confirmed (7 ∷ []) i.tries) i (hear_of i m))

pub invents_the_tries : Refuted invents_tries
invents_the_tries = fails invents_tries (first (answer (7 ∷ []) ∷ to_head ∷ [])) (other_tries tt)

-- it keeps its bit over a restart
abbrev stays_open : Phase → Phase
stays_open closed = closed
stays_open (ready b) = ready b
stays_open (opening_phase q k) = closed
stays_open (order_phase b q k) = ready b

abbrev keeps_bit : AnyInitiator Message
keeps_bit =
    restarting
    (λ i. record { next = record { tries = i.tries; phase = stays_open i.phase }; writes = none; says = (restart_of i).says })

pub keeps_its_bit_over_a_restart : Refuted keeps_bit
keeps_its_bit_over_a_restart = fails keeps_bit (first (answer (7 ∷ []) ∷ head_restarts ∷ second)) never_done

-- it stays open after unknown, with the same bit, and with the cycled one
abbrev stays_same : AnyInitiator Message
stays_same = hushing (λ i. reporting (λ i o. stays_open i.phase) (λ i o. o) i (silence_of i))

pub same_bit_after_unknown : Refuted stays_same
same_bit_after_unknown = fails_at_once stays_same (first (answer (7 ∷ []) ∷ silence ∷ second)) never_done

abbrev cycled_phase : Phase → Phase
cycled_phase closed = closed
cycled_phase (ready b) = ready (cycled b)
cycled_phase (opening_phase q k) = opening_phase q k
cycled_phase (order_phase b q k) = order_phase (cycled b) q k

abbrev stays_cycled : AnyInitiator Message
stays_cycled = hushing (λ i. reporting (λ i o. cycled_phase (stays_open i.phase)) (λ i o. o) i (silence_of i))

pub cycled_bit_after_unknown : Refuted stays_cycled
cycled_bit_after_unknown =
    unanswered is_opening stays_cycled our_responder 1 one_try (orders (1 ∷ []) ∷ to_cabinet ∷ to_head ∷ silence ∷ []) (2 ∷ []) (7 ∷ []) [] tt refl refl
    tt (λ x. x)

-- it does not cycle after a confirmed order
abbrev never_cycles : AnyInitiator Message
never_cycles = hearing (λ i m. reporting (λ i o. stays_open i.phase) (λ i o. o) i (hear_of i m))

pub never_cycles_lem : Refuted never_cycles
never_cycles_lem = fails never_cycles (first (answer (7 ∷ []) ∷ to_head ∷ second)) never_done

-- it reports not sent where the order's tries are used, and on every restart
abbrev tells_not_sent : AnyInitiator Message
tells_not_sent = hushing (λ i. reporting (λ i o. closed) (λ i o. not_sent (tries_of o)) i (silence_of i))

pub not_sent_though_carried_out : Refuted tells_not_sent
not_sent_though_carried_out = fails_at_once tells_not_sent (first (silence ∷ [])) sent_yet

abbrev restarts_not_sent : AnyInitiator Message
restarts_not_sent = restarting (λ i. reporting (λ i o. closed) (λ i o. not_sent (tries_of o)) i (restart_of i))

pub not_sent_on_every_restart : Refuted restarts_not_sent
not_sent_on_every_restart = fails restarts_not_sent (first (head_restarts ∷ [])) sent_yet

-- it cycles the bit when it repeats the order
abbrev again_cycled : Phase → InitiatorTurn → InitiatorTurn
again_cycled closed t = t
again_cycled (ready b) t = t
again_cycled (opening_phase q k) t = t
again_cycled (order_phase b q k) t = goes_on t.next.tries (order_phase (cycled b) q (suc k)) (order (cycled b) q)

abbrev repeats_cycled : AnyInitiator Message
repeats_cycled = hushing (λ i. again_cycled i.phase (silence_of i))

pub cycles_on_repeating : Refuted repeats_cycled
cycles_on_repeating = fails repeats_cycled (first (silence ∷ to_cabinet ∷ [])) done_twice

-- it sends the order at the opening's first silence
abbrev sends_unopened : Phase → InitiatorTurn → InitiatorTurn
sends_unopened closed t = t
sends_unopened (ready b) t = t
sends_unopened (opening_phase q k) t = goes_on t.next.tries (order_phase low q 1) (order low q)
sends_unopened (order_phase b q k) t = t

abbrev opens_not : AnyInitiator Message
opens_not = hushing (λ i. sends_unopened i.phase (silence_of i))

pub sends_without_the_openings_reply : Refuted opens_not
sends_without_the_openings_reply =
    unopened is_opening opens_not our_responder 2 two_tries [] (1 ∷ []) (7 ∷ []) (whole ∷ []) [] tt refl refl tt tt (λ x. x)

-- what it does with the opening's reply. It confirms at once; it counts the tries of both phases
-- together; it cycles First to High
abbrev on_ok : (ℕ → Bytes → ℕ → InitiatorTurn) → Phase → Message → InitiatorTurn → InitiatorTurn
on_ok f closed m t = t
on_ok f (ready b) m t = t
on_ok f (opening_phase q k) opening t = t
on_ok f (opening_phase q k) ok t = f t.next.tries q k
on_ok f (opening_phase q k) (order b p) t = t
on_ok f (opening_phase q k) (reply p) t = t
on_ok f (opening_phase q k) other t = t
on_ok f (order_phase b q k) m t = t

abbrev at_ok : (ℕ → Bytes → ℕ → InitiatorTurn) → AnyInitiator Message
at_ok f = hearing (λ i m. on_ok f i.phase m (hear_of i m))

pub confirms_on_the_openings_reply : Refuted (at_ok (λ n q k. reports n (ready low) (confirmed [] k)))
confirms_on_the_openings_reply = fails (at_ok (λ n q k. reports n (ready low) (confirmed [] k))) (orders (1 ∷ []) ∷ to_cabinet ∷ to_head ∷ []) never_done

pub counts_both_phases_together : Refuted (at_ok (λ n q k. goes_on n (order_phase low q (suc k)) (order low q)))
counts_both_phases_together =
    unopened is_opening (at_ok (λ n q k. goes_on n (order_phase low q (suc k)) (order low q))) our_responder 2 two_tries [] (1 ∷ []) (7 ∷ []) (whole ∷ []) (whole ∷ []) tt refl refl tt tt (λ x. x)

pub cycles_first_to_high : Refuted (at_ok (λ n q k. goes_on n (order_phase high q 1) (order high q)))
cycles_first_to_high = unopened is_opening (at_ok (λ n q k. goes_on n (order_phase high q 1) (order high q))) our_responder 2 two_tries [] (1 ∷ []) (7 ∷ []) [] [] tt refl refl tt tt (λ x. x)

-- it takes an order's reply for the opening's
abbrev as_ok : Phase → Initiator → Message → InitiatorTurn
as_ok closed i m = hear_of i m
as_ok (ready b) i m = hear_of i m
as_ok (opening_phase q k) i opening = hear_of i opening
as_ok (opening_phase q k) i ok = hear_of i ok
as_ok (opening_phase q k) i (order b p) = hear_of i (order b p)
as_ok (opening_phase q k) i (reply p) = hear_of i ok
as_ok (opening_phase q k) i other = hear_of i other
as_ok (order_phase b q k) i m = hear_of i m

pub takes_a_reply_for_the_openings : Refuted (hearing (λ i m. as_ok i.phase i m))
takes_a_reply_for_the_openings =
    fails (hearing (λ i m. as_ok i.phase i m)) (first (head_restarts ∷ orders (2 ∷ []) ∷ answer (7 ∷ []) ∷ to_head ∷ to_cabinet ∷ to_head ∷ [])) never_done

-- it gives up one telegram too early
abbrev one_too_few : AnyInitiator Message
one_too_few = initiator_by (λ n. new_initiator (pred n)) submit_of silence_of hear_of restart_of

pub one_telegram_too_few : Refuted one_too_few
one_telegram_too_few = unopened is_opening one_too_few our_responder 2 two_tries [] (1 ∷ []) (7 ∷ []) (whole ∷ []) [] tt refl refl tt tt (λ x. x)

-- it takes a second order while one is pending, and sends it in its place
abbrev replaces : Initiator → Phase → Bytes → InitiatorTurn
replaces i closed q = submit_of i q
replaces i (ready b) q = submit_of i q
replaces i (opening_phase p k) q = submit_of i q
replaces i (order_phase b p k) q = goes_on i.tries (order_phase b q 1) (order b q)

abbrev takes_second : AnyInitiator Message
takes_second = submitting (λ i q. replaces i i.phase q)

pub second_order_while_one_is_pending : Refuted takes_second
second_order_while_one_is_pending = fails takes_second (first (answer (7 ∷ []) ∷ second)) never_done

-- the same in the opening's phase: the first order is never sent
abbrev replaces_asked : Initiator → Phase → Bytes → InitiatorTurn
replaces_asked i closed q = submit_of i q
replaces_asked i (ready b) q = submit_of i q
replaces_asked i (opening_phase p k) q = goes_on i.tries (opening_phase q k) opening
replaces_asked i (order_phase b p k) q = submit_of i q

pub second_order_in_the_openings_phase : Refuted (submitting (λ i q. replaces_asked i i.phase q))
second_order_in_the_openings_phase =
    unopened is_opening (submitting (λ i q. replaces_asked i i.phase q)) our_responder 2 two_tries [] (1 ∷ []) (7 ∷ []) (andOrdered (2 ∷ []) ∷ []) [] tt refl refl tt tt (λ x. x)

-- it hears its own order as a reply; and it gives up when it hears its own opening
abbrev hears_own : (ℕ → ℕ → InitiatorTurn) → (ℕ → Bytes → ℕ → InitiatorTurn) → Phase → Message → InitiatorTurn → InitiatorTurn
hears_own f g closed m t = t
hears_own f g (ready b) m t = t
hears_own f g (opening_phase q k) opening t = f t.next.tries k
hears_own f g (opening_phase q k) ok t = t
hears_own f g (opening_phase q k) (order b p) t = t
hears_own f g (opening_phase q k) (reply p) t = t
hears_own f g (opening_phase q k) other t = t
hears_own f g (order_phase b q k) opening t = t
hears_own f g (order_phase b q k) ok t = t
hears_own f g (order_phase b q k) (order c p) t = g t.next.tries p k
hears_own f g (order_phase b q k) (reply p) t = t
hears_own f g (order_phase b q k) other t = t

abbrev takes_own : AnyInitiator Message
takes_own =
    hearing
    (λ i m. hears_own (λ n k. hear_of i m) (λ n p k. reports n (ready high) (confirmed p k)) i.phase m (hear_of i m))

pub own_order_as_a_reply : Refuted takes_own
own_order_as_a_reply = fails takes_own (orders (1 ∷ []) ∷ to_cabinet ∷ to_head ∷ to_head ∷ []) never_done

abbrev gives_up : AnyInitiator Message
gives_up = hearing (λ i m. hears_own (λ n k. reports n closed (not_sent k)) (λ n p k. hear_of i m) i.phase m (hear_of i m))

pub gives_up_on_an_echo : Refuted gives_up
gives_up_on_an_echo = unopened is_opening gives_up our_responder 2 two_tries [] (1 ∷ []) (7 ∷ []) (andEchoed ∷ []) [] tt refl refl tt tt (λ x. x)

-- it reports an outcome at every silence
abbrev tells_again : AnyInitiator Message
tells_again = hushing (λ i. reports i.tries closed (unknown 1))

pub reports_with_nothing_pending : Refuted tells_again
reports_with_nothing_pending = fails tells_again (silence ∷ []) second_outcome

-- it sends an opening at a silence with nothing pending
abbrev opens_idle : Phase → InitiatorTurn → InitiatorTurn
opens_idle closed t = goes_on t.next.tries closed opening
opens_idle (ready b) t = goes_on t.next.tries (ready b) opening
opens_idle (opening_phase q k) t = t
opens_idle (order_phase b q k) t = t

pub opening_with_nothing_pending : Refuted (hushing (λ i. opens_idle i.phase (silence_of i)))
opening_with_nothing_pending =
    unanswered is_opening (hushing (λ i. opens_idle i.phase (silence_of i))) our_responder 2 two_tries (first (answer (7 ∷ []) ∷ to_head ∷ silence ∷ to_cabinet ∷ [])) (2 ∷ []) (8 ∷ []) [] tt refl refl
    tt (λ x. x)

-- a hearing refused for want of room cycles the bit all the same
abbrev hears_short : Initiator → Bool → Message → InitiatorTurn
hears_short i true m = hear_of i m
hears_short i false m = refusing (record { tries = i.tries; phase = cycled_phase i.phase })

abbrev cycles_refused : AnyInitiator Message
cycles_refused =
    record {
      End = Initiator;
      new = new_initiator;
      submit = our_initiator.submit;
      silence = our_initiator.silence;
      hear = hears_short;
      restart = restart_of;
    }

pub refused_hearing_cycles : Refuted cycles_refused
refused_hearing_cycles = fails cycles_refused (first (answer (7 ∷ []) ∷ short_head ∷ silence ∷ to_cabinet ∷ [])) done_twice

-- a silence refused for want of room uses a try
abbrev used : Phase → Phase
used closed = closed
used (ready b) = ready b
used (opening_phase q k) = opening_phase q (suc k)
used (order_phase b q k) = order_phase b q (suc k)

abbrev silent_short : Initiator → Bool → InitiatorTurn
silent_short i true = silence_of i
silent_short i false = refusing (record { tries = i.tries; phase = used i.phase })

abbrev wastes_tries : AnyInitiator Message
wastes_tries =
    record {
      End = Initiator;
      new = new_initiator;
      submit = our_initiator.submit;
      silence = silent_short;
      hear = our_initiator.hear;
      restart = restart_of;
    }

pub refused_silence_uses_a_try : Refuted wastes_tries
refused_silence_uses_a_try =
    unopened is_opening wastes_tries our_responder 2 two_tries [] (1 ∷ []) (7 ∷ []) (andRefused ∷ []) [] tt refl refl tt tt (λ x. x)

-- its reader gives the opening's reply, or one order's reply, for all bytes
pub hears_only_the_openings_reply : Refuted (hearing (λ i m. hear_of i ok))
hears_only_the_openings_reply = unopened is_opening (hearing (λ i m. hear_of i ok)) our_responder 2 two_tries [] (1 ∷ []) (7 ∷ []) [] [] tt refl refl tt tt (λ x. x)

pub hears_only_one_reply : Refuted (hearing (λ i m. hear_of i (reply (9 ∷ []))))
hears_only_one_reply = unopened is_opening (hearing (λ i m. hear_of i (reply (9 ∷ [])))) our_responder 2 two_tries [] (1 ∷ []) (7 ∷ []) [] [] tt refl refl tt tt (λ x. x)

-- it shows the reply of the order before
abbrev Remembering : Type 0
Remembering = Initiator × Bytes

abbrev beside : Bytes → InitiatorTurn → Turn Remembering Message Outcome
beside old t = record { next = (t.next, old); writes = t.writes; says = t.says }

abbrev shows_old : Bytes → Told Outcome → InitiatorTurn → Turn Remembering Message Outcome
shows_old old refused t = beside old t
shows_old old nothing t = beside old t
shows_old old (tells (confirmed p k)) t = record { next = (t.next, p); writes = t.writes; says = tells (confirmed old k) }
shows_old old (tells (not_sent k)) t = beside old t
shows_old old (tells (unknown k)) t = beside old t

abbrev shows_before : AnyInitiator Message
shows_before =
    initiator_by (λ n. (new_initiator n, 0 ∷ [])) (λ i q. beside i.1 (submit_of i.0 q)) (λ i. beside i.1 (silence_of i.0))
    (λ i m. shows_old i.1 (hear_of i.0 m).says (hear_of i.0 m)) (λ i. beside i.1 (restart_of i.0))

pub shows_the_reply_before : Refuted shows_before
shows_the_reply_before = fails shows_before (first (answer (7 ∷ []) ∷ to_head ∷ [])) (other_reply tt)

-- it writes nothing any more once it was restarted
abbrev Marked : Type 0
Marked = Initiator × Bool

abbrev marked : Bool → InitiatorTurn → Turn Marked Message Outcome
marked b t = record { next = (t.next, b); writes = t.writes; says = t.says }

abbrev muted : Bool → InitiatorTurn → Turn Marked Message Outcome
muted true t = record { next = (t.next, true); writes = none; says = t.says }
muted false t = marked false t

abbrev mute_once_restarted : AnyInitiator Message
mute_once_restarted =
    initiator_by (λ n. (new_initiator n, false)) (λ i q. muted i.1 (submit_of i.0 q)) (λ i. muted i.1 (silence_of i.0))
    (λ i m. muted i.1 (hear_of i.0 m)) (λ i. marked true (restart_of i.0))

pub mute_once_restarted_lem : Refuted mute_once_restarted
mute_once_restarted_lem =
    unwritten is_opening mute_once_restarted our_responder 2 two_tries (head_restarts ∷ []) (1 ∷ []) (7 ∷ []) [] tt refl refl tt (λ x. x)

-- it takes no order; none any more once it was restarted; and none on an open link
pub refuses_every_order : Refuted (submitting (λ i q. refusing i))
refuses_every_order d = d.takes 2 two_tries [] tt true (1 ∷ []) refl refl refl

abbrev unless_marked : Bool → Initiator → InitiatorTurn → Turn Marked Message Outcome
unless_marked true i t = refusing (i, true)
unless_marked false i t = marked false t

abbrev refuses_once_restarted : AnyInitiator Message
refuses_once_restarted =
    initiator_by (λ n. (new_initiator n, false)) (λ i q. unless_marked i.1 i.0 (submit_of i.0 q)) (λ i. marked i.1 (silence_of i.0))
    (λ i m. marked i.1 (hear_of i.0 m)) (λ i. marked true (restart_of i.0))

pub refuses_once_restarted_lem : Refuted refuses_once_restarted
refuses_once_restarted_lem = untaken is_opening refuses_once_restarted our_responder 2 two_tries (head_restarts ∷ []) (1 ∷ []) refl (λ x. x)

abbrev when_closed : Phase → Initiator → Bytes → InitiatorTurn
when_closed closed i q = submit_of i q
when_closed (ready b) i q = refusing i
when_closed (opening_phase p k) i q = submit_of i q
when_closed (order_phase b p k) i q = submit_of i q

pub refuses_on_an_open_link : Refuted (submitting (λ i q. when_closed i.phase i q))
refuses_on_an_open_link =
    untaken is_opening (submitting (λ i q. when_closed i.phase i q)) our_responder 2 two_tries (first (answer (7 ∷ []) ∷ to_head ∷ [])) (2 ∷ []) refl (λ x. x)

-- restarted in the opening's phase it reports not sent, and yet sends the order when the opening's reply, in flight all the
-- while, is heard; else it is as if closed
abbrev awaits_yet : Bool → Phase → Initiator → Turn Marked Message Outcome
awaits_yet true p i = record { next = (i, true); writes = none; says = nothing }
awaits_yet false closed i = marked false (restart_of i)
awaits_yet false (ready b) i = marked false (restart_of i)
awaits_yet false (opening_phase q k) i = record { next = (i, true); writes = none; says = tells (not_sent k) }
awaits_yet false (order_phase b q k) i = marked false (restart_of i)

abbrev as_closed : Bool → Initiator → Initiator
as_closed true i = new_initiator i.tries
as_closed false i = i

abbrev yet_silent : Bool → Initiator → Turn Marked Message Outcome
yet_silent true i = record { next = (i, true); writes = none; says = nothing }
yet_silent false i = marked false (silence_of i)

abbrev sends_afterwards : AnyInitiator Message
sends_afterwards =
    initiator_by (λ n. (new_initiator n, false)) (λ i q. marked false (submit_of (as_closed i.1 i.0) q)) (λ i. yet_silent i.1 i.0)
    (λ i m. marked false (hear_of i.0 m)) (λ i. awaits_yet i.1 i.0.phase i.0)

pub sends_the_order_after_the_restart : Refuted sends_afterwards
sends_the_order_after_the_restart =
    fails sends_afterwards (orders (1 ∷ []) ∷ to_cabinet ∷ head_restarts ∷ to_head ∷ to_cabinet ∷ []) sent_yet
