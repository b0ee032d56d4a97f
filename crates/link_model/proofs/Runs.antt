-- Runs of our two ends, computed: so that the demand does not hold for want of cases.
use mathlib.Core.Bool.{false}
use mathlib.Core.List.{List, [], ◌∷◌}
use mathlib.Core.Path.{◌≡◌, refl}
use Rattle.link_model.specs.Messages.{is_opening}
use Rattle.demand_3.specs.Turns.{confirmed, not_sent, unknown}
use Rattle.demand_3.specs.History.{made, dropped, hand_up, ended, entry, history}
use Rattle.demand_3.specs.Safe.{entries_of}
use Rattle.demand_3.specs.Live.{report_at}
use Rattle.link_model.specs.Ours.{our_initiator, our_responder}
use Rattle.link_model.proofs.Scenes.{Doing, order, silence, head_restarts, answer, to_cabinet, to_head, andRefused, andEchoed, ends, after, ordered}

-- an order on a closed link, with nothing lost
abbrev ordinary : List Doing
ordinary = order (1 ∷ 3 ∷ []) ∷ to_cabinet ∷ to_head ∷ to_cabinet ∷ answer (7 ∷ []) ∷ to_head ∷ []

-- it is confirmed: carried out once, its reply shown, one telegram written in each phase
pub an_order_is_confirmed :
    (ends is_opening our_initiator our_responder 2 ordinary).past
    ≡ history (entry (1 ∷ 3 ∷ []) (hand_up (1 ∷ 3 ∷ []) (made (7 ∷ [])) ∷ []) (ended (confirmed (7 ∷ []) 1)) 1 1 ∷ [])
    ((1 ∷ 3 ∷ []) ∷ []) false
an_order_is_confirmed = refl

-- The accident: the head end restarts between two orders. The second is carried out and shows its own reply.
pub the_accident_ends_well :
    (ends is_opening our_initiator our_responder 2
    (order (1 ∷ 3 ∷ []) ∷ to_cabinet ∷ to_head ∷ to_cabinet ∷ answer (7 ∷ []) ∷ to_head ∷ head_restarts ∷ order (2 ∷ []) ∷ to_cabinet ∷ to_head
    ∷ to_cabinet ∷ answer (8 ∷ []) ∷ to_head ∷ [])
    ).past
    ≡ history
    (entry (2 ∷ []) (hand_up (2 ∷ []) (made (8 ∷ [])) ∷ []) (ended (confirmed (8 ∷ []) 1)) 1 1
    ∷ entry (1 ∷ 3 ∷ []) (hand_up (1 ∷ 3 ∷ []) (made (7 ∷ [])) ∷ []) (ended (confirmed (7 ∷ []) 1)) 1 1
    ∷ [])
    ((2 ∷ []) ∷ (1 ∷ 3 ∷ []) ∷ []) false
the_accident_ends_well = refl

-- The first reply is lost: the order's second try brings the held reply, and the order is carried out once.
pub a_lost_reply_is_repeated :
    (ends is_opening our_initiator our_responder 2
    (order (1 ∷ []) ∷ to_cabinet ∷ to_head ∷ to_cabinet ∷ answer (7 ∷ []) ∷ silence ∷ to_cabinet ∷ to_head ∷ [])).past
    ≡ history (entry (1 ∷ []) (hand_up (1 ∷ []) (made (7 ∷ [])) ∷ []) (ended (confirmed (7 ∷ []) 2)) 1 2 ∷ []) ((1 ∷ []) ∷ []) false
a_lost_reply_is_repeated = refl

-- The restarted head end's order finds the cabinet owing an older reply: the opening drops it, and what is shown is
-- the order's own.
pub an_old_debt_is_dropped :
    (ends is_opening our_initiator our_responder 1
    (order (1 ∷ []) ∷ to_cabinet ∷ to_head ∷ to_cabinet ∷ head_restarts ∷ order (2 ∷ []) ∷ to_cabinet ∷ to_head ∷ to_cabinet ∷ answer (8 ∷ [])
    ∷ to_head ∷ [])
    ).past
    ≡ history
    (entry (2 ∷ []) (hand_up (2 ∷ []) (made (8 ∷ [])) ∷ []) (ended (confirmed (8 ∷ []) 1)) 1 1
    ∷ entry (1 ∷ []) (hand_up (1 ∷ []) dropped ∷ []) (ended (unknown 1)) 1 1
    ∷ [])
    ((2 ∷ []) ∷ (1 ∷ []) ∷ []) false
an_old_debt_is_dropped = refl

-- The telegram heard after a restart: the order is in flight when the head end restarts and reports unknown; the cabinet hears
-- it then and carries it out once, and its late reply is no second outcome.
pub an_order_is_heard_after_the_restart :
    (ends is_opening our_initiator our_responder 2
    (order (1 ∷ []) ∷ to_cabinet ∷ to_head ∷ head_restarts ∷ to_cabinet ∷ answer (7 ∷ []) ∷ to_head ∷ [])).past
    ≡ history (entry (1 ∷ []) (hand_up (1 ∷ []) (made (7 ∷ [])) ∷ []) (ended (unknown 1)) 1 1 ∷ []) ((1 ∷ []) ∷ []) false
an_order_is_heard_after_the_restart = refl

-- all tries of an opening are lost: not sent, with the telegrams written
pub a_dead_line_sends_nothing :
    (ends is_opening our_initiator our_responder 2 (order (1 ∷ []) ∷ silence ∷ silence ∷ [])).past
    ≡ history (entry (1 ∷ []) [] (ended (not_sent 2)) 2 0 ∷ []) [] false
a_dead_line_sends_nothing = refl

-- The last sentence does not hold for want of cases either: of two permitted tries the first of each phase is lost, in
-- the opening's phase with an echo, in the order's with a silence refused for want of room; the second passes both ways.
pub the_second_tries_pass :
    report_at 0
    (entries_of
    (after is_opening our_initiator our_responder (andRefused ∷ []) (7 ∷ [])
    (after is_opening our_initiator our_responder (andEchoed ∷ []) (7 ∷ []) (ordered is_opening our_initiator our_responder 2 [] (1 ∷ [])))).past)
    ≡ ended (confirmed (7 ∷ []) 2)
the_second_tries_pass = refl
