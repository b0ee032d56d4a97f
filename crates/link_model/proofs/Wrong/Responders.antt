-- Wrong cabinets beside our head end: each is ours but for one rule.
use mathlib.Core.Bool.{Bool, true, false}
use mathlib.Core.List.{List, [], ◌∷◌}
use mathlib.Core.Option.{none, some}
use mathlib.Core.Path.{refl}
use Rattle.link_model.specs.Messages.{Bit, low, high, same, Message, opening, ok, order, reply, other, is_opening}
use Rattle.demand_3.specs.Turns.{Bytes, Told, refused, nothing, tells, Turn, ignoring, refusing}
use Rattle.link_model.specs.Responder.{Row, RowTurn, blank, opened, owes, holds, hands_up, ordered_on, same_bit, row_hears, row_answers}
use Rattle.demand_3.specs.Safe.{Safe}
use Rattle.demand_3.specs.Demand.{Demand}
use Rattle.link_model.specs.Ours.{AnyResponder, responder_by, our_initiator, our_responder}
use Rattle.link_model.proofs.Scenes.{Doing, order as orders, silence, head_restarts, answer, cabinet_restarts, cabinet_made, to_cabinet, to_head, short_cabinet, andReached, P, ends, unsafe, unopened}
use Rattle.link_model.proofs.Wrong.Tools.{two_tries, three_tries, never_done, done_twice, other_reply, reply_unmade, other_bytes, other_order}

-- the demand is refuted for this cabinet
abbrev Refuted : AnyResponder Message → Type 0
Refuted c = Demand (P is_opening our_initiator c) → ⊥

-- a cabinet that hears so, and is else as ours
abbrev hearing : (Row → Message → RowTurn) → AnyResponder Message
hearing f = responder_by blank f row_answers (λ r. blank)

-- openings are heard as ours are, and orders so
abbrev heard : (Row → Bit → Bytes → RowTurn) → Row → Message → RowTurn
heard f r opening = row_hears r opening
heard f r ok = ignoring r
heard f r (order b q) = f r b q
heard f r (reply p) = ignoring r
heard f r other = ignoring r

-- a cabinet that takes orders so, and is else as ours
abbrev taking : (Row → Bit → Bytes → RowTurn) → AnyResponder Message
taking f = hearing (heard f)

-- a cabinet that answers so, and is else as ours
abbrev answering : (Row → Bytes → RowTurn) → AnyResponder Message
answering f = responder_by blank row_hears f (λ r. blank)

-- the link is opened and the first order reaches the cabinet
abbrev first : List Doing → List Doing
first ds = orders (1 ∷ []) ∷ to_cabinet ∷ to_head ∷ to_cabinet ∷ ds

-- the first order is confirmed, and a second one is sent and its answer heard
abbrev second : List Doing
second = first (answer (7 ∷ []) ∷ to_head ∷ orders (2 ∷ []) ∷ to_cabinet ∷ to_head ∷ [])

-- the order is sent a second time
abbrev repeated : List Doing
repeated = first (silence ∷ to_cabinet ∷ [])

-- a scene that leads to a history which is not safe
fails : (c : AnyResponder Message) (ds : List Doing) → (Safe (ends is_opening our_initiator c 2 ds).past → ⊥) → Refuted c
fails c ds bad = unsafe is_opening our_initiator c 2 two_tries ds bad

-- it never answers
pub never_answers : Refuted (hearing (λ r m. ignoring r))
never_answers = unopened is_opening our_initiator (hearing (λ r m. ignoring r)) 2 two_tries [] (1 ∷ []) (7 ∷ []) [] [] tt refl refl tt tt (λ x. x)

-- its reply is not sent when it is made
abbrev holds_back : Row → Bytes → RowTurn
holds_back blank p = refusing blank
holds_back opened p = refusing opened
holds_back (owes b) p = record { next = holds b p; writes = none; says = nothing }
holds_back (holds b r) p = refusing (holds b r)

pub reply_held_back : Refuted (answering holds_back)
reply_held_back = unopened is_opening our_initiator (answering holds_back) 2 two_tries [] (1 ∷ []) (7 ∷ []) [] [] tt refl refl tt tt (λ x. x)

-- after its first order it only replies
abbrev only_replies : Row → Message → RowTurn
only_replies blank m = row_hears blank m
only_replies opened m = row_hears opened m
only_replies (owes b) m = row_hears (owes b) m
only_replies (holds b p) opening = record { next = holds b p; writes = some ok; says = nothing }
only_replies (holds b p) ok = ignoring (holds b p)
only_replies (holds b p) (order c q) = record { next = holds b p; writes = some (reply p); says = nothing }
only_replies (holds b p) (reply r) = ignoring (holds b p)
only_replies (holds b p) other = ignoring (holds b p)

pub after_the_first_only_replies : Refuted (hearing only_replies)
after_the_first_only_replies = fails (hearing only_replies) second never_done

-- an opening does not drop the owed reply
abbrev keeps_debt : Row → Message → RowTurn
keeps_debt blank m = row_hears blank m
keeps_debt opened m = row_hears opened m
keeps_debt (owes b) opening = record { next = owes high; writes = some ok; says = nothing }
keeps_debt (owes b) ok = ignoring (owes b)
keeps_debt (owes b) (order c q) = row_hears (owes b) (order c q)
keeps_debt (owes b) (reply r) = ignoring (owes b)
keeps_debt (owes b) other = ignoring (owes b)
keeps_debt (holds b p) m = row_hears (holds b p) m

pub owed_over_an_opening : Refuted (hearing keeps_debt)
owed_over_an_opening =
    fails (hearing keeps_debt)
    (first (head_restarts ∷ orders (2 ∷ []) ∷ to_cabinet ∷ to_head ∷ answer (7 ∷ []) ∷ to_head ∷ [])) never_done

-- it repeats the held reply for the other bit
abbrev repeats_any : Row → Bit → Bytes → RowTurn
repeats_any blank b q = ignoring blank
repeats_any opened b q = row_hears opened (order b q)
repeats_any (owes c) b q = row_hears (owes c) (order b q)
repeats_any (holds c p) b q = record { next = holds c p; writes = some (reply p); says = nothing }

pub old_reply_for_the_other_bit : Refuted (taking repeats_any)
old_reply_for_the_other_bit = fails (taking repeats_any) second never_done

-- it hands up on the same bit too
pub hands_up_the_same_bit : Refuted (taking (λ r b q. ordered_on false r b q))
hands_up_the_same_bit = fails (taking (λ r b q. ordered_on false r b q)) repeated done_twice

-- it takes a second answer and sends that
abbrev answers_twice : Row → Bytes → RowTurn
answers_twice blank p = refusing blank
answers_twice opened p = refusing opened
answers_twice (owes b) p = record { next = holds b p; writes = some (reply p); says = nothing }
answers_twice (holds b r) p = record { next = holds b p; writes = some (reply p); says = nothing }

pub takes_a_second_answer : Refuted (answering answers_twice)
takes_a_second_answer =
    fails (answering answers_twice) (first (answer (7 ∷ []) ∷ answer (8 ∷ []) ∷ to_head ∷ [])) (other_reply tt)

-- it takes an order with no stored bit
abbrev takes_blank : Row → Bit → Bytes → RowTurn
takes_blank blank b q = hands_up b q
takes_blank opened b q = row_hears opened (order b q)
takes_blank (owes c) b q = row_hears (owes c) (order b q)
takes_blank (holds c p) b q = row_hears (holds c p) (order b q)

pub takes_orders_without_a_bit : Refuted (taking takes_blank)
takes_orders_without_a_bit =
    fails (taking takes_blank) (first (cabinet_restarts ∷ silence ∷ to_cabinet ∷ [])) done_twice

-- it is made with bit 1 stored
abbrev made_open : AnyResponder Message
made_open = responder_by opened row_hears row_answers (λ r. blank)

pub made_with_a_bit : Refuted made_open
made_with_a_bit = fails made_open (first (cabinet_made ∷ silence ∷ to_cabinet ∷ [])) done_twice

-- it hands up without storing the bit
abbrev unstored : Told Bytes → Row → Row → Row
unstored refused was next = next
unstored nothing was next = next
unstored (tells p) was next = was

abbrev stores_none : Row → Bit → Bytes → RowTurn
stores_none r b q =
    let t = row_hears r (order b q) in
    record { next = unstored t.says r t.next; writes = t.writes; says = t.says }

pub stores_no_bit : Refuted (taking stores_none)
stores_no_bit = fails (taking stores_none) repeated done_twice

-- it stores the bit at once, but hands up only when the order comes again
abbrev waits_for_two : Row → Bit → Bytes → RowTurn
waits_for_two blank b q = ignoring blank
waits_for_two opened b q = record { next = owes b; writes = none; says = nothing }
waits_for_two (owes c) b q = hands_up b q
waits_for_two (holds c p) b q = row_hears (holds c p) (order b q)

pub hands_up_the_second_copy : Refuted (taking waits_for_two)
hands_up_the_second_copy = unopened is_opening our_initiator (taking waits_for_two) 2 two_tries [] (1 ∷ []) (7 ∷ []) [] [] tt refl refl tt tt (λ x. x)

-- with the hand-up it sends the reply that it held
abbrev old_at_once : Row → Bit → Bytes → RowTurn
old_at_once blank b q = ignoring blank
old_at_once opened b q = row_hears opened (order b q)
old_at_once (owes c) b q = row_hears (owes c) (order b q)
old_at_once (holds c p) b q = record { next = owes b; writes = some (reply p); says = tells q }

pub old_reply_with_the_hand_up : Refuted (taking old_at_once)
old_reply_with_the_hand_up = fails (taking old_at_once) second reply_unmade

-- it hands up other bytes than it heard
pub hands_up_other_bytes : Refuted (taking (λ r b q. hands_up b (9 ∷ [])))
hands_up_other_bytes = fails (taking (λ r b q. hands_up b (9 ∷ []))) (first []) (other_bytes tt)

-- it carries each order out when the next one comes: beside the row stands the order that it heard last
abbrev Behind : Type 0
Behind = Row × Bytes

abbrev last_heard : Message → Bytes → Bytes
last_heard opening p = p
last_heard ok p = p
last_heard (order b q) p = q
last_heard (reply r) p = p
last_heard other p = p

abbrev told_late : Bytes → Told Bytes → Told Bytes
told_late p refused = refused
told_late p nothing = nothing
told_late p (tells q) = tells p

abbrev hears_behind : Behind → Message → Turn Behind Message Bytes
hears_behind r m =
    let t = row_hears r.0 m in
    record { next = (t.next, last_heard m r.1); writes = t.writes; says = told_late r.1 t.says }

abbrev answers_behind : Behind → Bytes → Turn Behind Message Bytes
answers_behind r p =
    let t = row_answers r.0 p in
    record { next = (t.next, r.1); writes = t.writes; says = t.says }

pub carries_out_the_order_before : Refuted (responder_by {E = Behind} (blank, []) hears_behind answers_behind (λ r. (blank, [])))
carries_out_the_order_before =
    fails (responder_by {E = Behind} (blank, []) hears_behind answers_behind (λ r. (blank, []))) (first (answer (7 ∷ []) ∷ to_head ∷ orders (2 ∷ []) ∷ to_cabinet ∷ [])) (other_order tt)

-- it hands up again while the reply is owed
abbrev owed_again : Row → Bit → Bytes → RowTurn
owed_again blank b q = ignoring blank
owed_again opened b q = row_hears opened (order b q)
owed_again (owes c) b q = hands_up b q
owed_again (holds c p) b q = row_hears (holds c p) (order b q)

pub hands_up_again_while_owing : Refuted (taking owed_again)
hands_up_again_while_owing = fails (taking owed_again) repeated done_twice

-- it takes a second answer, sends that and holds the first
abbrev answers_once_more : Row → Bytes → RowTurn
answers_once_more blank p = refusing blank
answers_once_more opened p = refusing opened
answers_once_more (owes b) p = record { next = holds b p; writes = some (reply p); says = nothing }
answers_once_more (holds b r) p = record { next = holds b r; writes = some (reply p); says = nothing }

pub sends_a_second_answer : Refuted (answering answers_once_more)
sends_a_second_answer =
    fails (answering answers_once_more) (first (answer (7 ∷ []) ∷ answer (8 ∷ []) ∷ to_head ∷ [])) (other_reply tt)

-- an opening stores bit 0
abbrev opens_low : Row → Bit → Bytes → RowTurn
opens_low blank b q = ignoring blank
opens_low opened b q = ordered_on (same low b) opened b q
opens_low (owes c) b q = row_hears (owes c) (order b q)
opens_low (holds c p) b q = row_hears (holds c p) (order b q)

pub opening_stores_bit_0 : Refuted (taking opens_low)
opening_stores_bit_0 = unopened is_opening our_initiator (taking opens_low) 2 two_tries [] (1 ∷ []) (7 ∷ []) [] [] tt refl refl tt tt (λ x. x)

-- a restart keeps what is owed and held, with bit 1
abbrev remembers : Row → Row
remembers blank = blank
remembers opened = opened
remembers (owes b) = owes high
remembers (holds b p) = holds high p

pub remembers_over_a_restart : Refuted (responder_by blank row_hears row_answers remembers)
remembers_over_a_restart = fails (responder_by blank row_hears row_answers remembers) (first (cabinet_restarts ∷ silence ∷ to_cabinet ∷ [])) done_twice

-- a hearing refused for want of room stores the bit of the order
abbrev stores_heard : Row → Message → Row
stores_heard r opening = r
stores_heard r ok = r
stores_heard blank (order b q) = blank
stores_heard opened (order b q) = opened
stores_heard (owes c) (order b q) = owes b
stores_heard (holds c p) (order b q) = holds b p
stores_heard r (reply p) = r
stores_heard r other = r

abbrev hears_short : Row → Bool → Message → RowTurn
hears_short r true m = row_hears r m
hears_short r false m = refusing (stores_heard r m)

abbrev stores_refused : AnyResponder Message
stores_refused =
    record { End = Row; new = blank; hear = hears_short; answer = our_responder.answer; restart = λ r. blank }

pub refused_hearing_stores_the_bit : Refuted stores_refused
refused_hearing_stores_the_bit =
    fails stores_refused
    (first (answer (7 ∷ []) ∷ to_head ∷ orders (2 ∷ []) ∷ short_cabinet ∷ silence ∷ to_cabinet ∷ to_head ∷ [])) never_done

-- its reader gives an opening, or one order, for all bytes
pub hears_only_openings : Refuted (hearing (λ r m. row_hears r opening))
hears_only_openings = unopened is_opening our_initiator (hearing (λ r m. row_hears r opening)) 2 two_tries [] (1 ∷ []) (7 ∷ []) [] [] tt refl refl tt tt (λ x. x)

pub hears_only_one_order : Refuted (hearing (λ r m. row_hears r (order low (1 ∷ []))))
hears_only_one_order = unopened is_opening our_initiator (hearing (λ r m. row_hears r (order low (1 ∷ [])))) 2 two_tries [] (1 ∷ []) (7 ∷ []) [] [] tt refl refl tt tt (λ x. x)

-- Cabinets that can let go of a held reply and keep its bit: beside the row stands whether the reply is gone. They take
-- an order so: the first says whether the bit is the stored one, the second whether a repeated reply is let go.
abbrev Fading : Type 0
Fading = Row × Bool

abbrev fades : Bool → Bool → Row → Bool → Bit → Bytes → Turn Fading Message Bytes
fades again lets blank gone b q = ignoring (blank, false)
fades true lets opened gone b q = ignoring (opened, false)
fades true lets (owes c) gone b q = ignoring (owes c, false)
fades true lets (holds c p) true b q = ignoring (holds c p, true)
fades true lets (holds c p) false b q = record { next = (holds c p, lets); writes = some (reply p); says = nothing }
fades false lets opened gone b q = record { next = (owes b, false); writes = none; says = tells q }
fades false lets (owes c) gone b q = record { next = (owes b, false); writes = none; says = tells q }
fades false lets (holds c p) gone b q = record { next = (owes b, false); writes = none; says = tells q }

abbrev answers_fading : Fading → Bytes → Turn Fading Message Bytes
answers_fading r p =
    let t = row_answers r.0 p in
    record { next = (t.next, false); writes = t.writes; says = t.says }

abbrev fading_hears : (Row → Fading) → Bool → Fading → Message → Turn Fading Message Bytes
fading_hears f lets r opening = record { next = f r.0; writes = some ok; says = nothing }
fading_hears f lets r ok = ignoring r
fading_hears f lets r (order b q) = fades (same_bit r.0 b) lets r.0 r.1 b q
fading_hears f lets r (reply p) = ignoring r
fading_hears f lets r other = ignoring r

-- openings are taken so
abbrev fading : (Row → Fading) → Bool → AnyResponder Message
fading f lets = responder_by (blank, false) (fading_hears f lets) answers_fading (λ r. (blank, false))

-- it lets go of the held reply once it has repeated it
pub repeats_the_reply_once : Refuted (fading (λ r. (opened, false)) true)
repeats_the_reply_once =
    unopened is_opening our_initiator (fading (λ r. (opened, false)) true) 3 three_tries [] (1 ∷ []) (7 ∷ []) [] (andReached (7 ∷ []) ∷ andReached (7 ∷ []) ∷ []) tt refl refl
    tt tt (λ x. x)

-- an opening keeps the stored bit and drops the reply
abbrev keeps_stored : Row → Fading
keeps_stored blank = (opened, false)
keeps_stored opened = (opened, false)
keeps_stored (owes b) = (holds b [], true)
keeps_stored (holds b p) = (holds b p, true)

pub opening_keeps_a_stored_bit : Refuted (fading keeps_stored false)
opening_keeps_a_stored_bit =
    unopened is_opening our_initiator (fading keeps_stored false) 2 two_tries (first (answer (7 ∷ []) ∷ to_head ∷ head_restarts ∷ [])) (2 ∷ []) (8 ∷ []) [] [] tt refl refl
    tt tt (λ x. x)
