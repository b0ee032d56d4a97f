-- What happens between two tries changes nothing of the phase (`Going`): the initiator ignores all that is no answer
-- to a try, and in the order's phase no reply is owed, since the cabinet answers at once.
use Prim.Native.Nat.{ℕ}
use lib.ListN.{length, length-map}
use mathlib.Core.Bool.{Bool, true, false, true≢false}
use mathlib.Core.List.{[], ◌∷◌}
use mathlib.Core.Logic.{◌⊎◌, inl, inr}
use mathlib.Core.Option.{Option, none, some}
use mathlib.Core.Path.{◌≡◌, refl, sym, ◌∙◌, ap, subst, subst⁻¹, path_j'}
use Rattle.link_model.specs.Messages.{Bit, Message, opening, ok, order, reply, other, is_opening}
use Rattle.demand_3.specs.Turns.{Bytes, Told, refused, nothing, tells, ignoring}
use Rattle.link_model.specs.Initiator.{Phase, closed, ready, opening_phase, order_phase, hear_in}
use Rattle.link_model.specs.Responder.{Row, blank, opened, owes, holds, ordered_on, same_bit, row_hears, row_answers}
use Rattle.demand_3.specs.History.{Given, made, dropped, entry, History, history, settled_in, settled_all, noted, answered, opening_heard}
use Rattle.demand_3.specs.Line.{State, submits, silent, initiator_hears, responder_hears, answers, initiator_done, step, Heard, in_flight, stray, Lawful}
use Rattle.demand_3.specs.Live.{Silent, Flight, theTry, theAnswer, another, answer_to, Missed, Wide, Between, over, silent_short, submits_beside, initiator_misses, responder_attends, responder_serves, answers_late}
use Rattle.link_model.specs.Ours.{ours}
use Rattle.link_model.proofs.Ignored.{FromInitiator, FromResponder, ignores_own, ignores_answers}
use Rattle.link_model.proofs.Invariant.{Inv}
use Rattle.link_model.proofs.Steps.{hushed, attended_keeps, answer_keeps}

-- with room is with room: what holds in a room that is enough holds in every such room
abbrev pub wide : Wide ours
wide = record { room = true; is_enough = refl }

pub at_wide : (Q : Wide ours → Type 0) → Q wide → (w : Wide ours) → Q w
at_wide Q d w = path_j' (λ x e. Q (record { room = x; is_enough = e })) d w.is_enough

-- no reply is owed
abbrev pub Settled : Row → Type 0
Settled blank = Unit {0}
Settled opened = Unit {0}
Settled (owes b) = ⊥
Settled (holds b p) = Unit {0}

-- what the row must be in a phase that goes on
abbrev pub Fit : Phase → Row → Type 0
Fit closed r = ⊥
Fit (ready b) r = ⊥
Fit (opening_phase q k) r = Unit {0}
Fit (order_phase b q k) r = Settled r

-- an older order's reply, which comes late: in the order's phase none is owed
abbrev pub Late : Phase → Message → Type 0
Late closed m = ⊥
Late (ready b) m = ⊥
Late (opening_phase q k) opening = ⊥
Late (opening_phase q k) ok = ⊥
Late (opening_phase q k) (order b p) = ⊥
Late (opening_phase q k) (reply p) = Unit {0}
Late (opening_phase q k) other = ⊥
Late (order_phase b q k) m = ⊥

-- what is in flight
abbrev pub Flies : Flight → Phase → Option Message → Type 0
Flies f p none = Unit {0}
Flies theTry p (some m) = FromInitiator m
Flies theAnswer p (some m) = FromResponder m
Flies another p (some m) = Late p m

-- the number of the latest order
abbrev pub latest_no : History → ℕ
latest_no (history [] cs x) = 0
latest_no (history (e ∷ es) cs x) = length es

abbrev pub state_of : ℕ → Bool → Phase → Row → Option Message → History → State ours
state_of n c p r l h =
    record {
      initiator = record { tries = n; phase = p };
      responder = r;
      line = l;
      tries = n;
      is_closed = c;
      unbroken = true;
      past = h;
    }

-- a phase goes on, for the order with this number
pub data Going (n num : ℕ) (f : Flight) (p : Phase) : State ours → Type 0 where
  goes :
      {c : Bool} {r : Row} {l : Option Message} {h : History} → Inv p r l h true → Fit p r → Flies f p l → latest_no h ≡ num
      → Going n num f p (state_of n c p r l h)

number_settled : (g : Given) (h : History) → latest_no (settled_all g h) ≡ latest_no h
number_settled g (history [] cs x) = refl
number_settled g (history (e ∷ es) cs x) = length-map es (settled_in g)

number_heard : (x : Told Bytes) (b : Bool) (h : History) → latest_no (opening_heard x b h) ≡ latest_no h
number_heard refused b h = refl
number_heard nothing false h = refl
number_heard nothing true h = number_settled dropped h
number_heard (tells p) false h = refl
number_heard (tells p) true h = number_settled dropped h

number_noted : (x : Told Bytes) (h : History) → latest_no (noted x h) ≡ latest_no h
number_noted refused h = refl
number_noted nothing h = refl
number_noted (tells p) (history [] cs x) = refl
number_noted (tells p) (history (entry q u r o n ∷ es) cs x) = refl

number_answered : (x : Told Bytes) (p : Bytes) (h : History) → latest_no (answered x p h) ≡ latest_no h
number_answered refused p h = refl
number_answered nothing p h = number_settled (made p) h
number_answered (tells q) p h = number_settled (made p) h

number_attended :
    (m : Message) (r : Row) (h : History)
    → latest_no (noted (row_hears r m).says (opening_heard (row_hears r m).says (is_opening m) h)) ≡ latest_no h
number_attended m r h =
    number_noted (row_hears r m).says (opening_heard (row_hears r m).says (is_opening m) h)
    ∙ number_heard (row_hears r m).says (is_opening m) h

number_given :
    (a : Bytes) (r : Row) (h : History)
    → latest_no (noted (row_answers r a).says (answered (row_answers r a).says a h)) ≡ latest_no h
number_given a r h =
    number_noted (row_answers r a).says (answered (row_answers r a).says a h) ∙ number_answered (row_answers r a).says a h

-- an initiator ignores late replies
ignores_late : (n : ℕ) (p : Phase) (m : Message) → Late p m → hear_in n p m ≡ ignoring (record { tries = n; phase = p })
ignores_late n closed m y = absurd y
ignores_late n (ready b) m y = absurd y
ignores_late n (opening_phase q k) opening y = absurd y
ignores_late n (opening_phase q k) ok y = absurd y
ignores_late n (opening_phase q k) (order b p) y = absurd y
ignores_late n (opening_phase q k) (reply p) y = refl
ignores_late n (opening_phase q k) other y = absurd y
ignores_late n (order_phase b q k) m y = absurd y

ignores_missed :
    (f : Flight) (n : ℕ) (p : Phase) {l : Option Message} {m : Message} → Flies f p l
    → (h : Heard (λ x. hear_in n p x ≡ ignoring (record { tries = n; phase = p })) l m) → Missed f true h
    → hear_in n p m ≡ ignoring (record { tries = n; phase = p })
ignores_missed theTry n p {m = m} y in_flight b = ignores_own n p m y
ignores_missed theTry n p y (stray e) b = e
ignores_missed theAnswer n p y in_flight b = absurd b
ignores_missed theAnswer n p y (stray e) b = e
ignores_missed another n p {m = m} y in_flight b = ignores_late n p m y
ignores_missed another n p y (stray e) b = e

ordered_settled :
    (more : Bool) (r : Row) (b : Bit) (q : Bytes) → Settled r → Silent (ordered_on more r b q).says
    → Settled (ordered_on more r b q).next
ordered_settled more blank b q f y = tt
ordered_settled true opened b q f y = tt
ordered_settled false opened b q f y = absurd y
ordered_settled more (owes c) b q f y = absurd f
ordered_settled true (holds c p) b q f y = tt
ordered_settled false (holds c p) b q f y = absurd y

-- only handing up makes a debt
attend_settled : (m : Message) (r : Row) → Settled r → Silent (row_hears r m).says → Settled (row_hears r m).next
attend_settled opening r f y = tt
attend_settled ok r f y = f
attend_settled (order b q) r f y = ordered_settled (same_bit r b) r b q f y
attend_settled (reply p) r f y = f
attend_settled other r f y = f

attend_fit : (p : Phase) (m : Message) (r : Row) → Fit p r → Silent (row_hears r m).says → Fit p (row_hears r m).next
attend_fit closed m r f y = f
attend_fit (ready b) m r f y = f
attend_fit (opening_phase q k) m r f y = tt
attend_fit (order_phase b q k) m r f y = attend_settled m r f y

-- an answer, accepted or refused, leaves no debt
answer_settled : (a : Bytes) (r : Row) → Settled (row_answers r a).next
answer_settled a blank = tt
answer_settled a opened = tt
answer_settled a (owes b) = tt
answer_settled a (holds b p) = tt

answer_fit : (p : Phase) (a : Bytes) (was r : Row) → Fit p was → Fit p (row_answers r a).next
answer_fit closed a was r f = f
answer_fit (ready b) a was r f = f
answer_fit (opening_phase q k) a was r f = tt
answer_fit (order_phase b q k) a was r f = answer_settled a r

-- what a responder writes on hearing something is in answer to a try, or is nothing
ordered_flies : (p : Phase) (more : Bool) (r : Row) (b : Bit) (q : Bytes) → Flies theAnswer p (ordered_on more r b q).writes
ordered_flies p more blank b q = tt
ordered_flies p true opened b q = tt
ordered_flies p false opened b q = tt
ordered_flies p true (owes c) b q = tt
ordered_flies p false (owes c) b q = tt
ordered_flies p true (holds c x) b q = tt
ordered_flies p false (holds c x) b q = tt

try_answered : (p : Phase) (m : Message) (r : Row) → FromInitiator m → Flies theAnswer p (row_hears r m).writes
try_answered p opening r y = tt
try_answered p ok r y = absurd y
try_answered p (order b q) r y = ordered_flies p (same_bit r b) r b q
try_answered p (reply x) r y = absurd y
try_answered p other r y = absurd y

late_from_responder : (p : Phase) (m : Message) → Late p m → FromResponder m
late_from_responder closed m y = absurd y
late_from_responder (ready b) m y = absurd y
late_from_responder (opening_phase q k) opening y = absurd y
late_from_responder (opening_phase q k) ok y = absurd y
late_from_responder (opening_phase q k) (order b p) y = absurd y
late_from_responder (opening_phase q k) (reply p) y = tt
late_from_responder (opening_phase q k) other y = absurd y
late_from_responder (order_phase b q k) m y = absurd y

-- what the responder hears is the try, or is ignored
heard_or_ignored :
    (f : Flight) (p : Phase) (r : Row) {l : Option Message} {m : Message} → Flies f p l
    → (h : Heard (λ x. row_hears r x ≡ ignoring r) l m)
    → (FromInitiator m × (answer_to f h ≡ theAnswer)) ⊎ ((row_hears r m ≡ ignoring r) × (answer_to f h ≡ another))
heard_or_ignored theTry p r y in_flight = inl (y, refl)
heard_or_ignored theTry p r y (stray e) = inr (e, refl)
heard_or_ignored theAnswer p r {m = m} y in_flight = inr (ignores_answers r m y, refl)
heard_or_ignored theAnswer p r y (stray e) = inr (e, refl)
heard_or_ignored another p r {m = m} y in_flight = inr (ignores_answers r m (late_from_responder p m y), refl)
heard_or_ignored another p r y (stray e) = inr (e, refl)

attended_flies :
    (f : Flight) (p : Phase) (r : Row) {l : Option Message} {m : Message} → Flies f p l
    → (h : Heard (λ x. row_hears r x ≡ ignoring r) l m) → Flies (answer_to f h) p (row_hears r m).writes
attended_flies f p r {m = m} y h = go (heard_or_ignored f p r y h)
  where
    go :
        (FromInitiator m × (answer_to f h ≡ theAnswer)) ⊎ ((row_hears r m ≡ ignoring r) × (answer_to f h ≡ another))
        → Flies (answer_to f h) p (row_hears r m).writes
    go (inl a) = subst⁻¹ (λ x. Flies x p (row_hears r m).writes) a.1 (try_answered p m r a.0)
    go (inr a) = subst⁻¹ (λ t. Flies (answer_to f h) p t.writes) a.0 tt

answer_flies : (p : Phase) (a : Bytes) (r : Row) → Flies theAnswer p (row_answers r a).writes
answer_flies p a blank = tt
answer_flies p a opened = tt
answer_flies p a (owes b) = tt
answer_flies p a (holds b x) = tt

late_flies : (p : Phase) (a : Bytes) (r : Row) → Fit p r → Flies another p (row_answers r a).writes
late_flies closed a r f = absurd f
late_flies (ready b) a r f = absurd f
late_flies (opening_phase q k) a blank f = tt
late_flies (opening_phase q k) a opened f = tt
late_flies (opening_phase q k) a (owes c) f = tt
late_flies (opening_phase q k) a (holds c x) f = tt
late_flies (order_phase b q k) a blank f = tt
late_flies (order_phase b q k) a opened f = tt
late_flies (order_phase b q k) a (owes c) f = absurd f
late_flies (order_phase b q k) a (holds c x) f = tt

abbrev IsTold : {A : Type 0} → Told A → Type 0
IsTold refused = ⊥
IsTold nothing = ⊥
IsTold (tells a) = Unit {0}

go_submit :
    {n num : ℕ} {f : Flight} {p : Phase} {s : State ours} (room : Bool) (q : Bytes) → Going n num f p s
    → Going n num another p (step ours s (submits room q))
go_submit false q (goes v y l e) = goes (hushed v) y tt e
go_submit {p = closed} true q (goes v y l e) = absurd y
go_submit {p = ready b} true q (goes v y l e) = absurd y
go_submit {p = opening_phase x k} true q (goes v y l e) = goes (hushed v) y tt e
go_submit {p = order_phase b x k} true q (goes v y l e) = goes (hushed v) y tt e

go_short :
    {n num : ℕ} {f : Flight} {p : Phase} {s : State ours} (room : Bool) → room ≡ false → Going n num f p s
    → Going n num another p (step ours s (silent room))
go_short true x g = absurd (true≢false x)
go_short false x (goes v y l e) = goes (hushed v) y tt e

go_miss :
    {n num : ℕ} {f : Flight} {p : Phase} {s : State ours} (room : Bool) (m : Message) → Going n num f p s
    → (h : Lawful ours s (initiator_hears room m)) → Missed f room h → Going n num another p (step ours s (initiator_hears room m))
go_miss false m (goes v y l e) h b = goes (hushed v) y tt e
go_miss {n} {num} {f} {p} {s} true m (goes v y l e) h b =
    subst⁻¹ (λ t. Going n num another p (initiator_done ours s s.is_closed s.unbroken s.past t)) (ignores_missed f n p l h b) (goes (hushed v) y tt e)

go_attend :
    {n num : ℕ} {f : Flight} {p : Phase} {s : State ours} (room : Bool) (m : Message) → Going n num f p s
    → (h : Lawful ours s (responder_hears room m)) → Silent (ours.responder_hear s.responder room m).says
    → Going n num (answer_to f h) p (step ours s (responder_hears room m))
go_attend false m (goes v y l e) h b = goes (hushed v) y tt e
go_attend {f = f} {p} true m (goes {r = r} {h = past} v y l e) h b =
    goes (attended_keeps m v h) (attend_fit p m r y b) (attended_flies f p r l h) (number_attended m r past ∙ e)

-- an order handed up meanwhile is answered at once, so that nothing is owed
go_serve :
    {n num : ℕ} {f : Flight} {p : Phase} {s : State ours} (room : Bool) (m : Message) (q a : Bytes) (w : Wide ours) → Going n num f p s
    → (h : Lawful ours s (responder_hears room m)) → (ours.responder_hear s.responder room m).says ≡ tells q
    → Going n num (answer_to f h) p (step ours (step ours s (responder_hears room m)) (answers w.room a))
go_serve false m q a w (goes v y l e) h b = absurd (subst⁻¹ IsTold b tt)
go_serve {n} {num} {f} {p} {s} true m q a w (goes {r = r} {h = past} v y l e) h b = go (heard_or_ignored f p r l h)
  where
    went : (x : Flight) → x ≡ theAnswer → Going n num x p (step ours (step ours s (responder_hears true m)) (answers w.room a))
    went x c =
        subst⁻¹ (λ x. Going n num x p (step ours (step ours s (responder_hears true m)) (answers w.room a))) c
        (at_wide (λ u. Going n num theAnswer p (step ours (step ours s (responder_hears true m)) (answers u.room a)))
        (goes (answer_keeps a (attended_keeps m v h)) (answer_fit p a r (row_hears r m).next y)
        (answer_flies p a (row_hears r m).next)
        (number_given a (row_hears r m).next
        (noted (row_hears r m).says (opening_heard (row_hears r m).says (is_opening m) past))
        ∙ (number_attended m r past ∙ e)))
        w)

    go :
        (FromInitiator m × (answer_to f h ≡ theAnswer)) ⊎ ((row_hears r m ≡ ignoring r) × (answer_to f h ≡ another))
        → Going n num (answer_to f h) p (step ours (step ours s (responder_hears true m)) (answers w.room a))
    go (inl c) = went (answer_to f h) c.1
    go (inr c) = absurd (subst IsTold (sym b ∙ ap (λ t. t.says) c.0) tt)

go_late :
    {n num : ℕ} {f : Flight} {p : Phase} {s : State ours} (room : Bool) (a : Bytes) → Going n num f p s
    → Going n num another p (step ours s (answers room a))
go_late false a (goes v y l e) = goes (hushed v) y tt e
go_late {p = p} true a (goes {r = r} {h = past} v y l e) =
    goes (answer_keeps a v) (answer_fit p a r r y) (late_flies p a r y) (number_given a r past ∙ e)

pub go_between :
    {n num : ℕ} {f : Flight} {p : Phase} {s z : State ours} → Between ours f s z → Going n num f p s
    → (x : Flight) × Going n num x p z
go_between {f = f} over g = (f, g)
go_between (silent_short room e rest) g = go_between rest (go_short room e g)
go_between (submits_beside room q rest) g = go_between rest (go_submit room q g)
go_between (initiator_misses room m h b rest) g = go_between rest (go_miss room m g h b)
go_between (responder_attends room m h b rest) g = go_between rest (go_attend room m g h b)
go_between (responder_serves room m h q e a rest) g =
    go_between rest (go_serve room m q a.bytes a.into g h e)
go_between (answers_late room a rest) g = go_between rest (go_late room a g)
