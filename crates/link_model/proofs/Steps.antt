-- The invariant lasts: each call of our two ends, in each configuration.
use Prim.Native.Nat.{ℕ}
use mathlib.Core.Bool.{Bool, true, false, true≢false}
use mathlib.Core.List.{List}
use mathlib.Core.Option.{Option, none, some, IsSome}
use mathlib.Core.Path.{◌≡◌, ap, subst, subst⁻¹}
use Rattle.link_model.specs.Messages.{Bit, low, high, cycled, Message, opening, ok, order, reply, other, is_opening}
use Rattle.demand_3.specs.Turns.{Bytes, ignoring}
use Rattle.link_model.specs.Initiator.{Initiator, InitiatorTurn, Phase, closed, ready, opening_phase, order_phase, submit_in, silence_in, hear_in, hear_of, restart_in}
use Rattle.link_model.specs.Responder.{Row, RowTurn, blank, opened, owes, holds, row_hears, row_answers}
use Rattle.demand_3.specs.History.{Given, made, dropped, Entry, History, history, submitted, counted, reported, left_pending, noted, answered, opening_heard}
use Rattle.demand_3.specs.Line.{begun, sent_of, still_or, Heard, in_flight, stray}
use Rattle.link_model.specs.Ours.{ours}
use Rattle.link_model.proofs.Invariant.{gone_left, gone_lost, gone_never, gone_once, waits, left, unsent, lost, waited, left_once, shown, lost_once, Kept, empty, never, once, Ready, blank_row, just_opened, held_high, held_low, Served, forgotten, owing, holding, ClosedLine, none_c, opening_c, ok_c, reply_c, none_r, reply_r, none_a, opening_a, ok_a, reply_a, none_o, order_o, none_s, order_s, reply_s, Inv, at_rest, left_unserved, left_served, at_ready, at_asking, unserved, served}
use Rattle.link_model.proofs.Kept.{kept_settled}

-- the invariant after a call of the initiator, and after one of the responder
abbrev pub AfterInitiator : Row → History → Bool → InitiatorTurn → Type 0
AfterInitiator r h u t = Inv t.next.phase r t.writes (reported t.says (counted (sent_of ours t.writes) h)) u

abbrev pub AfterResponder : Phase → History → Bool → RowTurn → Type 0
AfterResponder p h u t = Inv p t.next t.writes (noted t.says h) u

-- a call that does nothing, or is refused, empties the line
pub hushed : {p : Phase} {r : Row} {l : Option Message} {h : History} {u : Bool} → Inv p r l h u → Inv p r none h u
hushed (at_rest k l) = at_rest k none_c
hushed (left_unserved g k y) = at_rest (never (gone_never g) k) none_c
hushed (left_served g k y) = at_rest (once (gone_once g) k) none_c
hushed (at_ready k y l) = at_ready k y none_r
hushed (at_asking k l) = at_asking k none_a
hushed (unserved k y l) = unserved k y none_o
hushed (served k y l) = served k y none_s

-- the initiator has the link closed and open as document 01's rule has it
abbrev pub Rule : Phase → Bool → Type 0
Rule closed c = c ≡ true
Rule (ready b) c = c ≡ false
Rule (opening_phase q k) c = c ≡ true
Rule (order_phase b q k) c = Unit {0}

-- an order is accepted, or one is pending
pub submit_keeps :
    (n : ℕ) (q : Bytes) (c : Bool) {p : Phase} {r : Row} {l : Option Message} {h : History} {u : Bool} → Rule p c → Inv p r l h u
    → AfterInitiator r (submitted (submit_in n p q).says q h) (begun (submit_in n p q).says c u) (submit_in n p q)
submit_keeps n q c e (at_rest k l) = at_asking k opening_a
submit_keeps n q c e (left_unserved g k y) = at_asking (never (gone_never g) k) opening_a
submit_keeps n q c e (left_served g k y) = at_asking (once (gone_once g) k) opening_a
submit_keeps n q true e (at_ready k y l) = absurd (true≢false e)
submit_keeps n q false e (at_ready k y l) = unserved k y order_o
submit_keeps n q c e (at_asking k l) = at_asking k none_a
submit_keeps n q c e (unserved k y l) = unserved k y none_o
submit_keeps n q c e (served k y l) = served k y none_s

pub silence_keeps :
    (more : Bool) (n : ℕ) {p : Phase} {r : Row} {l : Option Message} {h : History} {u : Bool} → Inv p r l h u
    → AfterInitiator r h u (silence_in more n p)
silence_keeps more n (at_rest k l) = at_rest k none_c
silence_keeps more n (left_unserved g k y) = at_rest (never (gone_never g) k) none_c
silence_keeps more n (left_served g k y) = at_rest (once (gone_once g) k) none_c
silence_keeps more n (at_ready k y l) = at_ready k y none_r
silence_keeps true n (at_asking k l) = at_asking k opening_a
silence_keeps false n (at_asking k l) = at_rest (never unsent k) none_c
silence_keeps true n (unserved k y l) = unserved k y order_o
silence_keeps false n (unserved k y l) = at_rest (never lost k) none_c
silence_keeps true n (served k y l) = served k y order_s
silence_keeps false n (served k y l) = at_rest (once lost_once k) none_c

-- the row has the pending order's bit once the reply was made: the next order's bit is the other one
next_ready : {u : Bool} {b : Bit} {r : Row} {p : Bytes} → Served u b r (made p) → Ready u (cycled b) r
next_ready forgotten = blank_row
next_ready {b = low} holding = held_low
next_ready {b = high} holding = held_high

pub hear_keeps :
    (n : ℕ) (m : Message) {p : Phase} {r : Row} {h : History} {u : Bool} → Inv p r (some m) h u
    → AfterInitiator r h u (hear_in n p m)
hear_keeps n m (at_rest k l) = at_rest k none_c
hear_keeps n m (left_unserved g k y) = at_rest (never (gone_never g) k) none_c
hear_keeps n m (left_served g k y) = at_rest (once (gone_once g) k) none_c
hear_keeps n m (at_ready k y l) = at_ready k y none_r
hear_keeps n opening (at_asking k opening_a) = at_asking k none_a
hear_keeps n ok (at_asking k (ok_a y)) = unserved k y order_o
hear_keeps n (reply p) (at_asking k reply_a) = at_asking k none_a
hear_keeps n (order b q) (unserved k y order_o) = unserved k y none_o
hear_keeps n (order b q) (served k y order_s) = served k y none_s
hear_keeps n (reply p) (served k y reply_s) = at_ready (once shown k) (next_ready y) none_r
hear_keeps n (order b q) (at_asking k x) = elim x [ ]
hear_keeps n other (at_asking k x) = elim x [ ]
hear_keeps n opening (unserved k y x) = elim x [ ]
hear_keeps n ok (unserved k y x) = elim x [ ]
hear_keeps n (reply p) (unserved k y x) = elim x [ ]
hear_keeps n other (unserved k y x) = elim x [ ]
hear_keeps n opening (served k y x) = elim x [ ]
hear_keeps n ok (served k y x) = elim x [ ]
hear_keeps n other (served k y x) = elim x [ ]

-- an end has restarted: nothing is said of a stored bit any more
ready_broken : {u : Bool} {b : Bit} {r : Row} → Ready u b r → Ready false b r
ready_broken blank_row = blank_row
ready_broken just_opened = just_opened
ready_broken held_high = held_high
ready_broken held_low = held_low

served_broken : {u : Bool} {b : Bit} {r : Row} {g : Given} → Served u b r g → Served false b r g
served_broken forgotten = forgotten
served_broken owing = owing
served_broken holding = holding

rest_left :
    {r : Row} {l : Option Message} {es : List Entry} {cs : List Bytes} → Kept es cs → ClosedLine l
    → Inv closed r l (left_pending (history es cs false)) false
rest_left empty l = at_rest empty l
rest_left (never waits k) l = at_rest (never left k) l
rest_left (never left k) l = at_rest (never left k) l
rest_left (never unsent k) l = at_rest (never unsent k) l
rest_left (never lost k) l = at_rest (never lost k) l
rest_left (once waited k) l = at_rest (once left_once k) l
rest_left (once left_once k) l = at_rest (once left_once k) l
rest_left (once shown k) l = at_rest (once shown k) l
rest_left (once lost_once k) l = at_rest (once lost_once k) l

pub made_keeps :
    {p : Phase} {r : Row} {l : Option Message} {h : History} {u : Bool} → Inv p r l h u
    → Inv closed r l (left_pending h) false
made_keeps (at_rest k l) = rest_left k l
made_keeps (left_unserved gone_left k y) = left_unserved gone_left k y
made_keeps (left_unserved gone_lost k y) = left_unserved gone_lost k y
made_keeps (left_served gone_left k y) = left_served gone_left k y
made_keeps (left_served gone_lost k y) = left_served gone_lost k y
made_keeps (at_ready k y none_r) = rest_left k none_c
made_keeps (at_ready k y reply_r) = rest_left k reply_c
made_keeps (at_asking k none_a) = at_rest (never left k) none_c
made_keeps (at_asking k opening_a) = at_rest (never left k) opening_c
made_keeps (at_asking k (ok_a y)) = at_rest (never left k) ok_c
made_keeps (at_asking k reply_a) = at_rest (never left k) reply_c
made_keeps (unserved k y none_o) = at_rest (never left k) none_c
made_keeps (unserved k y order_o) = left_unserved gone_left k (ready_broken y)
made_keeps (served k y none_s) = at_rest (once left_once k) none_c
made_keeps (served k y order_s) = left_served gone_left k (served_broken y)
made_keeps (served k y reply_s) = at_rest (once left_once k) reply_c

-- a restart: as a record made anew, but the pending order is reported
pub restart_keeps :
    (n : ℕ) {p : Phase} {r : Row} {l : Option Message} {h : History} {u : Bool} → Inv p r l h u
    → Inv (restart_in n p).next.phase r (still_or (restart_in n p).writes l)
    (reported (restart_in n p).says (counted (sent_of ours (restart_in n p).writes) h)) false
restart_keeps n (at_rest k l) = at_rest k l
restart_keeps n (left_unserved g k y) = left_unserved g k y
restart_keeps n (left_served g k y) = left_served g k y
restart_keeps n (at_ready k y none_r) = at_rest k none_c
restart_keeps n (at_ready k y reply_r) = at_rest k reply_c
restart_keeps n (at_asking k none_a) = at_rest (never unsent k) none_c
restart_keeps n (at_asking k opening_a) = at_rest (never unsent k) opening_c
restart_keeps n (at_asking k (ok_a y)) = at_rest (never unsent k) ok_c
restart_keeps n (at_asking k reply_a) = at_rest (never unsent k) reply_c
restart_keeps n (unserved k y none_o) = at_rest (never lost k) none_c
restart_keeps n (unserved k y order_o) = left_unserved gone_lost k (ready_broken y)
restart_keeps n (served k y none_s) = at_rest (once lost_once k) none_c
restart_keeps n (served k y order_s) = left_served gone_lost k (served_broken y)
restart_keeps n (served k y reply_s) = at_rest (once lost_once k) reply_c

pub attend_keeps :
    (m : Message) {p : Phase} {r : Row} {h : History} {u : Bool} → Inv p r (some m) h u
    → AfterResponder p (opening_heard (row_hears r m).says (is_opening m) h) u (row_hears r m)
attend_keeps opening (at_rest k opening_c) = at_rest (kept_settled dropped k) ok_c
attend_keeps ok (at_rest k ok_c) = at_rest k none_c
attend_keeps (reply p) (at_rest k reply_c) = at_rest k none_c
attend_keeps (order b q) (left_unserved g k blank_row) = at_rest (never (gone_never g) k) none_c
attend_keeps (order b q) (left_unserved g k just_opened) = at_rest (once (gone_once g) k) none_c
attend_keeps (order b q) (left_unserved g k held_high) = at_rest (once (gone_once g) k) none_c
attend_keeps (order b q) (left_unserved g k held_low) = at_rest (once (gone_once g) k) none_c
attend_keeps (order b q) (left_served g k forgotten) = at_rest (once (gone_once g) k) none_c
attend_keeps (order low q) (left_served g k owing) = at_rest (once (gone_once g) k) none_c
attend_keeps (order high q) (left_served g k owing) = at_rest (once (gone_once g) k) none_c
attend_keeps (order low q) (left_served g k holding) = at_rest (once (gone_once g) k) reply_c
attend_keeps (order high q) (left_served g k holding) = at_rest (once (gone_once g) k) reply_c
attend_keeps (reply p) (at_ready k y reply_r) = at_ready k y none_r
attend_keeps opening (at_asking k opening_a) = at_asking (kept_settled dropped k) (ok_a just_opened)
attend_keeps ok (at_asking k (ok_a y)) = at_asking k none_a
attend_keeps (reply p) (at_asking k reply_a) = at_asking k none_a
attend_keeps (order b q) (unserved k blank_row order_o) = unserved k blank_row none_o
attend_keeps (order b q) (unserved k just_opened order_o) = served k owing none_s
attend_keeps (order b q) (unserved k held_high order_o) = served k owing none_s
attend_keeps (order b q) (unserved k held_low order_o) = served k owing none_s
attend_keeps (order b q) (served k forgotten order_s) = served k forgotten none_s
attend_keeps (order low q) (served k owing order_s) = served k owing none_s
attend_keeps (order high q) (served k owing order_s) = served k owing none_s
attend_keeps (order low q) (served k holding order_s) = served k holding reply_s
attend_keeps (order high q) (served k holding order_s) = served k holding reply_s
attend_keeps (reply p) (served k y reply_s) = served k y none_s
attend_keeps other v = hushed v
attend_keeps opening (at_ready k y x) = elim x [ ]
attend_keeps opening (unserved k _ x) = elim x [ ]
attend_keeps opening (served k y x) = elim x [ ]
attend_keeps ok (at_ready k y x) = elim x [ ]
attend_keeps ok (unserved k _ x) = elim x [ ]
attend_keeps ok (served k y x) = elim x [ ]
attend_keeps (order b q) (at_rest k x) = elim x [ ]
attend_keeps (order b q) (at_ready k y x) = elim x [ ]
attend_keeps (order b q) (at_asking k x) = elim x [ ]
attend_keeps (reply p) (unserved k _ x) = elim x [ ]

pub answer_keeps :
    (a : Bytes) {p : Phase} {r : Row} {l : Option Message} {h : History} {u : Bool} → Inv p r l h u
    → AfterResponder p (answered (row_answers r a).says a h) u (row_answers r a)
answer_keeps a (at_rest {r = blank} k l) = at_rest k none_c
answer_keeps a (at_rest {r = opened} k l) = at_rest k none_c
answer_keeps a (at_rest {r = owes b} k l) = at_rest (kept_settled (made a) k) reply_c
answer_keeps a (at_rest {r = holds b p} k l) = at_rest k none_c
answer_keeps a (left_unserved g k blank_row) = at_rest (never (gone_never g) k) none_c
answer_keeps a (left_unserved g k just_opened) = at_rest (never (gone_never g) k) none_c
answer_keeps a (left_unserved g k held_high) = at_rest (never (gone_never g) k) none_c
answer_keeps a (left_unserved g k held_low) = at_rest (never (gone_never g) k) none_c
answer_keeps a (left_served g k forgotten) = at_rest (once (gone_once g) k) none_c
answer_keeps a (left_served g k owing) = at_rest (once (gone_once g) (kept_settled (made a) k)) reply_c
answer_keeps a (left_served g k holding) = at_rest (once (gone_once g) k) none_c
answer_keeps a (at_ready k blank_row l) = at_ready k blank_row none_r
answer_keeps a (at_ready k just_opened l) = at_ready k just_opened none_r
answer_keeps a (at_ready k held_high l) = at_ready k held_high none_r
answer_keeps a (at_ready k held_low l) = at_ready k held_low none_r
answer_keeps a (at_asking {r = blank} k l) = at_asking k none_a
answer_keeps a (at_asking {r = opened} k l) = at_asking k none_a
answer_keeps a (at_asking {r = owes b} k l) = at_asking (kept_settled (made a) k) reply_a
answer_keeps a (at_asking {r = holds b p} k l) = at_asking k none_a
answer_keeps a (unserved k blank_row l) = unserved k blank_row none_o
answer_keeps a (unserved k just_opened l) = unserved k just_opened none_o
answer_keeps a (unserved k held_high l) = unserved k held_high none_o
answer_keeps a (unserved k held_low l) = unserved k held_low none_o
answer_keeps a (served k forgotten l) = served k forgotten none_s
answer_keeps a (served k owing l) = served (kept_settled (made a) k) holding reply_s
answer_keeps a (served k holding l) = served k holding none_s

pub row_made_keeps :
    {p : Phase} {r : Row} {l : Option Message} {h : History} {u : Bool} → Inv p r l h u → Inv p blank l h false
row_made_keeps (at_rest k l) = at_rest k l
row_made_keeps (left_unserved g k y) = left_unserved g k blank_row
row_made_keeps (left_served g k y) = left_served g k forgotten
row_made_keeps (at_ready k y l) = at_ready k blank_row l
row_made_keeps (at_asking k none_a) = at_asking k none_a
row_made_keeps (at_asking k opening_a) = at_asking k opening_a
row_made_keeps (at_asking k (ok_a y)) = at_asking k (ok_a blank_row)
row_made_keeps (at_asking k reply_a) = at_asking k reply_a
row_made_keeps (unserved k y l) = unserved k blank_row l
row_made_keeps (served k y l) = served k forgotten l

-- what is heard is the telegram in flight, or is ignored
pub heard_keeps :
    (i : Initiator) (m : Message) {r : Row} {l : Option Message} {h : History} {u : Bool} → Inv i.phase r l h u
    → Heard (λ x. hear_of i x ≡ ignoring i) l m → AfterInitiator r h u (hear_of i m)
heard_keeps i m v in_flight = hear_keeps i.tries m v
heard_keeps i m {r} {h = h} {u} v (stray e) = subst⁻¹ (AfterInitiator r h u) e (hushed v)

unheard :
    (m : Message) {p : Phase} {r : Row} {h : History} {u : Bool} → Inv p r none h u → row_hears r m ≡ ignoring r
    → AfterResponder p (opening_heard (row_hears r m).says (is_opening m) h) u (row_hears r m)
unheard opening v e = absurd (subst IsSome (ap (λ t. t.writes) e) tt)
unheard ok v e = v
unheard (order b q) {p} {h = h} {u} v e = subst⁻¹ (λ t. AfterResponder p (opening_heard t.says false h) u t) e v
unheard (reply q) v e = v
unheard other v e = v

pub attended_keeps :
    (m : Message) {p : Phase} {r : Row} {l : Option Message} {h : History} {u : Bool} → Inv p r l h u
    → Heard (λ x. row_hears r x ≡ ignoring r) l m
    → AfterResponder p (opening_heard (row_hears r m).says (is_opening m) h) u (row_hears r m)
attended_keeps m v in_flight = attend_keeps m v
attended_keeps m v (stray e) = unheard m (hushed v) e
