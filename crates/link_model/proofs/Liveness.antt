-- Our two ends keep the last sentence of demand 3. Reported silence writes the try again as long as one is left
-- (`Trying`). The try that passes then opens the link, or has the order handed up and answered, or its held reply
-- repeated. At the end: with none pending an order is taken.
use Prim.Native.Nat.{ℕ, suc, ◌+◌, ◌≤◌, ◌<◌}
use native.Mathlib.Omega.{arith}
use lib.Dec.{eqb}
use lib.ListN.{length, length-map}
use borrow.Author.Tests.{lt-ltb, eq-eqb}
use mathlib.Core.Bool.{Bool, true, false, true≢false, false≢true}
use mathlib.Core.List.{List, map}
use mathlib.Core.Option.{Option, some}
use mathlib.Core.Path.{◌≡◌, refl, sym, ◌∙◌, subst⁻¹}
use Rattle.ground.specs.Pick.{if}
use Rattle.link_model.specs.Messages.{Bit, low, high, Message, opening, order}
use Rattle.demand_3.specs.Turns.{Bytes, confirmed}
use Rattle.link_model.specs.Initiator.{Phase, opening_phase, order_phase, submit_in, silence_in}
use Rattle.link_model.specs.Responder.{Row}
use Rattle.demand_3.specs.History.{made, dropped, ended, Entry, History, openingSent, orderSent, counted, settled_in}
use Rattle.demand_3.specs.Line.{State, Call, submits, silent, sent_of, initiator_done, step, run, start, Obeys}
use Rattle.demand_3.specs.Safe.{entries_of}
use Rattle.demand_3.specs.Live.{report_at, any_pending, Takes, Accepted, Confirmed, Flight, theTry, Wide, Prompt, passes, Tried, passed, again, Phase as Reached, Phases, opens_first, order_at_once, Live}
use Rattle.link_model.specs.Ours.{ours}
use Rattle.link_model.proofs.Ignored.{FromInitiator}
use Rattle.link_model.proofs.Invariant.{gone_never, gone_once, never, once, just_opened, held_high, held_low, owing, holding, opening_a, order_o, order_s, Inv, at_rest, left_unserved, left_served, at_ready, at_asking, unserved, served}
use Rattle.link_model.proofs.Kept.{kept_settled}
use Rattle.link_model.proofs.Steps.{Rule}
use Rattle.link_model.proofs.Always.{InvOf, always}
use Rattle.link_model.proofs.Going.{wide, at_wide, Settled, Fit, latest_no, state_of, Going, goes, go_between}

-- its try is in flight
data Trying (n num : ℕ) (p : Phase) (m : Message) : State ours → Type 0 where
  tries :
      {c : Bool} {r : Row} {h : History} → Inv p r (some m) h true → Fit p r → latest_no h ≡ num → Trying n num p m (state_of n c p r (some m) h)

trying_goes : {n num : ℕ} {p : Phase} {m : Message} {s : State ours} → FromInitiator m → Trying n num p m s → Going n num theTry p s
trying_goes y (tries v f e) = goes v f y e

-- the two phases, by the telegrams written, and the telegram of each
data Which : Type 0 where
  asks : Bytes → Which
  sends : Bit → Bytes → Which

abbrev phase_of : Which → ℕ → Phase
phase_of (asks q) k = opening_phase q k
phase_of (sends b q) k = order_phase b q k

abbrev try_of : Which → Message
try_of (asks q) = opening
try_of (sends b q) = order b q

try_own : (f : Which) → FromInitiator (try_of f)
try_own (asks q) = tt
try_own (sends b q) = tt

-- silence, reported with room while a try is left: the telegram is written again
go_silent :
    {n num : ℕ} {x : Flight} {s : State ours} (f : Which) (k : ℕ) → suc k < n → Going n num x (phase_of f (suc k)) s → (w : Wide ours)
    → Trying n num (phase_of f (suc (suc k))) (try_of f) (step ours s (silent w.room))
go_silent {n} {num} {s = s} (asks q) k h (goes (at_asking v l) f y e) =
    at_wide (λ w. Trying n num (opening_phase q (suc (suc k))) opening (step ours s (silent w.room)))
    (subst⁻¹
    (λ more. Trying n num (opening_phase q (suc (suc k))) opening (initiator_done ours s s.is_closed s.unbroken s.past (silence_in more n (opening_phase q (suc k)))))
    (lt-ltb (suc k) n h) (tries (at_asking v opening_a) f e))
go_silent {n} {num} {s = s} (sends b q) k h (goes v f y e) =
    at_wide (λ w. Trying n num (order_phase b q (suc (suc k))) (order b q) (step ours s (silent w.room)))
    (subst⁻¹
    (λ more.
    Trying n num (order_phase b q (suc (suc k))) (order b q) (initiator_done ours s s.is_closed s.unbroken s.past (silence_in more n (order_phase b q (suc k)))))
    (lt-ltb (suc k) n h) (again_sent s.is_closed v f e))
  where
    again_sent :
        (c : Bool) {r : Row} {l : Option Message} {h : History} → Inv (order_phase b q (suc k)) r l h true → Settled r → latest_no h ≡ num
        → Trying n num (order_phase b q (suc (suc k))) (order b q)
        (state_of n c (order_phase b q (suc (suc k))) r (some (order b q)) (counted orderSent h))
    again_sent c (unserved kp y l) f e = tries (unserved kp y order_o) f e
    again_sent c (served kp y l) f e = tries (served kp y order_s) f e

tried_some : {k : ℕ} {s z : State ours} → Tried ours k s z → 1 ≤ k
tried_some (passed w p v) = omega arith
tried_some (again b w t) = omega arith

-- the tries before the one that passes change nothing: what the passing of a try gives, the phase gives
last_try :
    (Q : State ours → Type 0) (n num : ℕ) (f : Which)
    → ((k : ℕ) (s : State ours) (w : Wide ours) (p : Prompt ours) (v : Wide ours) → Trying n num (phase_of f (suc k)) (try_of f) s
    → Q (passes ours w p v s))
    → {j : ℕ} {s z : State ours} → Tried ours j s z → (k : ℕ) → k + j ≤ n → Trying n num (phase_of f (suc k)) (try_of f) s → Q z
last_try Q n num f d (passed {s} w p v) k h t = d k s w p v t
last_try Q n num f d (again {k = j} b w rest) k h t =
    last_try Q n num f d rest (suc k) (omega arith)
    (go_silent f k (omega (arith, tried_some rest)) (go_between b (trying_goes (try_own f) t)).1 w)

-- the opening passes both ways: the link is open, and the order is written
opening_passes_lem :
    (n num : ℕ) (q : Bytes) (k : ℕ) (s : State ours) (w : Wide ours) (p : Prompt ours) (v : Wide ours)
    → Trying n num (opening_phase q (suc k)) opening s → Trying n num (order_phase low q 1) (order low q) (passes ours w p v s)
opening_passes_lem n num q k s w p v (tries (at_asking {es = es} kp l) f e) =
    at_wide (λ x. Trying n num (order_phase low q 1) (order low q) (passes ours x p v s))
    (at_wide (λ x. Trying n num (order_phase low q 1) (order low q) (passes ours wide p x s))
    (tries (unserved (kept_settled dropped kp) just_opened order_o) tt (length-map es (settled_in dropped) ∙ e)) v) w

abbrev at_once : (a : Bytes) → true ≡ true → Wide ours → Prompt ours
at_once a e w = record { bytes = a; is_answerable = e; into = w }

-- the latest order has its number
shown_at :
    {num : ℕ} (r : Bytes) (k : ℕ) (es : List Entry) → length es ≡ num
    → (x : Bytes) × (j : ℕ) × (if (eqb num (length es)) (ended (confirmed r k)) (report_at num es) ≡ ended (confirmed x j))
shown_at {num} r k es e = (
  r,
  k,
  subst⁻¹ (λ x. if x (ended (confirmed r k)) (report_at num es) ≡ ended (confirmed r k)) (eq-eqb num (length es) (sym e)) refl,
)

confirms :
    {n num : ℕ} {b : Bit} {q : Bytes} {k : ℕ} {s : State ours} (a : Bytes) (e : true ≡ true)
    → Trying n num (order_phase b q (suc k)) (order b q) s → Confirmed num (passes ours wide (at_once a e wide) wide s).past
confirms {k = k} a e (tries (unserved {es = es} kp just_opened l) f y) =
    shown_at a (suc k) (map (settled_in (made a)) es) (length-map es (settled_in (made a)) ∙ y)
confirms {k = k} a e (tries (unserved {es = es} kp held_high l) f y) =
    shown_at a (suc k) (map (settled_in (made a)) es) (length-map es (settled_in (made a)) ∙ y)
confirms {k = k} a e (tries (unserved {es = es} kp held_low l) f y) =
    shown_at a (suc k) (map (settled_in (made a)) es) (length-map es (settled_in (made a)) ∙ y)
confirms a e (tries (served kp owing l) f y) = absurd f
confirms {b = low} {k = k} a e (tries (served {es = es} kp (holding {p = p}) l) f y) = shown_at p (suc k) es y
confirms {b = high} {k = k} a e (tries (served {es = es} kp (holding {p = p}) l) f y) = shown_at p (suc k) es y

-- the order passes both ways: it is handed up and answered, or was before and its held reply comes again; so it is
-- confirmed
order_passes_lem :
    (n num : ℕ) (b : Bit) (q : Bytes) (k : ℕ) (s : State ours) (w : Wide ours) (p : Prompt ours) (v : Wide ours)
    → Trying n num (order_phase b q (suc k)) (order b q) s → Confirmed num (passes ours w p v s).past
order_passes_lem n num b q k s w p v t =
    at_wide (λ x. Confirmed num (passes ours x p v s).past)
    (at_wide (λ x. Confirmed num (passes ours wide p x s).past)
    (at_wide (λ x. Confirmed num (passes ours wide (at_once p.bytes p.is_answerable x) wide s).past)
    (confirms p.bytes p.is_answerable t) p.into) v) w

-- the order's phase, entered with its first try in flight, confirms the order
order_phase_lem :
    {n num : ℕ} {b : Bit} {q : Bytes} {s z : State ours} → Trying n num (order_phase b q 1) (order b q) s → Reached ours s z
    → Confirmed num z.past
order_phase_lem {n} {num} {b} {q} (tries v f e) h =
    last_try (λ z. Confirmed num z.past) n num (sends b q) (order_passes_lem n num b q) h.tried 0 (omega (arith, h.to_tries))
    (tries v f e)

-- the opening's phase, entered so, leads into the order's
opening_phase_lem :
    {n num : ℕ} {q : Bytes} {s z : State ours} → Trying n num (opening_phase q 1) opening s → Reached ours s z
    → Trying n num (order_phase low q 1) (order low q) z
opening_phase_lem {n} {num} {q} (tries v f e) h =
    last_try (Trying n num (order_phase low q 1) (order low q)) n num (asks q) (opening_passes_lem n num q) h.tried 0
    (omega (arith, h.to_tries)) (tries v f e)

-- an order submitted on a closed link, and on an open one
live_closed :
    {n num : ℕ} {q : Bytes} {s z : State ours} → Trying n num (opening_phase q 1) opening s → Phases ours openingSent s z
    → Confirmed num z.past
live_closed t (opens_first first second) = order_phase_lem (opening_phase_lem t first) second

live_open :
    {n num : ℕ} {b : Bit} {q : Bytes} {s z : State ours} → Trying n num (order_phase b q 1) (order b q) s → Phases ours orderSent s z
    → Confirmed num z.past
live_open t (order_at_once phase) = order_phase_lem t phase

-- the last sentence for one order
abbrev LiveFor : State ours → Bool → Bytes → State ours → Type 0
LiveFor s room q z =
    Accepted (ours.submit s.initiator room q).says → (step ours s (submits room q)).unbroken ≡ true
    → Phases ours (sent_of ours (ours.submit s.initiator room q).writes) (step ours s (submits room q)) z
    → Confirmed (length (entries_of s.past)) z.past

live_for :
    (n : ℕ) (c : Bool) {p : Phase} {r : Row} {l : Option Message} {h : History} {u : Bool} (q : Bytes) (z : State ours) → Rule p c
    → Inv p r l h u
    → LiveFor
    (record {
      initiator = record { tries = n; phase = p };
      responder = r;
      line = l;
      tries = n;
      is_closed = c;
      unbroken = u;
      past = h;
    })
    true q z
live_for n true q z y (at_rest k l) a e f = live_closed (tries (at_asking k opening_a) tt refl) f
live_for n false q z y (at_rest k l) a e f = absurd (false≢true y)
live_for n true q z y (left_unserved g k w) a e f = live_closed (tries (at_asking (never (gone_never g) k) opening_a) tt refl) f
live_for n false q z y (left_unserved g k w) a e f = absurd (false≢true y)
live_for n true q z y (left_served g k w) a e f = live_closed (tries (at_asking (once (gone_once g) k) opening_a) tt refl) f
live_for n false q z y (left_served g k w) a e f = absurd (false≢true y)
live_for n true q z y (at_ready k w l) a e f = absurd (true≢false y)
live_for n false {u = false} q z y (at_ready k w l) a e f = absurd (false≢true e)
live_for n false {u = true} q z y (at_ready k just_opened l) a e f = live_open (tries (unserved k just_opened order_o) tt refl) f
live_for n false {u = true} q z y (at_ready k held_high l) a e f = live_open (tries (unserved k held_high order_o) tt refl) f
live_for n false {u = true} q z y (at_ready k held_low l) a e f = live_open (tries (unserved k held_low order_o) tt refl) f
live_for n c q z y (at_asking k l) a e f = absurd a
live_for n c q z y (unserved k w l) a e f = absurd a
live_for n c q z y (served k w l) a e f = absurd a

-- the same state with the tries of its initiator
abbrev with_tries : State ours → ℕ → State ours
with_tries s n =
    record {
      initiator = s.initiator;
      responder = s.responder;
      line = s.line;
      tries = n;
      is_closed = s.is_closed;
      unbroken = s.unbroken;
      past = s.past;
    }

live_at : (s : State ours) → InvOf s → Live ours s
live_at s v true q z =
    subst⁻¹ (λ n. LiveFor (with_tries s n) true q z) v.tries
    (live_for s.initiator.tries s.is_closed q z v.rule v.ends)
live_at s v false q z = λ a u f. absurd a

pub ours_live : (n : ℕ) (cs : List (Call ours)) → Obeys ours (start ours n) cs → Live ours (run ours (start ours n) cs)
ours_live n cs o = live_at (run ours (start ours n) cs) (always n cs o)

-- with none pending, an order is taken wherever the initiator stands
takes_for :
    (n : ℕ) {p : Phase} {r : Row} {l : Option Message} {h : History} {u : Bool} (q : Bytes) → Inv p r l h u
    → any_pending (entries_of h) ≡ false → Accepted (submit_in n p q).says
takes_for n q (at_rest k l) e = tt
takes_for n q (left_unserved g k y) e = tt
takes_for n q (left_served g k y) e = tt
takes_for n q (at_ready k y l) e = tt
takes_for n q (at_asking k l) e = absurd (true≢false e)
takes_for n q (unserved k y l) e = absurd (true≢false e)
takes_for n q (served k y l) e = absurd (true≢false e)

takes_at : (s : State ours) → InvOf s → Takes ours s
takes_at s v true q a b e = takes_for s.initiator.tries q v.ends e
takes_at s v false q a b e = absurd (false≢true a)

pub ours_takes : (n : ℕ) (cs : List (Call ours)) → Obeys ours (start ours n) cs → Takes ours (run ours (start ours n) cs)
ours_takes n cs o = takes_at (run ours (start ours n) cs) (always n cs o)
