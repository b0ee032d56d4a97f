-- How a history fails a clause of demand 3.
use Prim.Native.Nat.{ℕ}
use native.Mathlib.Omega.{arith}
use lib.Dec.{T, eqb, eqb_refl, T_not, lit≤}
use lib.ListN.{get_or}
use mathlib.Core.Bool.{Bool, true, not, true≢false}
use mathlib.Core.List.{List, [], ◌∷◌}
use mathlib.Core.Path.{◌≡◌, refl, ap, subst, subst⁻¹}
use Rattle.demand_3.specs.Turns.{Bytes, Outcome, confirmed, not_sent}
use Rattle.demand_3.specs.History.{Given, made, awaited, dropped, HandUp, hand_up, Report, ended, Entry, entry, History, history}
use Rattle.link_rules.specs.Rules.{Permitted}
use Rattle.demand_3.specs.Safe.{tries_of, written_of, entries_of, Safe}
use Rattle.demand_3.specs.Live.{report_at, Confirmed}
use Rattle.link_model.proofs.Kept.{IsConfirmed}

pub one_try : Permitted 1
one_try = record { from_one = lit≤ tt; to_most = lit≤ tt }

pub two_tries : Permitted 2
two_tries = record { from_one = lit≤ tt; to_most = lit≤ tt }

pub three_tries : Permitted 3
three_tries = record { from_one = lit≤ tt; to_most = lit≤ tt }

differ : (m n : ℕ) → T (not (eqb m n)) → m ≡ n → ⊥
differ m n t e = T_not (eqb m n) t (subst (λ x. T (eqb m x)) e (eqb_refl m))

-- the first byte of the first reply
abbrev first_of : List Given → ℕ
first_of [] = 0
first_of (awaited ∷ gs) = 0
first_of (dropped ∷ gs) = 0
first_of (made p ∷ gs) = get_or p 0 0

-- the latest order is confirmed and was never carried out
pub never_done :
    {q r : Bytes} {k o n : ℕ} {es : List Entry} {cs : List Bytes} {x : Bool}
    → Safe (history (entry q [] (ended (confirmed r k)) o n ∷ es) cs x) → ⊥
never_done {r = r} {k} s = subst (λ m. T (eqb m 0)) (s.confirmed_once.0 r k refl) tt

-- the latest order was carried out twice
pub done_twice :
    {q : Bytes} {a b : HandUp} {us : List HandUp} {t : Report} {o n : ℕ} {es : List Entry} {cs : List Bytes} {x : Bool}
    → Safe (history (entry q (a ∷ b ∷ us) t o n ∷ es) cs x) → ⊥
done_twice s = omega (arith, s.at_most_once.0)

-- the latest order is reported not sent and was carried out
pub sent_yet :
    {q : Bytes} {a : HandUp} {us : List HandUp} {k o n : ℕ} {es : List Entry} {cs : List Bytes} {x : Bool}
    → Safe (history (entry q (a ∷ us) (ended (not_sent k)) o n ∷ es) cs x) → ⊥
sent_yet {k = k} s = omega (arith, s.not_sent_never.0 k refl)

-- the latest order is confirmed with another reply than the one made, by the first byte
pub other_reply :
    {q p : Bytes} {a b k o n : ℕ} {es : List Entry} {cs : List Bytes} {x : Bool} → T (not (eqb a b))
    → Safe (history (entry q (hand_up p (made (a ∷ [])) ∷ []) (ended (confirmed (b ∷ []) k)) o n ∷ es) cs x) → ⊥
other_reply {a = a} {b} {k} t s = differ a b t (ap first_of (s.confirmed_reply.0 (b ∷ []) k refl))

-- the latest order's outcome reports another number than the telegrams written
pub other_tries :
    {q : Bytes} {us : List HandUp} {t : Outcome} {o n : ℕ} {es : List Entry} {cs : List Bytes} {x : Bool}
    → T (not (eqb (tries_of t) (written_of (entry q us (ended t) o n))))
    → Safe (history (entry q us (ended t) o n ∷ es) cs x) → ⊥
other_tries {q} {us = us} {t} {o} {n} y s = differ (tries_of t) (written_of (entry q us (ended t) o n)) y (s.tries_written.0 t refl)

abbrev AreAwaited : List Given → Type 0
AreAwaited [] = ⊥
AreAwaited (awaited ∷ gs) = Unit {0}
AreAwaited (dropped ∷ gs) = ⊥
AreAwaited (made p ∷ gs) = ⊥

-- the latest order is confirmed before its reply was made
pub reply_unmade :
    {q p r : Bytes} {k o n : ℕ} {es : List Entry} {cs : List Bytes} {x : Bool}
    → Safe (history (entry q (hand_up p awaited ∷ []) (ended (confirmed r k)) o n ∷ es) cs x) → ⊥
reply_unmade {r = r} {k} s = subst AreAwaited (s.confirmed_reply.0 r k refl) tt

-- other bytes than the order's are handed up, by the first byte
pub other_bytes :
    {a b : ℕ} {g : Given} {us : List HandUp} {t : Report} {o n : ℕ} {es : List Entry} {cs : List Bytes} {x : Bool} → T (not (eqb a b))
    → Safe (history (entry (b ∷ []) (hand_up (a ∷ []) g ∷ us) t o n ∷ es) cs x) → ⊥
other_bytes {a} {b} y s = differ a b y (ap (λ p. get_or p 0 0) s.byte_for_byte.0.0)

-- another order is carried out than the latest, by the first byte
pub other_order :
    {a b : ℕ} {u : HandUp} {us : List HandUp} {t : Report} {o n : ℕ} {es : List Entry} {cs : List Bytes} {x : Bool} → T (not (eqb a b))
    → Safe (history (entry (b ∷ []) (u ∷ us) t o n ∷ es) ((a ∷ []) ∷ cs) x) → ⊥
other_order {a} {b} y s = differ a b y (ap (λ ps. get_or (get_or ps 0 []) 0 0) s.in_order)

-- an outcome is reported with no order pending
pub second_outcome : {es : List Entry} {cs : List Bytes} → Safe (history es cs true) → ⊥
second_outcome s = true≢false s.one_outcome

-- an order that the last sentence wants confirmed is not
pub not_confirmed : (n : ℕ) (h : History) → (IsConfirmed (report_at n (entries_of h)) → ⊥) → Confirmed n h → ⊥
not_confirmed n h bad e = bad (subst⁻¹ IsConfirmed e.2 tt)
