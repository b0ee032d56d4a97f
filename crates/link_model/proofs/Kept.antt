-- What the invariant says of the orders is demand 3's first sentence; and it stays when replies are made or dropped.
use Prim.Native.Nat.{ℕ}
use lib.Dec.{lit≤}
use mathlib.Core.Bool.{false}
use mathlib.Core.List.{List, [], ◌∷◌, map}
use mathlib.Core.Path.{◌≡◌, refl, sym, ap, subst⁻¹}
use Rattle.demand_3.specs.Turns.{Bytes, confirmed, not_sent, unknown}
use Rattle.demand_3.specs.History.{Given, awaited, made, dropped, hand_up, Report, pending, abandoned, ended, Entry, entry, history, settled_in}
use Rattle.demand_3.specs.Safe.{Every, tries_of, carried_of, ConfirmedOnce, ConfirmedReply, NotSentNever, AtMostOnce, ByteForByte, TriesWritten, Safe}
use Rattle.link_model.proofs.Invariant.{Never, waits, left, unsent, lost, Once, waited, left_once, shown, lost_once, Kept, empty, never, once}

given : {r : Report} {o n : ℕ} (g : Given) → Once r awaited o n → Once r g o n
given g waited = waited
given g left_once = left_once
given g lost_once = lost_once

pub kept_settled : (g : Given) {es : List Entry} {cs : List Bytes} → Kept es cs → Kept (map (settled_in g) es) cs
kept_settled g empty = empty
kept_settled g (never x k) = never x (kept_settled g k)
kept_settled g (once {g = awaited} x k) = once (given g x) (kept_settled g k)
kept_settled g (once {g = made p} x k) = once x (kept_settled g k)
kept_settled g (once {g = dropped} x k) = once x (kept_settled g k)

-- reports told apart
abbrev pub IsConfirmed : Report → Type 0
IsConfirmed pending = ⊥
IsConfirmed abandoned = ⊥
IsConfirmed (ended (confirmed r k)) = Unit {0}
IsConfirmed (ended (not_sent k)) = ⊥
IsConfirmed (ended (unknown k)) = ⊥

abbrev IsNotSent : Report → Type 0
IsNotSent pending = ⊥
IsNotSent abandoned = ⊥
IsNotSent (ended (confirmed r k)) = ⊥
IsNotSent (ended (not_sent k)) = Unit {0}
IsNotSent (ended (unknown k)) = ⊥

abbrev IsEnded : Report → Type 0
IsEnded pending = ⊥
IsEnded abandoned = ⊥
IsEnded (ended o) = Unit {0}

abbrev shown_in : Report → Bytes
shown_in pending = []
shown_in abandoned = []
shown_in (ended (confirmed r k)) = r
shown_in (ended (not_sent k)) = []
shown_in (ended (unknown k)) = []

abbrev tries_in : Report → ℕ
tries_in pending = 0
tries_in abandoned = 0
tries_in (ended o) = tries_of o

unconfirmed : {r : Report} {o n : ℕ} → Never r o n → (p : Bytes) (k : ℕ) → r ≡ ended (confirmed p k) → ⊥
unconfirmed waits p k e = subst⁻¹ IsConfirmed e tt
unconfirmed left p k e = subst⁻¹ IsConfirmed e tt
unconfirmed unsent p k e = subst⁻¹ IsConfirmed e tt
unconfirmed lost p k e = subst⁻¹ IsConfirmed e tt

its_reply : {r : Report} {g : Given} {o n : ℕ} → Once r g o n → (p : Bytes) (k : ℕ) → r ≡ ended (confirmed p k) → g ≡ made p
its_reply waited p k e = absurd (subst⁻¹ IsConfirmed e tt)
its_reply left_once p k e = absurd (subst⁻¹ IsConfirmed e tt)
its_reply shown p k e = ap (λ r. made (shown_in r)) e
its_reply lost_once p k e = absurd (subst⁻¹ IsConfirmed e tt)

was_sent_lem : {r : Report} {g : Given} {o n : ℕ} → Once r g o n → (k : ℕ) → r ≡ ended (not_sent k) → ⊥
was_sent_lem waited k e = subst⁻¹ IsNotSent e tt
was_sent_lem left_once k e = subst⁻¹ IsNotSent e tt
was_sent_lem shown k e = subst⁻¹ IsNotSent e tt
was_sent_lem lost_once k e = subst⁻¹ IsNotSent e tt

tries_never : (q : Bytes) {r : Report} {o n : ℕ} → Never r o n → TriesWritten (entry q [] r o n)
tries_never q waits t e = absurd (subst⁻¹ IsEnded e tt)
tries_never q left t e = absurd (subst⁻¹ IsEnded e tt)
tries_never q unsent t e = sym (ap tries_in e)
tries_never q lost t e = sym (ap tries_in e)

tries_once : (q : Bytes) {r : Report} {g : Given} {o n : ℕ} → Once r g o n → TriesWritten (entry q (hand_up q g ∷ []) r o n)
tries_once q waited t e = absurd (subst⁻¹ IsEnded e tt)
tries_once q left_once t e = absurd (subst⁻¹ IsEnded e tt)
tries_once q shown t e = sym (ap tries_in e)
tries_once q lost_once t e = sym (ap tries_in e)

confirmed_once_lem : {es : List Entry} {cs : List Bytes} → Kept es cs → Every ConfirmedOnce es
confirmed_once_lem empty = tt
confirmed_once_lem (never x k) = (λ p n e. absurd (unconfirmed x p n e), confirmed_once_lem k)
confirmed_once_lem (once x k) = (λ p n e. refl, confirmed_once_lem k)

confirmed_reply_lem : {es : List Entry} {cs : List Bytes} → Kept es cs → Every ConfirmedReply es
confirmed_reply_lem empty = tt
confirmed_reply_lem (never x k) = (λ p n e. absurd (unconfirmed x p n e), confirmed_reply_lem k)
confirmed_reply_lem (once x k) = (λ p n e. ap (λ g. g ∷ []) (its_reply x p n e), confirmed_reply_lem k)

not_sent_never_lem : {es : List Entry} {cs : List Bytes} → Kept es cs → Every NotSentNever es
not_sent_never_lem empty = tt
not_sent_never_lem (never x k) = (λ n e. refl, not_sent_never_lem k)
not_sent_never_lem (once x k) = (λ n e. absurd (was_sent_lem x n e), not_sent_never_lem k)

at_most_once_lem : {es : List Entry} {cs : List Bytes} → Kept es cs → Every AtMostOnce es
at_most_once_lem empty = tt
at_most_once_lem (never x k) = (lit≤ tt, at_most_once_lem k)
at_most_once_lem (once x k) = (lit≤ tt, at_most_once_lem k)

in_order_lem : {es : List Entry} {cs : List Bytes} → Kept es cs → cs ≡ carried_of es
in_order_lem empty = refl
in_order_lem (never x k) = in_order_lem k
in_order_lem (once {q = q} x k) = ap (λ cs. q ∷ cs) (in_order_lem k)

byte_for_byte_lem : {es : List Entry} {cs : List Bytes} → Kept es cs → Every ByteForByte es
byte_for_byte_lem empty = tt
byte_for_byte_lem (never x k) = (tt, byte_for_byte_lem k)
byte_for_byte_lem (once x k) = ((refl, tt), byte_for_byte_lem k)

tries_written_lem : {es : List Entry} {cs : List Bytes} → Kept es cs → Every TriesWritten es
tries_written_lem empty = tt
tries_written_lem (never {q = q} x k) = (tries_never q x, tries_written_lem k)
tries_written_lem (once {q = q} x k) = (tries_once q x, tries_written_lem k)

pub kept_safe : {es : List Entry} {cs : List Bytes} → Kept es cs → Safe (history es cs false)
kept_safe k =
    record {
      confirmed_once = confirmed_once_lem k;
      confirmed_reply = confirmed_reply_lem k;
      not_sent_never = not_sent_never_lem k;
      at_most_once = at_most_once_lem k;
      in_order = in_order_lem k;
      byte_for_byte = byte_for_byte_lem k;
      one_outcome = refl;
      tries_written = tries_written_lem k;
    }
