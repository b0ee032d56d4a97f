-- The first sentence of demand 3, on what has happened in a run: "a confirmed order was carried out exactly once and
-- shows the reply made then; an order reported not sent was never carried out; an unknown or pending one at most
-- once; and orders are carried out in the order submitted". Beside it stands what the sentence takes for granted: what
-- is carried out is what was submitted, an order has one outcome, and the tries reported are the telegrams written.
use Rattle.std.specs.Prelude.{ℕ, zero, suc, ◌≤◌, length, false, List, [], ◌∷◌, map, ◌++◌, ◌≡◌}
use Rattle.demand_3.specs.Turns.{Bytes, Outcome, confirmed, not_sent, unknown}
use Rattle.demand_3.specs.History.{Given, made, HandUp, hand_up, Report, ended, Entry, entry, History, history}

-- every one of a list
abbrev pub Every : {A : Type 0} → (A → Type 0) → List A → Type 0
Every P [] = Unit {0}
Every P (x ∷ xs) = P x × Every P xs

-- the bytes of an order, its carryings-out, and what was reported of it
abbrev pub order_of : Entry → Bytes
order_of (entry q u r o n) = q

abbrev pub hand_ups_of : Entry → List HandUp
hand_ups_of (entry q u r o n) = u

abbrev pub report_of : Entry → Report
report_of (entry q u r o n) = r

-- the bytes that were handed up, and the reply to them
abbrev pub bytes_of : HandUp → Bytes
bytes_of (hand_up p g) = p

abbrev pub given_of : HandUp → Given
given_of (hand_up p g) = g

-- how often an order was carried out
abbrev pub times_of : Entry → ℕ
times_of e = length (hand_ups_of e)

-- the tries that an outcome reports
abbrev pub tries_of : Outcome → ℕ
tries_of (confirmed r k) = k
tries_of (not_sent k) = k
tries_of (unknown k) = k

-- the telegrams written in an order's last phase: the order's, if it was reached, else the opening's
abbrev pub written_of : Entry → ℕ
written_of (entry q u r o zero) = o
written_of (entry q u r o (suc n)) = suc n

-- the orders that were carried out, as often as they were, by the order in which they were submitted (latest first)
abbrev pub carried_of : List Entry → List Bytes
carried_of [] = []
carried_of (e ∷ es) = map (λ u. order_of e) (hand_ups_of e) ++ carried_of es

-- the orders submitted, latest first
abbrev pub entries_of : History → List Entry
entries_of (history es cs x) = es

-- "a confirmed order was carried out exactly once …"
abbrev pub ConfirmedOnce : Entry → Type 0
ConfirmedOnce e = (r : Bytes) (k : ℕ) → report_of e ≡ ended (confirmed r k) → times_of e ≡ 1

-- "… and shows the reply made then"
abbrev pub ConfirmedReply : Entry → Type 0
ConfirmedReply e = (r : Bytes) (k : ℕ) → report_of e ≡ ended (confirmed r k) → map given_of (hand_ups_of e) ≡ made r ∷ []

-- "an order reported not sent was never carried out"
abbrev pub NotSentNever : Entry → Type 0
NotSentNever e = (k : ℕ) → report_of e ≡ ended (not_sent k) → times_of e ≡ 0

-- "an unknown or pending one at most once": any order, whatever is reported of it
abbrev pub AtMostOnce : Entry → Type 0
AtMostOnce e = times_of e ≤ 1

-- what is handed up is the order submitted, byte for byte
abbrev pub ByteForByte : Entry → Type 0
ByteForByte e = Every (λ u. bytes_of u ≡ order_of e) (hand_ups_of e)

-- the tries reported are the telegrams written in the last phase
abbrev pub TriesWritten : Entry → Type 0
TriesWritten e = (o : Outcome) → report_of e ≡ ended o → tries_of o ≡ written_of e

-- "orders are carried out in the order submitted": all that was handed up, as it came in time, is the orders that were
-- carried out, as they were submitted
abbrev pub InOrder : History → Type 0
InOrder (history es cs x) = cs ≡ carried_of es

-- no outcome is reported with no order pending: so an order has one outcome at most, and one left pending has none
abbrev pub Determined : History → Type 0
Determined (history es cs x) = x ≡ false

-- The first sentence of demand 3, on what has happened.
pub record Safe (h : History) : Type 0 where
  pub confirmed_once : Every ConfirmedOnce (entries_of h)
  pub confirmed_reply : Every ConfirmedReply (entries_of h)
  pub not_sent_never : Every NotSentNever (entries_of h)
  pub at_most_once : Every AtMostOnce (entries_of h)
  pub in_order : InOrder h
  pub byte_for_byte : Every ByteForByte (entries_of h)
  pub one_outcome : Determined h
  pub tries_written : Every TriesWritten (entries_of h)
