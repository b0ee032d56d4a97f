-- Laws of a call of an end, whichever end it is: `short_of_room`, `with_room_lem`, `short_of_lent`, `with_lent_lem`, `writes`, `said_back`,
-- `Keeps`, `Stays`.
use Prim.Native.Nat.{ℕ, ◌<◌, ◌≤◌}
use mathlib.Core.Bool.{Bool, true, false}
use mathlib.Core.List.{List}
use mathlib.Core.Path.{◌≡◌, refl, ap}
use native.Mathlib.Omega.{arith}
use lib.Dec.{ltb}
use lib.ListN.{length}
use borrow.Author.Tests.{lt-ltb, le-ltb}
use Rattle.ground.proofs.RefusalLaws.{refusal_of}
use Rattle.ground.specs.Pick.{if}
use Rattle.ground.specs.Refusals as refusals
use Rattle.ground.specs.Refusals.{OrRefused}
use Rattle.ground.specs.declared.refusal.Refusal.{Refusal}
use Rattle.link_rules.specs.Rules.{longest, room}
use Rattle.link_telegrams.specs.Turns.{Said, sent, tells, nothing, refused, Turn, saying, refusing, wrote, writes_of, with_room, with_lent}
use Rattle.telegram.specs.declared.header.DataTelegramHeader.{DataTelegramHeader}
use Rattle.telegram_tx.specs.Writing.{write_of, buffer_of}
use Rattle.telegram_tx.specs.declared.tx.TelegramTxResponse.{TelegramTxResponse}

-- ---- the room of a lent buffer

module _ {End Tale : Type 0} (end : End) (buf : List ℕ) (turn : Turn End Tale) where
  pub short_of_room : length buf < room → with_room end buf turn ≡ refusing 10 end buf
  short_of_room h = rw (lt-ltb _ _ h)

  pub with_room_lem : room ≤ length buf → with_room end buf turn ≡ turn
  with_room_lem h = rw (le-ltb _ _ h)

-- the bytes lent for the order or the held reply
module _ {End Tale : Type 0} (lent : List ℕ) (end : End) (buf : List ℕ) (turn : Turn End Tale) where
  pub short_of_lent : length lent < longest → with_lent lent end buf turn ≡ refusing 10 end buf
  short_of_lent h = rw (lt-ltb _ _ h)

  pub with_lent_lem : longest ≤ length lent → with_lent lent end buf turn ≡ turn
  with_lent_lem h = rw (le-ltb _ _ h)

-- ---- a telegram that is written

-- by what the writer answered, and by the buffer that it left
pub writes :
    {End Tale : Type 0} (given next : End) (h made : DataTelegramHeader) (pdu buf after : List ℕ)
    (answer : OrRefused TelegramTxResponse) (turn : Turn End Tale)
    → made ≡ h → answer ≡ write_of made pdu (length buf) → after ≡ buffer_of made pdu buf → turn ≡ wrote answer given next after
    → turn ≡ writes_of given next h pdu buf
writes given next h made pdu buf after answer turn e a b t = rw (t, a, b, e)

-- ---- what is said, led back to an answer

-- each word of `Said` to the answer that it is shown of
abbrev pub said_back : {A Tale : Type 0} → (ℕ → A) → (Tale → A) → A → (Refusal → A) → Said Tale → A
said_back onSent onTale onNothing onRefused (sent n) = onSent n
said_back onSent onTale onNothing onRefused (tells tale) = onTale tale
said_back onSent onTale onNothing onRefused nothing = onNothing
said_back onSent onTale onNothing onRefused (refused n) = onRefused (refusal_of n)

-- ---- what holds of the record that a call was given and of the one that goes on, holds of the record that comes back

pub record Keeps {End Tale : Type 0} (P : End → Type 0) (turn : Turn End Tale) : Type 0 where
  pub after : P turn.end

module _ {End Tale : Type 0} (P : End → Type 0) where
  pub kept : (turn : Turn End Tale) → P turn.end → Keeps P turn
  kept turn h = record { after = h }

  pub picked_keeps : (t : Bool) (x y : Turn End Tale) → Keeps P x → Keeps P y → Keeps P (if t x y)
  picked_keeps true x y h k = h
  picked_keeps false x y h k = k

  module _ (given : End) (h : P given) where
    wrote_keeps : (o : OrRefused TelegramTxResponse) (next : End) (buf : List ℕ) → P next → Keeps {Tale = Tale} P (wrote o given next buf)
    wrote_keeps (refusals.gives response) next buf g = kept _ g
    wrote_keeps (refusals.refused n) next buf g = kept _ h

    pub writes_keeps :
        (next : End) (d : DataTelegramHeader) (pdu buf : List ℕ) → P next
        → Keeps {Tale = Tale} P (writes_of given next d pdu buf)
    writes_keeps next d pdu buf g = wrote_keeps (write_of d pdu (length buf)) next (buffer_of d pdu buf) g

    pub room_keeps : (buf : List ℕ) (turn : Turn End Tale) → Keeps P turn → Keeps P (with_room given buf turn)
    room_keeps buf turn g = picked_keeps (ltb (length buf) room) (refusing 10 given buf) turn (kept _ h) g

-- ---- a refused call gives back the record that it was given

pub record Stays {End Tale : Type 0} (given : End) (turn : Turn End Tale) : Type 0 where
  pub same : (n : ℕ) → turn.said ≡ refused n → turn.end ≡ given

abbrev is_refused : {Tale : Type 0} → Said Tale → ℕ
is_refused (sent m) = 0
is_refused (tells tale) = 0
is_refused nothing = 0
is_refused (refused m) = 1

no_refusal : {Tale : Type 0} (said : Said Tale) (n : ℕ) → is_refused said ≡ 0 → said ≡ refused n → ⊥
no_refusal said n z e = let one : is_refused said ≡ 1 = ap is_refused e in omega (arith, z, one)

module _ {End Tale : Type 0} (given : End) where
  -- a call that is not refused may leave another record
  pub taken_stays : (turn : Turn End Tale) → is_refused turn.said ≡ 0 → Stays given turn
  taken_stays turn z = record { same = λ n e. absurd (no_refusal turn.said n z e) }

  pub same_stays : (said : Said Tale) (buf : List ℕ) → Stays given (saying said given buf)
  same_stays said buf = record { same = λ n e. refl }

  pub picked_stays : (t : Bool) (x y : Turn End Tale) → Stays given x → Stays given y → Stays given (if t x y)
  picked_stays true x y h k = h
  picked_stays false x y h k = k

  wrote_stays : (o : OrRefused TelegramTxResponse) (next : End) (buf : List ℕ) → Stays {Tale = Tale} given (wrote o given next buf)
  wrote_stays (refusals.gives response) next buf = taken_stays _ refl
  wrote_stays (refusals.refused n) next buf = same_stays _ buf

  pub writes_stays : (next : End) (d : DataTelegramHeader) (pdu buf : List ℕ) → Stays {Tale = Tale} given (writes_of given next d pdu buf)
  writes_stays next d pdu buf = wrote_stays (write_of d pdu (length buf)) next (buffer_of d pdu buf)

  pub room_stays : (buf : List ℕ) (turn : Turn End Tale) → Stays given turn → Stays given (with_room given buf turn)
  room_stays buf turn h = picked_stays (ltb (length buf) room) (refusing 10 given buf) turn (same_stays _ buf) h
