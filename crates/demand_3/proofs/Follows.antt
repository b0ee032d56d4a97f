-- One pair of ends follows another: each call of the first, seen through a view of its records and of its telegrams,
-- is that call of the second. Ends on bytes follow ours on messages so: the view takes a record to its state, and a
-- telegram to the message that it carries.
use Prim.Native.Nat.{ℕ}
use mathlib.Core.Bool.{true}
use mathlib.Core.Logic.{◌⊎◌}
use mathlib.Core.Option.{Option, none, some, map}
use mathlib.Core.Path.{◌≡◌}
use Rattle.demand_3.specs.Turns.{Bytes, Turn}
use Rattle.demand_3.specs.Line.{Pair}
use Rattle.link_rules.specs.Rules.{Permitted}

-- what was written, if anything, is of this kind
abbrev pub Written : {A : Type 0} → (A → Type 0) → Option A → Type 0
Written Q none = Unit {0}
Written Q (some a) = Q a

-- a call's turn, seen through a view of the record and of the telegrams; the answer is the same
abbrev pub seen_turn : {E F A B Tale : Type 0} → (E → F) → (A → B) → Turn E A Tale → Turn F B Tale
seen_turn view f t = record { next = view t.next; writes = map f t.writes; says = t.says }

-- a call of the one end is, through the views, the call of the other, and leaves a sound record and a sound telegram
pub record Same {E F A B Tale : Type 0} (view : E → F) (f : A → B) (SoundEnd : E → Type 0) (Sound : A → Type 0) (t : Turn E A Tale) (u : Turn F B Tale)
    : Type 0 where
  pub same : seen_turn view f t ≡ u
  pub sound_next : SoundEnd t.next
  pub sound_writes : Written Sound t.writes

pub record Follows (S O : Pair) : Type 1 where
  -- the views of the records and of the telegrams
  pub view_initiator : S.Initiator → O.Initiator
  pub view_responder : S.Responder → O.Responder
  pub view_telegram : S.Telegram → O.Telegram
  -- the views of the rooms; an order or an answer that the first refuses for its length is one for which the second
  -- has no room
  pub view_room : S.Room → O.Room
  pub view_submit : S.Room → Bytes → O.Room
  pub view_answer : S.Room → Bytes → O.Room
  -- which records and which telegrams in flight can come about
  pub SoundInitiator : S.Initiator → Type 0
  pub SoundResponder : S.Responder → Type 0
  pub SoundTelegram : S.Telegram → Type 0
  -- an opening is an opening, room is room, and an answer that may be given may be given
  pub same_opens : (t : S.Telegram) → S.opens t ≡ O.opens (view_telegram t)
  pub same_enough : (room : S.Room) → S.enough room ≡ O.enough (view_room room)
  pub same_answerable : (p : Bytes) → S.answerable p ≡ true → O.answerable p ≡ true
  pub enough_answer :
      (room : S.Room) (p : Bytes) → S.enough room ≡ true → S.answerable p ≡ true → O.enough (view_answer room p) ≡ true
  pub same_orderable : (q : Bytes) → S.orderable q ≡ true → O.orderable q ≡ true
  pub enough_submit :
      (room : S.Room) (q : Bytes) → S.enough room ≡ true → S.orderable q ≡ true → O.enough (view_submit room q) ≡ true
  -- the initiator
  pub made_initiator : (n : ℕ) → Permitted n → view_initiator (S.make_initiator n) ≡ O.make_initiator n
  pub made_sound : (n : ℕ) → Permitted n → SoundInitiator (S.make_initiator n)
  pub submits :
      (i : S.Initiator) (room : S.Room) (q : Bytes) → SoundInitiator i
      → Same view_initiator view_telegram SoundInitiator SoundTelegram (S.submit i room q) (O.submit (view_initiator i) (view_submit room q) q)
  pub silence :
      (i : S.Initiator) (room : S.Room) → SoundInitiator i
      → Same view_initiator view_telegram SoundInitiator SoundTelegram (S.silence i room) (O.silence (view_initiator i) (view_room room))
  pub initiator_hears :
      (i : S.Initiator) (room : S.Room) (t : S.Telegram) → SoundInitiator i → SoundTelegram t ⊎ S.StrayToInitiator i t
      → Same view_initiator view_telegram SoundInitiator SoundTelegram (S.initiator_hear i room t)
      (O.initiator_hear (view_initiator i) (view_room room) (view_telegram t))
  pub initiator_restarts :
      (i : S.Initiator) → SoundInitiator i
      → Same view_initiator view_telegram SoundInitiator SoundTelegram (S.initiator_restart i) (O.initiator_restart (view_initiator i))
  pub stray_to_initiator :
      (i : S.Initiator) (t : S.Telegram) → SoundInitiator i → S.StrayToInitiator i t
      → O.StrayToInitiator (view_initiator i) (view_telegram t)
  -- the responder
  pub made_responder : view_responder S.make_responder ≡ O.make_responder
  pub responder_sound : SoundResponder S.make_responder
  pub responder_hears :
      (r : S.Responder) (room : S.Room) (t : S.Telegram) → SoundResponder r → SoundTelegram t ⊎ S.StrayToResponder r t
      → Same view_responder view_telegram SoundResponder SoundTelegram (S.responder_hear r room t)
      (O.responder_hear (view_responder r) (view_room room) (view_telegram t))
  pub answers :
      (r : S.Responder) (room : S.Room) (p : Bytes) → SoundResponder r
      → Same view_responder view_telegram SoundResponder SoundTelegram (S.answer r room p) (O.answer (view_responder r) (view_answer room p) p)
  pub responder_restarts :
      (r : S.Responder) → SoundResponder r
      → (view_responder (S.responder_restart r) ≡ O.responder_restart (view_responder r)) × SoundResponder (S.responder_restart r)
  pub stray_to_responder :
      (r : S.Responder) (t : S.Telegram) → SoundResponder r → S.StrayToResponder r t
      → O.StrayToResponder (view_responder r) (view_telegram t)
