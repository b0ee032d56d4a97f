-- The number of tries is looked at where silence is reported, and nowhere else: on a record with another number a call says and writes the
-- same, and so does silence while tries are left. Read `submit_tried`, `hear_tried`, `restart_tried`, `silence_tried`; `Within` bounds the tries
-- used, by which is known that some are left.
use Prim.Native.Nat.{ℕ, ◌+◌, ◌<◌, ◌≤◌}
use mathlib.Core.Bool.{Bool, true, false}
use mathlib.Core.List.{List, []}
use mathlib.Core.Path.{◌≡◌, refl, ap, ◌∙◌}
use native.Mathlib.Omega.{arith}
use lib.Dec.{ltb}
use lib.ListN.{length}
use borrow.Author.Tests.{lt-ltb}
use Rattle.ground.specs.Pick.{if}
use Rattle.ground.specs.Refusals as refusals
use Rattle.ground.specs.Refusals.{OrRefused}
use Rattle.initiator.specs.Calls.{Outcome, in_phase, keeping, ends_of, sends_opening, sends_order, not_sent, unknown, wrong_order, submit_in, submit_of, silence_in, silence_of, awaiting_ok, awaiting_reply, hear_in, hear_of, restart_in, restart_of}
use Rattle.initiator.specs.Records.{used_of, order_of}
use Rattle.initiator.specs.declared.state.Initiator.{Initiator}
use Rattle.initiator.specs.declared.state.Phase.{Phase}
use Rattle.initiator.specs.declared.state.Phase.TheVariants.{Closed, Ready, Opening, Order}
use Rattle.link_rules.specs.Rules.{room}
use Rattle.link_telegrams.proofs.TurnLaws.{Keeps, kept, picked_keeps, writes_keeps, room_keeps}
use Rattle.link_telegrams.specs.Headers.{opening_header, order_header}
use Rattle.link_telegrams.specs.Heard.{reply_heard_of}
use Rattle.link_telegrams.specs.Turns.{nothing, tells, Turn, saying, refusing, wrote, writes_of, with_room}
use Rattle.link_telegrams.specs.declared.headers.Bit.{Bit}
use Rattle.link_telegrams.specs.declared.headers.Bit.TheVariants.{Low}
use Rattle.link_telegrams.specs.declared.heard.ReplyHeard.{ReplyHeard}
use Rattle.link_telegrams.specs.declared.heard.ReplyHeard.TheVariants as heard
use Rattle.telegram.specs.declared.header.DataTelegramHeader.{DataTelegramHeader}
use Rattle.telegram_tx.specs.Writing.{write_of, buffer_of}
use Rattle.telegram_tx.specs.declared.tx.TelegramTxResponse.{TelegramTxResponse}

-- the record with another number of tries, and a call that leaves it
abbrev pub tried : ℕ → Initiator → Initiator
tried n i = record { link = i.link; tries = n; phase = i.phase; order = i.order; len = i.len }

abbrev pub turn_tried : ℕ → Turn Initiator Outcome → Turn Initiator Outcome
turn_tried n t = record { said = t.said; end = tried n t.end; buffer = t.buffer }

-- silence while tries are left
abbrev again_in : Phase → Initiator → List ℕ → Turn Initiator Outcome
again_in Closed i buf = saying nothing i buf
again_in (Ready b) i buf = saying nothing i buf
again_in (Opening k) i buf = sends_opening i i (k + 1) buf
again_in (Order b k) i buf = sends_order i i b (k + 1) buf

abbrev pub again_of : Initiator → List ℕ → Turn Initiator Outcome
again_of i buf = with_room i buf (again_in i.phase i buf)

module _ (n : ℕ) where
  picked_tried : (t : Bool) (x y : Turn Initiator Outcome) → if t (turn_tried n x) (turn_tried n y) ≡ turn_tried n (if t x y)
  picked_tried true x y = refl
  picked_tried false x y = refl

  wrote_tried :
      (o : OrRefused TelegramTxResponse) (given next : Initiator) (buf : List ℕ)
      → wrote o (tried n given) (tried n next) buf ≡ turn_tried n (wrote o given next buf)
  wrote_tried (refusals.gives response) given next buf = refl
  wrote_tried (refusals.refused k) given next buf = refl

  writes_tried :
      (given next : Initiator) (h : DataTelegramHeader) (pdu buf : List ℕ)
      → writes_of (tried n given) (tried n next) h pdu buf ≡ turn_tried n (writes_of given next h pdu buf)
  writes_tried given next h pdu buf = wrote_tried (write_of h pdu (length buf)) given next (buffer_of h pdu buf)

  room_tried : (i : Initiator) (buf : List ℕ) {x : Turn Initiator Outcome} (y : Turn Initiator Outcome) → x ≡ turn_tried n y → with_room (tried n i) buf x ≡ turn_tried n (with_room i buf y)
  room_tried i buf y e =
      ap (with_room (tried n i) buf) e ∙ picked_tried (ltb (length buf) room) (refusing 10 i buf) y

  module _ (i : Initiator) where
    order_tried :
        (q buf : List ℕ) {x : Turn Initiator Outcome} (y : Turn Initiator Outcome) → x ≡ turn_tried n y
        → if (wrong_order q) (refusing 16 (tried n i) buf) x ≡ turn_tried n (if (wrong_order q) (refusing 16 i buf) y)
    order_tried q buf y e =
        ap (if (wrong_order q) (refusing 16 (tried n i) buf)) e ∙ picked_tried (wrong_order q) (refusing 16 i buf) y

    submit_in_lem : (p : Phase) (q buf : List ℕ) → submit_in p (tried n i) q buf ≡ turn_tried n (submit_in p i q buf)
    submit_in_lem Closed q buf =
        order_tried q buf (sends_opening i (keeping i q) 1 buf) (writes_tried i (in_phase (keeping i q) (Opening 1)) (opening_header i.link) [] buf)
    submit_in_lem (Ready b) q buf =
        order_tried q buf (sends_order i (keeping i q) b 1 buf) (writes_tried i (in_phase (keeping i q) (Order b 1)) (order_header i.link b) (order_of (keeping i q)) buf)
    submit_in_lem (Opening k) q buf = refl
    submit_in_lem (Order b k) q buf = refl

    pub submit_tried : (q buf : List ℕ) → submit_of (tried n i) q buf ≡ turn_tried n (submit_of i q buf)
    unfolding submit_of
    submit_tried q buf = room_tried i buf (submit_in i.phase i q buf) (submit_in_lem i.phase q buf)

    awaiting_ok_lem : (h : ReplyHeard) (buf : List ℕ) → awaiting_ok h (tried n i) buf ≡ turn_tried n (awaiting_ok h i buf)
    awaiting_ok_lem heard.Ok buf = writes_tried i (in_phase i (Order Low 1)) (order_header i.link Low) (order_of i) buf
    awaiting_ok_lem (heard.Reply reply) buf = refl
    awaiting_ok_lem heard.Nothing buf = refl

    awaiting_reply_lem : (b : Bit) (k : ℕ) (h : ReplyHeard) (buf : List ℕ) → awaiting_reply b k h (tried n i) buf ≡ turn_tried n (awaiting_reply b k h i buf)
    awaiting_reply_lem b k heard.Ok buf = refl
    awaiting_reply_lem b k (heard.Reply reply) buf = refl
    awaiting_reply_lem b k heard.Nothing buf = refl

    hear_in_lem : (p : Phase) (h : ReplyHeard) (buf : List ℕ) → hear_in p h (tried n i) buf ≡ turn_tried n (hear_in p h i buf)
    hear_in_lem Closed h buf = refl
    hear_in_lem (Ready b) h buf = refl
    hear_in_lem (Opening k) h buf = awaiting_ok_lem h buf
    hear_in_lem (Order b k) h buf = awaiting_reply_lem b k h buf

    pub hear_tried : (s buf : List ℕ) → hear_of (tried n i) s buf ≡ turn_tried n (hear_of i s buf)
    unfolding hear_of
    hear_tried s buf = room_tried i buf (hear_in i.phase (reply_heard_of i.link s) i buf) (hear_in_lem i.phase (reply_heard_of i.link s) buf)

    restart_in_lem : (p : Phase) → restart_in p (tried n i) ≡ turn_tried n (restart_in p i)
    restart_in_lem Closed = refl
    restart_in_lem (Ready b) = refl
    restart_in_lem (Opening k) = refl
    restart_in_lem (Order b k) = refl

    pub restart_tried : restart_of (tried n i) ≡ turn_tried n (restart_of i)
    unfolding restart_of
    restart_tried = restart_in_lem i.phase

    silence_in_lem : (p : Phase) (buf : List ℕ) → used_of p < n → silence_in p (tried n i) buf ≡ turn_tried n (again_in p i buf)
    silence_in_lem Closed buf h = refl
    silence_in_lem (Ready b) buf h = refl
    silence_in_lem (Opening k) buf h =
        ap (λ (t : Bool). if t (sends_opening (tried n i) (tried n i) (k + 1) buf) (ends_of (tells (not_sent k)) (tried n i) Closed buf)) (lt-ltb k n h)
        ∙ writes_tried i (in_phase i (Opening (k + 1))) (opening_header i.link) [] buf
    silence_in_lem (Order b k) buf h =
        ap (λ (t : Bool). if t (sends_order (tried n i) (tried n i) b (k + 1) buf) (ends_of (tells (unknown k)) (tried n i) Closed buf)) (lt-ltb k n h)
        ∙ writes_tried i (in_phase i (Order b (k + 1))) (order_header i.link b) (order_of i) buf

    pub silence_tried : (buf : List ℕ) → used_of i.phase < n → silence_of (tried n i) buf ≡ turn_tried n (again_of i buf)
    unfolding silence_of
    silence_tried buf h = room_tried i buf (again_in i.phase i buf) (silence_in_lem i.phase buf h)

-- at most b telegrams were written in the phase
pub record Within (b : ℕ) (i : Initiator) : Type 0 where
  pub used : used_of i.phase ≤ b

module _ (b : ℕ) (one : 1 ≤ b) (i : Initiator) (w : Within b i) where
  submit_within_in : (p : Phase) (q buf : List ℕ) → Keeps (Within b) (submit_in p i q buf)
  submit_within_in Closed q buf =
      picked_keeps (Within b) (wrong_order q) (refusing 16 i buf) (sends_opening i (keeping i q) 1 buf)
      (kept (Within b) _ w)
      (writes_keeps (Within b) i w _ _ _ buf (record { used = one }))
  submit_within_in (Ready c) q buf =
      picked_keeps (Within b) (wrong_order q) (refusing 16 i buf) (sends_order i (keeping i q) c 1 buf)
      (kept (Within b) _ w)
      (writes_keeps (Within b) i w _ _ _ buf (record { used = one }))
  submit_within_in (Opening k) q buf = kept (Within b) _ w
  submit_within_in (Order c k) q buf = kept (Within b) _ w

  pub submit_within : (q buf : List ℕ) → Within b (submit_of i q buf).end
  unfolding submit_of
  submit_within q buf = (room_keeps (Within b) i w buf (submit_in i.phase i q buf) (submit_within_in i.phase q buf)).after

  ok_within : (h : ReplyHeard) (buf : List ℕ) → Keeps (Within b) (awaiting_ok h i buf)
  ok_within heard.Ok buf = writes_keeps (Within b) i w _ _ _ buf (record { used = one })
  ok_within (heard.Reply reply) buf = kept (Within b) _ w
  ok_within heard.Nothing buf = kept (Within b) _ w

  reply_within : (c : Bit) (k : ℕ) (h : ReplyHeard) (buf : List ℕ) → Keeps (Within b) (awaiting_reply c k h i buf)
  reply_within c k heard.Ok buf = kept (Within b) _ w
  reply_within c k (heard.Reply reply) buf = kept (Within b) _ (record { used = omega arith })
  reply_within c k heard.Nothing buf = kept (Within b) _ w

  hear_within_in : (p : Phase) (h : ReplyHeard) (buf : List ℕ) → Keeps (Within b) (hear_in p h i buf)
  hear_within_in Closed h buf = kept (Within b) _ w
  hear_within_in (Ready c) h buf = kept (Within b) _ w
  hear_within_in (Opening k) h buf = ok_within h buf
  hear_within_in (Order c k) h buf = reply_within c k h buf

  pub hear_within : (s buf : List ℕ) → Within b (hear_of i s buf).end
  unfolding hear_of
  hear_within s buf =
      (room_keeps (Within b) i w buf _ (hear_within_in i.phase (reply_heard_of i.link s) buf)).after

restart_within_in : (b : ℕ) (i : Initiator) (p : Phase) → Within b (restart_in p i).end
restart_within_in b i Closed = record { used = omega arith }
restart_within_in b i (Ready c) = record { used = omega arith }
restart_within_in b i (Opening k) = record { used = omega arith }
restart_within_in b i (Order c k) = record { used = omega arith }

pub restart_within : (b : ℕ) (i : Initiator) → Within b (restart_of i).end
unfolding restart_of
restart_within b i = restart_within_in b i i.phase

-- silence writes one telegram more
module _ (b : ℕ) (i : Initiator) (w : Within b i) where
  more : Within (1 + b) i
  more = record { used = omega (arith, w.used) }

  one_more : (p : Phase) → i.phase ≡ p → used_of p + 1 ≤ 1 + b
  one_more p e = let u : used_of i.phase ≡ used_of p = ap used_of e in omega (arith, w.used, u)

  again_within_in : (p : Phase) (buf : List ℕ) → i.phase ≡ p → Keeps (Within (1 + b)) (again_in p i buf)
  again_within_in Closed buf e = kept (Within (1 + b)) _ more
  again_within_in (Ready c) buf e = kept (Within (1 + b)) _ more
  again_within_in (Opening k) buf e = writes_keeps (Within (1 + b)) i more _ _ _ buf (record { used = one_more (Opening k) e })
  again_within_in (Order c k) buf e = writes_keeps (Within (1 + b)) i more _ _ _ buf (record { used = one_more (Order c k) e })

  pub again_within : (buf : List ℕ) → Within (1 + b) (again_of i buf).end
  again_within buf = (room_keeps (Within (1 + b)) i more buf _ (again_within_in i.phase buf refl)).after
